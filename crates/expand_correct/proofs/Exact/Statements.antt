-- The statements and the initially sections of a well-named document become exact.
use Rattle.std.proofs.Common.{◌≡◌, ℕ, zero, suc, List, [], ◌∷◌, ◌++◌, map, Option, Some, None}
use Rattle.std.proofs.Common.{true, slice_get, refl, subst, ap, ◌∙◌}
use Rattle.std.specs.Prelude.{option_map}
use Rattle.std.specs.List.{flat_map}
use Rattle.std.specs.Map.{lookup}
use Rattle.std.specs.Option.{option_or}
use Rattle.std.specs.Str.{bytes_eq}
use Rattle.case_tables.specs.declared.code_table.Code.{Code}
use Rattle.unity_syntax.specs.declared.program.Initially.{Initially}
use Rattle.unity_syntax.specs.declared.program.Program.{Program}
use Rattle.unity_syntax.specs.declared.statement.Items.{Items}
use Rattle.unity_syntax.specs.declared.statement.Item.TheOpen.{Item-F}
use Rattle.unity_syntax.specs.declared.document.Document.{Document}
use Rattle.unity_syntax.specs.TwoFolds.{Related, ItemLayers, ItemsLayers}
use Rattle.unity_syntax.proofs.ItemFolds.{two_items}
use Rattle.meaning_documents.specs.Names.{Bindings}
use Rattle.meaning_documents.specs.Value.{range_values}
use Rattle.meaning_documents.specs.Instances.{Unfolding, unfolded}
use Rattle.meaning_documents.specs.Instances.{item_layer as unfold_item, items_layer as unfold_items}
use Rattle.meaning_documents.specs.Setting.{programs_among}
use Rattle.names_rules.specs.declared.named.Meaning.{Meaning}
use Rattle.names_rules.specs.declared.named.Sort.{Sort}
use Rattle.names_rules.specs.Scope.{Scope as NameScope, with_bound}
use Rattle.names_rules.specs.Reading.{earlier, beside, binding, filled, read, unless, same_sort}
use Rattle.names_rules.specs.Part.{run}
use Rattle.names_rules.specs.Declarations.{items_of, some_of, program_scope, variable_part, always_part}
use Rattle.names_rules.specs.Declarations.{initially_reading}
use Rattle.names_rules.specs.Statements.{Labels, Listed, label_part, assign_reading, item_layer, items_layer}
use Rattle.names_rules.specs.Statements.{items_part}
use Rattle.names_rules.specs.WellNamed.{nothing_declared, part_of, new_program, program_body, start_reading}
use Rattle.names_rules.specs.WellNamed.{IsWellNamed}
use Rattle.names_rules.specs.Proofs.{proof_scope}
use Rattle.meaning_documents.specs.Names.{variable_named}
use Rattle.names_laws.specs.AttributeLaws.{ArraysVary}
use Rattle.names_laws.proofs.AttributeTheorems.{exact_where_faultless}
use Rattle.names_rules.proofs.Faults.{earlier_first, earlier_second}
use Rattle.names_laws.proofs.AttributeTheorems.{variables_vary, definitions_vary}
use Rattle.names_laws.proofs.Assignments.{exact_assignments}
use Rattle.expand_rules.specs.declared.cores.Formed.{Formed}
use Rattle.expand_rules.specs.Forming.{Scope, formed_or_zero, variable_formed, number_constant}
use Rattle.expand_rules.specs.Assigning.{among}
use Rattle.expand_rules.specs.Documents.{scope_of, within}
use Rattle.expand_correct.specs.Values.ExactLaws.{Agrees}
use Rattle.expand_correct.specs.Values.SightLaws.{SeeSame}
use Rattle.expand_correct.proofs.Values.SameSight.{formed_by_sight, assigned_by_sight}
use Rattle.expand_correct.proofs.Values.Exactness.{expressions_exact, assignments_exact, agrees_inside}
use Rattle.expand_correct.proofs.Values.Agreeing.{document_agrees}
use Rattle.expand_correct.specs.Exact.Parts.{EachItem, ProgramStands, final_names}
use Rattle.expand_correct.specs.Exact.ByNames.{document_scope, IsExactInstance, ExactStatements, ExactSection}
use Rattle.expand_correct.specs.Exact.ByNames.{ExactInitially, StatementsByNames, InitiallyByNames}
use Rattle.expand_correct.specs.Exact.ByNames.{AlwaysByNames}
use Rattle.expand_correct.specs.Exact.Seen.{SeesDocument, StatementsSeen, InitiallySeen}
use Rattle.expand_correct.proofs.Exact.Sights.{sees_among, sees_outside, document_seen}
use Rattle.expand_correct.proofs.Exact.Standing.{programs_stand, document_fault, same_some}

-- lists

pub everywhere_joined : {X : Type 0} (P : X → Type 0) (xs ys : List X) → EachItem P xs → EachItem P ys →
    EachItem P (xs ++ ys)
everywhere_joined P [] ys h k place x e = k place x e
everywhere_joined P (y ∷ xs) ys h k zero x e = h zero x e
everywhere_joined P (y ∷ xs) ys h k (suc place) x e =
    everywhere_joined P xs ys (λ m z. h (suc m) z) k place x e

pub everywhere_flat : {X Y : Type 0} (P : Y → Type 0) (f : X → List Y) → ((x : X) → EachItem P (f x)) →
    (xs : List X) → EachItem P (flat_map f xs)
everywhere_flat P f h [] = λ place x e. cc e
everywhere_flat P f h (y ∷ xs) = everywhere_joined P (f y) (flat_map f xs) (h y) (everywhere_flat P f h xs)

pub everywhere_one : {X : Type 0} (P : X → Type 0) (y : X) → P y → EachItem P (y ∷ [])
everywhere_one P y h zero x e = subst P (same_some e) h
everywhere_one P y h (suc place) x e = cc e

-- items

-- where an item has no fault, each of its instances is exact wherever words stand for the same
abbrev Exactly : Scope → Scope → Listed → Unfolding → Type 0
Exactly s t f g = (n : NameScope) (b : Bindings) (labels : Labels) → ArraysVary n.names → Agrees n (among t b) →
    (f n labels).fault ≡ None → EachItem (IsExactInstance s) (g b)

module _ (s t : Scope) (see : SeeSame s t) where
  abbrev Part : Type 0
  Part = Related (Exactly s t)

  item_exact : ItemLayers (Exactly s t) (Exactly s t) item_layer unfold_item
  item_exact (Item-F.Statement at label assign) n b labels vary g fault =
      everywhere_one (IsExactInstance s) (record { label = label.text; bindings = b; assign = assign })
      (ap (λ x. x.exact) (assigned_by_sight assign (among s b) (among t b) (sees_among s t see b))
      ∙ assignments_exact assign n (among t b) g (exact_assignments assign n vary
      (earlier_second (label_part labels label).fault (assign_reading assign n).fault fault)))
  item_exact (Item-F.Quantified at name range of) n b labels vary g fault =
      let inner = with_bound n name.text (Meaning.Bound name.at) in
      let own = beside (binding n name (Meaning.Bound name.at)) (filled n.bounds range) in
      everywhere_flat (IsExactInstance s) (λ z. of.1 ((name.text, z) ∷ b))
      (λ z. of.2 inner ((name.text, z) ∷ b) labels vary (agrees_inside n (among t b) g name.text name.at z)
      (earlier_second own.fault (of.0 inner labels).fault fault)) (range_values b range)

  rest_exact : (n : NameScope) (b : Bindings) (labels : Labels) → ArraysVary n.names → Agrees n (among t b) →
      (ks : List Part) →
      (run (λ others (m : Listed). m n others) labels (map (λ k. k.0) ks)).fault ≡ None →
      EachItem (IsExactInstance s) (flat_map (λ item. item b) (map (λ k. k.1) ks))
  rest_exact n b labels vary g [] fault = λ place x e. cc e
  rest_exact n b labels vary g (k ∷ ks) fault =
      let p = k.0 n labels in
      let q = run (λ others (m : Listed). m n others) p.after (map (λ j. j.0) ks) in
      everywhere_joined (IsExactInstance s) (k.1 b) (flat_map (λ item. item b) (map (λ j. j.1) ks))
      (k.2 n b labels vary g (earlier_first p.fault q.fault fault))
      (rest_exact n b p.after vary g ks (earlier_second p.fault q.fault fault))

  list_exact : ItemsLayers (Exactly s t) (Exactly s t) items_layer unfold_items
  list_exact y n b labels vary g fault =
      let p = y.first.0 n labels in
      let q = run (λ others (m : Listed). m n others) p.after (map (λ k. k.0) y.rest) in
      everywhere_joined (IsExactInstance s) (y.first.1 b) (flat_map (λ item. item b) (map (λ k. k.1) y.rest))
      (y.first.2 n b labels vary g (earlier_first p.fault q.fault fault))
      (rest_exact n b p.after vary g y.rest (earlier_second p.fault q.fault fault))

  pub items_exact : (items : Items) → Exactly s t (items_part items) (unfolded items)
  items_exact items = (two_items (Exactly s t) (Exactly s t) item_layer items_layer unfold_item unfold_items item_exact
      list_exact).1 items

-- sections

section_exact : (s t : Scope) → SeeSame s t → (n : NameScope) → ArraysVary n.names → Agrees n t →
    (o : Option Initially) → (initially_reading n o).fault ≡ None → ExactSection s o
section_exact s t see n vary g None fault = tt
section_exact s t see n vary g (Some section) fault =
    let r = read section.of n in
    ap (λ x. x.exact) (formed_by_sight section.of s t see) ∙ expressions_exact section.of n t g
    (exact_where_faultless section.of n vary
    (earlier_first r.fault (unless (same_sort r.sort Sort.Boolean) Code.WrongType r.at) fault))

-- programs

record ExactParts (s : Scope) (program : Program) : Type 0 where
  statements : ExactStatements s program
  initially : ExactInitially s program

parts_exact : (d : Document) → (run part_of nothing_declared d.parts).fault ≡ None → (s : Scope) →
    SeeSame s (document_scope d) → (program : Program) → ProgramStands (final_names d) program →
    ExactParts s program
parts_exact d fault s see (Program.Union at name left right) stands = record { statements = tt; initially = tt }
parts_exact d fault s see (Program.Plain at name declare always initially start items) stands =
    let before = stands.before in
    let a = (new_program before.programs name).fault in
    let p = run (variable_part name.at) before.names (items_of declare) in
    let q = always_part name.at p.after (items_of always) in
    let n = program_scope name.at q.after in
    let body = program_body n initially (some_of start) items before.labels in
    let b = earlier p.fault q.fault in
    let c = earlier body.fault None in
    let inside = earlier_first body.fault None (earlier_second b c (earlier_second a (earlier b c) stands.faultless))
    in
    let first = initially_reading n initially in
    let second = start_reading n (some_of start) in
    let listed = items_part items n before.labels in
    let vary = definitions_vary name.at p.after (items_of always)
    (variables_vary name.at before.names (items_of declare) stands.vary) in
    let g : Agrees n (document_scope d) = document_agrees d.parts fault n [] stands.stays
    (record { numbers = λ word m e. cc e; free = λ word e f. refl }) in
    record {
      statements = items_exact s (document_scope d) see items n [] before.labels vary g
          (earlier_second (beside first second).fault listed.fault inside);
      initially = section_exact s (document_scope d) see n vary g initially
          (earlier_first first.fault second.fault (earlier_first (beside first second).fault listed.fault inside));
    }

program_exact : (d : Document) → IsWellNamed d → (s : Scope) → SeesDocument s d → (place : ℕ) (program : Program) →
    slice_get (programs_among d.parts) place ≡ Some program → ExactParts s program
program_exact d named s see place program e = parts_exact d (document_fault d named) s (sees_outside s d see) program
    (programs_stand d named place program e)

pub statements_seen : StatementsSeen
statements_seen d named s see place program e = (program_exact d named s see place program e).statements

pub initially_seen : InitiallySeen
initially_seen d named s see place program e = (program_exact d named s see place program e).initially

pub statements_by_names : StatementsByNames
statements_by_names d named = statements_seen d named (document_scope d) (document_seen d)

pub initially_by_names : InitiallyByNames
initially_by_names d named = initially_seen d named (document_scope d) (document_seen d)

-- always names

always_exact : (s : Scope) (n : NameScope) → Agrees n (within s []) → (word : List ℕ) (f : Formed) →
    lookup (bytes_eq word) s.always ≡ Some f → f.exact ≡ true
always_exact s n g word f e = subst (λ (o : Option Formed). (formed_or_zero (option_or o
    (option_or (variable_formed (variable_named word s.variables))
    (option_map number_constant (lookup (bytes_eq word) s.words))))).exact ≡ true) e (g.exact word)

pub always_by_names : AlwaysByNames
always_by_names d named = always_exact (scope_of (programs_among d.parts)) (proof_scope [] [])
    (document_agrees d.parts (document_fault d named) (proof_scope [] []) [] (λ word n e. cc e)
    (record { numbers = λ word m e. cc e; free = λ word e f. refl }))
