-- A program gives start values only to slots that it shows: a start value is one of a variable that the program itself
-- declares.
use Rattle.std.proofs.Common.{◌≡◌, ℕ, ◌+◌, ◌<◌, ℤ, List, [], ◌∷◌, Bool, true, false, cond, not, ◌||◌, Option, Some}
use Rattle.std.proofs.Common.{None, refl, sym, ◌∙◌, subst, arith, nat_eq, All}
use Rattle.std.specs.Prelude.{filter, IsTrue}
use Rattle.std.specs.List.{flat_map, list_any}
use Rattle.std.specs.Map.{lookup}
use Rattle.std.specs.Str.{bytes_eq}
use Rattle.std.proofs.lemmas.Bool.{eqb-true}
use Rattle.std.proofs.lemmas.List.Elements.{All-nil, All-cons, All-append, All-map, All-weaker, All-filter}
use Rattle.unity_syntax.specs.declared.declaration.Var.{Var}
use Rattle.unity_syntax.specs.declared.declaration.Init.{Init}
use Rattle.unity_syntax.specs.declared.program.Program.{Program}
use Rattle.unity_syntax.specs.declared.document.Part.{Part as DocumentPart}
use Rattle.meaning_documents.specs.Names.{Variable}
use Rattle.meaning_documents.specs.Setting.{programs_among, slots_for, with_declarations}
use Rattle.names_rules.specs.declared.named.Named.{Named}
use Rattle.names_rules.specs.Scope.{Table, is_variable, is_value, is_visible, visible}
use Rattle.names_rules.specs.Reading.{earlier}
use Rattle.names_rules.specs.Part.{run}
use Rattle.names_rules.specs.Declarations.{items_of, some_of, program_scope, variable_part, always_part}
use Rattle.names_rules.specs.Declarations.{initially_reading}
use Rattle.names_rules.specs.Statements.{items_part}
use Rattle.names_rules.specs.WellNamed.{Declared, nothing_declared, new_program, start_reading, program_body, part_of}
use Rattle.meaning_documents.specs.Names.{variable_named}
use Rattle.names_laws.specs.VariableLaws.{Mirrors}
use Rattle.names_laws.specs.StayingLaws.{StaysIn}
use Rattle.names_laws.proofs.AttributeTheorems.{and_first, and_second}
use Rattle.names_rules.proofs.Faults.{earlier_first, earlier_second}
use Rattle.names_laws.proofs.Mirrored.{mirrored_by_documents}
use Rattle.names_laws.proofs.Staying.{stays_in_documents}
use Rattle.core_terms.specs.declared.programs.CSlot.{CSlot}
use Rattle.core_terms.specs.declared.programs.CProgram.{CProgram}
use Rattle.core_terms.specs.Conditions.{is_shown}
use Rattle.core_terms.specs.Unions.{gives, merged}
use Rattle.expand_declarations.specs.Texts.{Texts}
use Rattle.expand_declarations.specs.WordNumbers.{document_words, word_number}
use Rattle.expand_rules.specs.Forming.{Scope}
use Rattle.expand_declarations.specs.Slots.{declared_by, document_slots}
use Rattle.expand_declarations.specs.Shown.{shown_slots}
use Rattle.expand_declarations.specs.Start.{start_slot, start_entry, start_values}
use Rattle.expand_fits_parts.proofs.lemmas_from_expand_correct.Declared.Agreed.{variables_agree}
use Rattle.expand_declarations.proofs.NearIndices.{parts_fault}
use Rattle.expand_fits_parts.specs.from_expand_documents.Cores.{declared_scope, part_definitions, document_scope}
use Rattle.expand_fits_parts.specs.Forms.Naming.{SlotsPass}
use Rattle.expand_fits_parts.specs.Forms.Placing.{declares}
use Rattle.expand_fits_parts.specs.Forms.ShowingLaws.{names_apart}
use Rattle.expand_fits_parts.proofs.Forms.Declaring.{hold_variables, hold_definitions}
use Rattle.expand_fits_parts.proofs.Forms.Showing.{Owned, variable_no_value}
use Rattle.expand_fits_parts.proofs.Forms.Placed.{slots_shown}
use Rattle.expand_fits_parts.proofs.Conditions.Programs.{Makes, all_cores, union_makes}
use Rattle.expand_fits.proofs.Initial.StartSlots.{Follow, follow_all}
use Rattle.expand_fits.proofs.Initial.Starts.{InitFine, all_fine, located, start_at, same_variables}
use Rattle.expand_fits.specs.StartConditions.{StartsShown}
use Rattle.expand_fits_parts.proofs.Forms.Unions.{shown_first, shown_second}
use Rattle.expand_fits_parts.proofs.Forms.ShownPrograms.{Told, told_value, told_more, no_value, owned_value, clear_of}
use Rattle.expand_fits_parts.proofs.Forms.ShownPrograms.{own_variables, own_definitions, told_variables}
use Rattle.expand_fits_parts.proofs.Forms.ShownPrograms.{told_definitions}

-- a start section in the table of its program, whose variables are these
record ShownSection (final : Table) (own : List Var) (inits : List Init) : Type 0 where
  names : Table
  program : ℕ
  stays : StaysIn names final
  fine : All (InitFine (program_scope program names)) inits
  owned : (word : List ℕ) (n : Named) → lookup (bytes_eq word) names ≡ Some n → Owned program own word n

abbrev HasShown : Table → Program → Type 0
HasShown final (Program.Union at name left right) = Unit {0}
HasShown final (Program.Plain at name declare always initially start items) =
    ShownSection final (items_of declare) (some_of start)

sections_shown : (final : Table) (before : List ℕ) (d : Declared) (parts : List DocumentPart) →
    (run part_of d parts).fault ≡ None → StaysIn (run part_of d parts).after.names final →
    ((word : List ℕ) (n : Named) → lookup (bytes_eq word) d.names ≡ Some n → Told before word n) →
    names_apart before (programs_among parts) ≡ true → All (HasShown final) (programs_among parts)
sections_shown final before d [] h stays told apart = All-nil (HasShown final)
sections_shown final before d (DocumentPart.Program at (Program.Union at2 name left right) ∷ rest) h stays told apart =
    let p = part_of d (DocumentPart.Program at (Program.Union at2 name left right)) in
    All-cons (HasShown final) (Program.Union at2 name left right) (programs_among rest) tt
    (sections_shown final before p.after rest (earlier_second p.fault (run part_of p.after rest).fault h) stays told
    apart)
sections_shown final before d
    (DocumentPart.Program at (Program.Plain at2 name declare always initially start items) ∷ rest) h stays told apart =
    let r = part_of d (DocumentPart.Program at (Program.Plain at2 name declare always initially start items)) in
    let later = earlier_second r.fault (run part_of r.after rest).fault h in
    let here = earlier_first r.fault (run part_of r.after rest).fault h in
    let own = items_of declare in
    let a = (new_program d.programs name).fault in
    let p = run (variable_part name.at) d.names own in
    let q = always_part name.at p.after (items_of always) in
    let b = earlier p.fault q.fault in
    let place = program_scope name.at q.after in
    let body = program_body place initially (some_of start) items d.labels in
    let c = earlier body.fault None in
    let both = earlier_second a (earlier b c) here in
    let vf = earlier_first p.fault q.fault (earlier_first b c both) in
    let i = earlier_first body.fault None (earlier_second b c both) in
    let first = (initially_reading place initially).fault in
    let second = (start_reading place (some_of start)).fault in
    let f = all_fine place [] (some_of start) (earlier_second first second
    (earlier_first (earlier first second) (items_part items place d.labels).fault i)) in
    let new = not (list_any (nat_eq name.at) before) in
    let others = names_apart (name.at ∷ before) (programs_among rest) in
    let clear = clear_of (list_any (nat_eq name.at) before) (and_first new others apart) in
    let owned1 = hold_variables (Owned name.at own) (owned_value name.at own) name.at d.names own vf
    (own_variables name.at own own (λ w k. k))
    (λ word n e k o. absurd (no_value (is_value n.meaning) (told_value before name.at n clear o (told word n e))
    (variable_no_value n.meaning k))) in
    let owned2 = hold_definitions (Owned name.at own) (owned_value name.at own) name.at p.after (items_of always)
    (own_definitions name.at own (items_of always)) owned1 in
    let more = λ (word : List ℕ) (n : Named) (e : lookup (bytes_eq word) d.names ≡ Some n). told_more
    (is_value n.meaning) (list_any (nat_eq n.program) before) (nat_eq n.program name.at) (told word n e) in
    let told1 = hold_variables (Told (name.at ∷ before)) (λ w sort number. refl) name.at d.names own vf
    (told_variables name.at before own) more in
    let told2 = hold_definitions (Told (name.at ∷ before)) (λ w sort number. refl) name.at p.after (items_of always)
    (told_definitions name.at before (items_of always)) told1 in
    All-cons (HasShown final) (Program.Plain at2 name declare always initially start items) (programs_among rest)
    (record {
      names = q.after;
      program = name.at;
      stays = λ word n e.
          let k = stays_in_documents r.after rest later word n e in stays word (record n { program = k.0 }) k.1;
      fine = f.fine;
      owned = owned2;
    })
    (sections_shown final (name.at ∷ before) r.after rest later stays told2 (and_second new others apart))
sections_shown final before d (DocumentPart.Proof at of ∷ rest) h stays told apart =
    let p = part_of d (DocumentPart.Proof at of) in
    sections_shown final before p.after rest (earlier_second p.fault (run part_of p.after rest).fault h) stays told
    apart

-- a variable that is visible in a program is declared by it
visible_own : (p : ℕ) (o : Option Named) (n : Named) → is_variable n.meaning ≡ true → visible (Some p) o ≡ Some n →
    (o ≡ Some n) × (n.program ≡ p)
visible_own p None n kind e = cc e
visible_own p (Some m) n kind e = by (is_visible (Some p) m) refl e
  where
    second : (a b : Bool) → a ≡ false → (a || b) ≡ true → b ≡ true
    second true b h k = cc h
    second false b h k = k

    one : (x y : Named) → Some x ≡ Some y → x ≡ y
    one x y f = cc f

    by : (b : Bool) → is_visible (Some p) m ≡ b → cond b (Some m) None ≡ Some n →
        (Some m ≡ Some n) × (n.program ≡ p)
    by true seen f =
        let same = one m n f in (
          f,
          eqb-true n.program p (second (is_value n.meaning) (nat_eq n.program p)
              (variable_no_value n.meaning kind) (subst (λ (x : Named). is_visible (Some p) x ≡ true) same seen)),
        )
    by false seen f = cc f

pass_at : (slots : ℕ → Bool) (v : Variable) (m : Option (ℤ × ℤ)) (j : ℕ) → SlotsPass slots v m → j < slots_for m →
    slots (v.first + j) ≡ true
pass_at slots v None j h k =
    let small : j < 1 = k in
    let e : v.first ≡ v.first + j = omega (arith, small) in subst (λ n. slots n ≡ true) e h
pass_at slots v (Some r) j h k = h j k

module _ (final : Table) (vs : List Variable) (mirrors : Mirrors final vs) (follow : Follow 0 vs)
    (shown_by : List Var → List ℕ)
    (shown : (own : List Var) (name : List ℕ) (v : Variable) → variable_named name vs ≡ Some v →
    declares own name ≡ true → SlotsPass (is_shown (shown_by own)) v v.indices) where
  start_shown : (own : List Var) (inits : List Init) (s : ShownSection final own inits) (init : Init) →
      InitFine (program_scope s.program s.names) init → is_shown (shown_by own) (start_slot vs init) ≡ true
  start_shown own inits s init f =
      let n = f.named in
      let word = init.name.text in
      let l = located final vs mirrors follow s.program s.names s.stays init f in
      let v = l.variable in
      let entry = visible_own s.program (lookup (bytes_eq word) s.names) n f.var f.there in
      let pass = shown own word v l.named (s.owned word n entry.0 f.var entry.1) in
      subst (λ k. is_shown (shown_by own) k ≡ true)
      (sym (start_at final vs mirrors follow s.program s.names s.stays init n l))
      (pass_at (is_shown (shown_by own)) v v.indices l.placed.distance pass l.placed.within)

  starts_of : (own : List Var) (inits : List Init) (values : List (List ℕ × ℤ)) (s : ShownSection final own inits) →
      All (λ e. IsTrue (is_shown (shown_by own) e.0)) (start_values vs values inits)
  starts_of own inits values s = All-map (λ e. IsTrue (is_shown (shown_by own) e.0)) (start_entry vs values) inits
      (All-weaker (InitFine (program_scope s.program s.names))
      (λ i. IsTrue (is_shown (shown_by own) (start_slot vs i))) (λ i f. start_shown own inits s i f) inits s.fine)

abbrev Shows : CProgram → Type 0
Shows c = All (λ e. IsTrue (is_shown c.shown e.0)) c.start

makes_shown : (words : Texts) (s : Scope) (slots : List CSlot) (final : Table) (vs : List Variable) →
    s.variables ≡ vs → Mirrors final vs → Follow 0 vs →
    ((own : List Var) (name : List ℕ) (v : Variable) → variable_named name vs ≡ Some v → declares own name ≡ true →
    SlotsPass (is_shown (shown_slots words own slots)) v v.indices) → (program : Program) → HasShown final program →
    Makes Shows words s slots program
makes_shown words s slots final vs same mirrors follow shown (Program.Union at name left right) h before k =
    union_makes Shows words s slots (word_number words name.text)
    (λ f g a b.
    let all = merged f.shown g.shown in
    let kept = λ (e : ℕ × ℤ). not (gives f.start e.0) in
    All-append (λ e. IsTrue (is_shown all e.0)) f.start (filter kept g.start)
    (All-weaker (λ e. IsTrue (is_shown f.shown e.0)) (λ e. IsTrue (is_shown all e.0))
    (λ e t. shown_first f.shown g.shown e.0 t) f.start a)
    (All-filter kept (λ e. IsTrue (is_shown all e.0)) g.start
    (All-weaker (λ e. IsTrue (is_shown g.shown e.0)) (λ e. IsTrue (is_shown all e.0))
    (λ e t. shown_second f.shown g.shown e.0 t) g.start b)))
    (word_number words left.text) (word_number words right.text) before k
makes_shown words s slots final vs same mirrors follow shown
    (Program.Plain at name declare always initially start items) h before k =
    let own = items_of declare in
    subst (λ (x : List Variable). All (λ e. IsTrue (is_shown (shown_slots words own slots) e.0))
    (start_values x s.words (some_of start))) (sym same)
    (starts_of final vs mirrors follow (λ own. shown_slots words own slots) shown own (some_of start) s.words h)

pub starts_shown : StartsShown
starts_shown d named apart =
    let words = document_words d in let s = document_scope d.parts in let slots = document_slots words d.parts in
    let ds = declared_by d.parts in
    let vs = with_declarations [] ds in
    let final = (run part_of nothing_declared d.parts).after.names in
    let fault = parts_fault d named in
    let same : s.variables ≡ vs = same_variables (declared_scope d.parts) (flat_map part_definitions d.parts)
    ∙ sym (variables_agree d.parts) in
    let mirrors = subst (λ (x : List Variable). Mirrors final x) (sym (variables_agree d.parts))
    (mirrored_by_documents d.parts fault) in
    let makes = makes_shown words s slots final vs same mirrors (follow_all [] ds tt)
    (λ own name v e h. slots_shown words ds own name v e h) in
    all_cores Shows words s slots d.parts
    (All-weaker (HasShown final) (Makes Shows words s slots) makes (programs_among d.parts)
    (sections_shown final [] nothing_declared d.parts fault (λ word n e. (n.program, e)) (λ word n e. cc e)
    apart.apart)) [] (All-nil Shows)
