-- A document without `div` and `mod` has a core form without quotients.
use Rattle.std.proofs.Common.{◌≡◌, ℕ, ◌+◌, nat_eq, List, [], ◌∷◌, ◌++◌, map, Bool, true, false, cond, ◌&&◌}
use Rattle.std.proofs.Common.{length, refl}
use Rattle.std.proofs.Common.{Option, Some, None, IsTrue, sym, subst}
use Rattle.std.specs.Prelude.{All}
use Rattle.std.specs.List.{flat_map}
use Rattle.std.specs.Map.{lookup}
use Rattle.std.specs.Str.{bytes_eq}
use Rattle.indexmap.specs.IndexMap.{insert_entry}
use Rattle.unity_syntax.specs.declared.expression.Expr.{Expr}
use Rattle.unity_syntax.specs.declared.declaration.Def.{Def}
use Rattle.unity_syntax.specs.declared.program.Initially.{Initially}
use Rattle.unity_syntax.specs.declared.program.Program.{Program}
use Rattle.unity_syntax.specs.declared.term.Term.{Term, fold-Term}
use Rattle.unity_syntax.specs.declared.term.Term.TheOpen.{Term-F}
use Rattle.unity_syntax.specs.declared.proof.Claim.{Claim}
use Rattle.unity_syntax.specs.declared.proof.Rule.{Rule}
use Rattle.unity_syntax.specs.declared.proof.Step.{Step}
use Rattle.unity_syntax.specs.declared.proof.Proof.{Proof}
use Rattle.unity_syntax.specs.declared.document.Part.{Part}
use Rattle.unity_syntax.specs.TwoFolds.{TermLayers}
use Rattle.unity_syntax.proofs.TermFolds.{two_terms}
use Rattle.meaning_states.proofs.StepTheorems.{and_left, and_right}
use Rattle.meaning_documents.specs.Instances.{Instance, instances}
use Rattle.meaning_documents.specs.Setting.{programs_among}
use Rattle.meaning_documents.specs.Steps.{proofs_among}
use Rattle.core_terms.specs.declared.trees.CTerm.{CTerm}
use Rattle.core_terms.specs.declared.trees.CForm.{CForm}
use Rattle.core_terms.specs.declared.programs.CSlot.{CSlot}
use Rattle.core_terms.specs.declared.programs.CProgram.{CProgram}
use Rattle.core_terms.specs.declared.documents.CProof.{CProof}
use Rattle.core_terms.specs.Conditions.{also, any_place, parts_of}
use Rattle.expand_declarations.specs.Numbers.{core_range}
use Rattle.expand_declarations.specs.Texts.{Texts}
use Rattle.expand_declarations.specs.WordNumbers.{document_words, word_number}
use Rattle.expand_declarations.specs.Slots.{document_slots}
use Rattle.expand_declarations.proofs.PairRules.{of_pair_rule}
use Rattle.expand_rules.specs.declared.cores.Formed.{Formed}
use Rattle.expand_rules.specs.Forming.{Scope, formed}
use Rattle.expand_rules.specs.Assigning.{among, stated}
use Rattle.expand_rules.specs.Programs.{core_statement, initial_form}
use Rattle.upgraded_texts.specs.from_expand_steps.Elements.{form_in, term_in}
use Rattle.upgraded_texts.specs.from_expand_steps.ProofTerms.{Place, Terming, fixed_ends, ref_in, term_layer, termed}
use Rattle.upgraded_texts.specs.from_expand_steps.ProofTerms.{with_bound_name}
use Rattle.upgraded_texts.specs.from_expand_steps.Steps.{claim_p, claim_q, core_rule, core_step, step_place}
use Rattle.upgraded_texts.specs.from_expand_documents.AlwaysNames.{with_definition, with_definitions}
use Rattle.upgraded_texts.specs.from_expand_documents.Cores.{core_named, core_program, core_proofs, core_union}
use Rattle.upgraded_texts.specs.from_expand_documents.Cores.{declared_scope}
use Rattle.upgraded_texts.specs.from_expand_documents.Cores.{document_scope, part_definitions, with_core, with_cores}
use Rattle.upgraded_texts.proofs.lemmas_from_expand_fits_parts.Forms.TermParts.{parts-Imply, parts-From, parts-Exists}
use Rattle.upgraded_texts.proofs.lemmas_from_expand_fits_parts.Forms.TermParts.{parts-Induct, parts-Psp}
use Rattle.upgraded_texts.proofs.lemmas_from_expand_fits_parts.Forms.TermParts.{parts-Weaken, pair_parts}
use Rattle.rules_table.proofs.EachLaws.{Each, each_at, each_join, found_in, from_all}
use Rattle.proof_script.proofs.lemmas_from_rules_steps.ItemLaws.{to_all}
use Rattle.plain_quotients.specs.Plain.{FormIsPlain, TermIsPlain, StatementIsPlain, ProgramIsPlain, RuleIsPlain}
use Rattle.plain_quotients.specs.Plain.{StepIsPlain}
use Rattle.plain_quotients.specs.Sources.{has_only_times, assigns_only_times, term_times, claim_times, rule_times}
use Rattle.plain_quotients.specs.Sources.{step_times, initially_times, ProgramOnlyTimes, ScopeIsPlain, DocumentsPlain}
use Rattle.plain_quotients.proofs.FormLaws.{top_plain, bottom_plain, and_kept}
use Rattle.plain_quotients.proofs.TermLaws.{PartsArePlain}
use Rattle.plain_quotients.proofs.ExpressionLaws.{IsPlain, as_term, as_form, expressions_plain}
use Rattle.plain_quotients.proofs.AssignmentLaws.{assignments_plain}

-- always names

abbrev EntryIsPlain : List ℕ × Formed → Type 0
EntryIsPlain e = IsPlain e.1

insert_plain : (es : List (List ℕ × Formed)) (word : List ℕ) (a : Formed) → IsPlain a → Each EntryIsPlain es →
    Each EntryIsPlain (insert_entry bytes_eq es word a)
insert_plain [] word a h k = (h, tt)
insert_plain ((key, old) ∷ es) word a h k =
    elim (bytes_eq word key) as
    (λ b. Each EntryIsPlain (cond b ((key, a) ∷ es) ((key, old) ∷ insert_entry bytes_eq es word a))) [
      | true ↦ (h, k.1)
      | false ↦ (k.0, insert_plain es word a h k.1)
    ]

-- the first entry of a table, or what is found after it
found_entry : (c : Bool) (a b : Formed) (rest : Option Formed) → IsPlain a → (rest ≡ Some b → IsPlain b) →
    cond c (Some a) rest ≡ Some b → IsPlain b
found_entry true a b rest h k e = let same : a ≡ b = cc e in subst IsPlain same h
found_entry false a b rest h k e = k e

looked_up : (name : List ℕ) (es : List (List ℕ × Formed)) → Each EntryIsPlain es → (b : Formed) →
    lookup (bytes_eq name) es ≡ Some b → IsPlain b
looked_up name [] h b e = cc
looked_up name ((key, a) ∷ es) h b e =
    found_entry (bytes_eq name key) a b (lookup (bytes_eq name) es) h.0 (looked_up name es h.1 b) e

abbrev HasOnly : Expr → Type 0
HasOnly e = IsTrue (has_only_times e)

abbrev DefinedOnly : Def → Type 0
DefinedOnly d = HasOnly d.of

definitions_plain : (s : Scope) (ds : List Def) → Each DefinedOnly ds → Each EntryIsPlain s.always →
    Each EntryIsPlain (with_definitions s ds).always
definitions_plain s [] only h = h
definitions_plain s (d ∷ ds) only h =
    definitions_plain (with_definition s d) ds only.1
    (insert_plain s.always d.name.text (formed d.of s)
    (expressions_plain d.of s only.0 (λ name a e. looked_up name s.always h a e)) h)

-- formulas and terms of steps

module _ (s : Scope) (plain : ScopeIsPlain s) where
  form_plain : (e : Expr) → HasOnly e → FormIsPlain (form_in s e)
  form_plain e only = as_form (formed e s).core (expressions_plain e s only plain)

  number_plain : (e : Expr) → HasOnly e → TermIsPlain (term_in s e)
  number_plain e only = as_term (formed e s).core (expressions_plain e s only plain)

  claim_p_plain : (c : Claim) → IsTrue (claim_times c) → FormIsPlain (claim_p s c)
  claim_p_plain (Claim.Defined at) only = top_plain
  claim_p_plain (Claim.Invariant at of) only = form_plain of only
  claim_p_plain (Claim.Stable at of) only = form_plain of only
  claim_p_plain (Claim.Constant at of) only = form_plain of only
  claim_p_plain (Claim.Fixed at of) only = form_plain of only
  claim_p_plain (Claim.Between at p which q) only =
      form_plain p (and_left (has_only_times p) (has_only_times q) only)

  claim_q_plain : (c : Claim) → IsTrue (claim_times c) → FormIsPlain (claim_q s c)
  claim_q_plain (Claim.Defined at) only = top_plain
  claim_q_plain (Claim.Invariant at of) only = bottom_plain
  claim_q_plain (Claim.Stable at of) only = bottom_plain
  claim_q_plain (Claim.Constant at of) only = bottom_plain
  claim_q_plain (Claim.Fixed at of) only = bottom_plain
  claim_q_plain (Claim.Between at p which q) only =
      form_plain q (and_right (has_only_times p) (has_only_times q) only)

-- proof terms

abbrev SeenForm : (ℕ → Bool) × CForm → Type 0
SeenForm e = FormIsPlain e.1

abbrev SeenTerm : (ℕ → Bool) × CTerm → Type 0
SeenTerm e = TermIsPlain e.1

abbrev TermingPlain : Terming → Bool → Type 0
TermingPlain m only = IsTrue only → (c : Place) (next : ℕ) (v : ℕ → Bool) → ScopeIsPlain c.scope →
    PartsArePlain (parts_of (m c next).core v)

term_layer_plain : TermLayers TermingPlain term_layer term_times
term_layer_plain (Term-F.Imply at p q) only c next v plain =
    subst PartsArePlain (sym (parts-Imply (form_in c.scope p) (form_in c.scope q) v)) (record {
      forms = (
        form_plain c.scope plain p (and_left (has_only_times p) (has_only_times q) only),
        (form_plain c.scope plain q (and_right (has_only_times p) (has_only_times q) only), tt),
      );
      terms = tt;
    })
term_layer_plain (Term-F.From at of) only c next v plain =
    subst PartsArePlain (sym (parts-From (ref_in c of) v)) (record { forms = tt; terms = tt })
term_layer_plain (Term-F.Pair at which x y) only c next v plain =
    let t = x.0 c next in
    let u = y.0 c t.next in
    let k = pair_parts which t.core u.core in
    let one = x.2 (and_left x.1 y.1 only) c next v plain in
    let two = y.2 (and_right x.1 y.1 only) c t.next v plain in
    subst PartsArePlain (sym (k.parts v)) (record {
      forms = each_join SeenForm (parts_of t.core v).forms (parts_of u.core v).forms one.forms two.forms;
      terms = each_join SeenTerm (parts_of t.core v).terms (parts_of u.core v).terms one.terms two.terms;
    })
term_layer_plain (Term-F.Exists at name range x) only c next v plain =
    let t = x.0 (with_bound_name c name.text next range) (next + 1) in
    let one = x.2 only (with_bound_name c name.text next range) (next + 1) (also next v) plain in
    subst PartsArePlain (sym (parts-Exists next (core_range (fixed_ends range)) t.core v))
    (record { forms = one.forms; terms = one.terms })
term_layer_plain (Term-F.Induct at name range measure p q x) only c next v plain =
    let own : Bool = has_only_times measure && (has_only_times p && has_only_times q) in
    let mine = and_left own x.1 only in
    let both = and_right (has_only_times measure) (has_only_times p && has_only_times q) mine in
    let t = x.0 (with_bound_name c name.text next range) (next + 1) in
    let one = x.2 (and_right own x.1 only) (with_bound_name c name.text next range) (next + 1) (also next v) plain in
    subst PartsArePlain
    (sym (parts-Induct next (core_range (fixed_ends range)) (term_in c.scope measure) (form_in c.scope p)
    (form_in c.scope q) t.core v)) (record {
      forms = (
        form_plain c.scope plain p (and_left (has_only_times p) (has_only_times q) both),
        (form_plain c.scope plain q (and_right (has_only_times p) (has_only_times q) both), one.forms),
      );
      terms = (
        number_plain c.scope plain measure
            (and_left (has_only_times measure) (has_only_times p && has_only_times q) mine),
        one.terms,
      );
    })
term_layer_plain (Term-F.Psp at x by) only c next v plain =
    let t = x.0 c next in
    let one = x.2 only c next v plain in
    subst PartsArePlain (sym (parts-Psp t.core (ref_in c by) v)) (record {
      forms = each_join SeenForm (parts_of t.core v).forms [] one.forms tt;
      terms = each_join SeenTerm (parts_of t.core v).terms [] one.terms tt;
    })
term_layer_plain (Term-F.Weaken at p q x) only c next v plain =
    let own : Bool = has_only_times p && has_only_times q in
    let mine = and_left own x.1 only in
    let t = x.0 c next in
    let one = x.2 (and_right own x.1 only) c next v plain in
    subst PartsArePlain (sym (parts-Weaken (form_in c.scope p) (form_in c.scope q) t.core v)) (record {
      forms = (
        form_plain c.scope plain p (and_left (has_only_times p) (has_only_times q) mine),
        (form_plain c.scope plain q (and_right (has_only_times p) (has_only_times q) mine), one.forms),
      );
      terms = one.terms;
    })

term_plain : (t : Term) → TermingPlain (termed t) (fold-Term Bool term_times t)
term_plain t = two_terms TermingPlain term_layer term_times term_layer_plain t

rule_plain : (c : Place) → ScopeIsPlain c.scope → (r : Rule) → IsTrue (rule_times r) → RuleIsPlain (core_rule c r)
rule_plain c plain (Rule.Text at None) only = tt
rule_plain c plain (Rule.Text at (Some helper)) only = tt
rule_plain c plain (Rule.Weaken at of) only = tt
rule_plain c plain (Rule.Pair at which r s) only =
    of_pair_rule RuleIsPlain which (ref_in c r) (ref_in c s) (λ name. tt) tt
rule_plain c plain (Rule.Superpose at of) only = tt
rule_plain c plain (Rule.Complete at r s t u) only = tt
rule_plain c plain (Rule.Term at of) only =
    let n : ℕ = length c.params in
    let parts = term_plain of only c n any_place plain in
    record {
      forms = to_all SeenForm (parts_of (termed of c n).core any_place).forms parts.forms;
      terms = to_all SeenTerm (parts_of (termed of c n).core any_place).terms parts.terms;
    }

step_plain : (words : Texts) (owner : List ℕ) (s : Scope) → ScopeIsPlain s → (step : Step) →
    IsTrue (step_times step) → StepIsPlain (core_step words owner s step)
step_plain words owner s plain step only =
    let c : Place = step_place words owner s step in
    let claim = and_left (claim_times step.claim) (rule_times step.rule) only in
    record {
      p = claim_p_plain c.scope plain step.claim claim;
      q = claim_q_plain c.scope plain step.claim claim;
      rule = rule_plain c plain step.rule (and_right (claim_times step.claim) (rule_times step.rule) only);
    }

steps_plain : (words : Texts) (owner : List ℕ) (s : Scope) → ScopeIsPlain s → (steps : List Step) →
    Each (λ (x : Step). IsTrue (step_times x)) steps → Each StepIsPlain (map (core_step words owner s) steps)
steps_plain words owner s plain [] only = tt
steps_plain words owner s plain (x ∷ rest) only =
    (step_plain words owner s plain x only.0, steps_plain words owner s plain rest only.1)

abbrev ProofOnly : Proof → Type 0
ProofOnly p = All (λ (x : Step). IsTrue (step_times x)) p.steps

abbrev ProofIsPlain : CProof → Type 0
ProofIsPlain p = All StepIsPlain p.steps

proofs_plain : (words : Texts) (s : Scope) → ScopeIsPlain s → (parts : List Part) →
    Each ProofOnly (proofs_among parts) → Each ProofIsPlain (core_proofs words s parts)
proofs_plain words s plain [] only = tt
proofs_plain words s plain (Part.Program at program ∷ rest) only = proofs_plain words s plain rest only
proofs_plain words s plain (Part.Proof at proof ∷ rest) only = (
  to_all StepIsPlain (map (core_step words proof.program.text s) proof.steps)
      (steps_plain words proof.program.text s plain proof.steps
      (from_all (λ (x : Step). IsTrue (step_times x)) proof.steps only.0)),
  proofs_plain words s plain rest only.1,
)

-- programs

abbrev InstanceOnly : Instance → Type 0
InstanceOnly i = IsTrue (assigns_only_times i.assign)

module _ (s : Scope) (plain : ScopeIsPlain s) where
  statements_plain : (number : List ℕ → ℕ) (is : List Instance) → Each InstanceOnly is →
      Each StatementIsPlain (map (core_statement number) (map (stated s) is))
  statements_plain number [] only = tt
  statements_plain number (i ∷ is) only =
      let effect = assignments_plain i.assign (among s i.bindings) only.0 plain in
      (record { outside = effect.outside; writes = effect.writes }, statements_plain number is only.1)

  initial_plain : (o : Option Initially) → IsTrue (initially_times o) → FormIsPlain (initial_form s o)
  initial_plain None only = top_plain
  initial_plain (Some section) only = as_form (formed section.of s).core (expressions_plain section.of s only plain)

abbrev PlainOr : Option CProgram → Type 0
PlainOr None = Unit {0}
PlainOr (Some c) = ProgramIsPlain c

union_plain : (name : ℕ) (f g : Option CProgram) → PlainOr f → PlainOr g → PlainOr (core_union name f g)
union_plain name None g h k = tt
union_plain name (Some f) None h k = tt
union_plain name (Some f) (Some g) h k = record {
  initially = and_kept f.initially g.initially h.initially k.initially;
  statements = to_all StatementIsPlain (f.statements ++ g.statements)
      (each_join StatementIsPlain f.statements g.statements
      (from_all StatementIsPlain f.statements h.statements) (from_all StatementIsPlain g.statements k.statements));
}

named_plain : (name : ℕ) (before : List CProgram) → Each ProgramIsPlain before → PlainOr (core_named name before)
named_plain name before all = by_found (core_named name before) (λ c e. found c e)
  where
    found : (c : CProgram) → core_named name before ≡ Some c → ProgramIsPlain c
    found c e =
        let there = found_in (λ (d : CProgram). nat_eq d.name name) before c e in
        each_at ProgramIsPlain before all there.place c there.there

    by_found : (o : Option CProgram) → ((c : CProgram) → o ≡ Some c → ProgramIsPlain c) → PlainOr o
    by_found None h = tt
    by_found (Some c) h = h c refl

module _ (words : Texts) (s : Scope) (plain : ScopeIsPlain s) (slots : List CSlot) where
  program_plain : (before : List CProgram) → Each ProgramIsPlain before → (p : Program) → ProgramOnlyTimes p →
      PlainOr (core_program words s slots before p)
  program_plain before all (Program.Union at name left right) only =
      union_plain (word_number words name.text) (core_named (word_number words left.text) before)
      (core_named (word_number words right.text) before) (named_plain (word_number words left.text) before all)
      (named_plain (word_number words right.text) before all)
  program_plain before all (Program.Plain at name declare always initially start items) only = record {
    initially = initial_plain s plain initially only.0;
    statements = to_all StatementIsPlain _
        (statements_plain s plain (word_number words) (instances items)
        (from_all InstanceOnly (instances items) only.1));
  }

  with_plain : (before : List CProgram) → Each ProgramIsPlain before → (o : Option CProgram) → PlainOr o →
      Each ProgramIsPlain (with_core before o)
  with_plain before all None h = all
  with_plain before all (Some c) h = each_join ProgramIsPlain before (c ∷ []) all (h, tt)

  programs_plain : (before : List CProgram) → Each ProgramIsPlain before → (parts : List Part) →
      Each ProgramOnlyTimes (programs_among parts) → Each ProgramIsPlain (with_cores words s slots before parts)
  programs_plain before all [] only = all
  programs_plain before all (Part.Program at program ∷ rest) only =
      programs_plain (with_core before (core_program words s slots before program))
      (with_plain before all (core_program words s slots before program) (program_plain before all program only.0))
      rest only.1
  programs_plain before all (Part.Proof at proof ∷ rest) only = programs_plain before all rest only

pub documents_plain : DocumentsPlain
documents_plain d only =
    let words : Texts = document_words d in
    let s : Scope = document_scope d.parts in
    let defs : List Def = flat_map part_definitions d.parts in
    let always = definitions_plain (declared_scope d.parts) defs (from_all DefinedOnly defs only.definitions) tt in
    let plain : ScopeIsPlain s = λ name a e. looked_up name s.always always a e in
    record {
      programs = to_all ProgramIsPlain _ (programs_plain words s plain (document_slots words d.parts) [] tt d.parts
          (from_all ProgramOnlyTimes (programs_among d.parts) only.programs));
      proofs = to_all ProofIsPlain _ (proofs_plain words s plain d.parts
          (from_all ProofOnly (proofs_among d.parts) only.steps));
    }
