-- The ranges of the names that the terms of well-named steps bind.
use Rattle.std.proofs.Common.{◌≡◌, ℕ, ◌+◌, List, [], ◌∷◌, ◌++◌, Bool, Option, Some, None, sym, subst, All}
use Rattle.std.proofs.lemmas.List.Elements.{All-nil, All-cons, All-head, All-tail, All-append, All-map, All-weaker}
use Rattle.case_tables.specs.declared.word_table.Word.{Word}
use Rattle.unity_syntax.specs.declared.term.Inst.{Inst}
use Rattle.unity_syntax.specs.declared.term.Term.{Term}
use Rattle.unity_syntax.specs.declared.term.Term.TheOpen.{Term-F}
use Rattle.unity_syntax.specs.declared.proof.Rule.{Rule}
use Rattle.unity_syntax.specs.declared.proof.Step.{Step}
use Rattle.unity_syntax.specs.declared.document.Part.{Part}
use Rattle.unity_syntax.specs.TwoFolds.{TermLayers}
use Rattle.unity_syntax.proofs.TermFolds.{two_terms}
use Rattle.core_terms.specs.declared.documents.PTerm.{PTerm}
use Rattle.core_terms.specs.declared.documents.PTerm.TheVariants.{Imply, From, Trans, Either, Exists, Induct, Psp}
use Rattle.core_terms.specs.declared.documents.PTerm.TheVariants.{Weaken}
use Rattle.core_terms.specs.Conditions.{IsRange, Parts, parts_step, parts_of, also}
use Rattle.names_rules.specs.declared.named.Meaning.{Meaning}
use Rattle.names_rules.specs.Scope.{Scope as NameScope, Table, with_bound}
use Rattle.names_rules.specs.Reading.{beside, binding, filled}
use Rattle.names_rules.specs.Part.{run}
use Rattle.names_rules.specs.Declarations.{some_of}
use Rattle.names_rules.specs.Proofs.{Programs, Derived, proof_scope, param_part, step_name, step_body, step_rest}
use Rattle.names_rules.specs.Proofs.{step_part, boolean, number, claim_reading, rule_part, ref_reading, term_part}
use Rattle.names_rules.specs.Proofs as reading
use Rattle.names_rules.specs.WellNamed.{Declared, nothing_declared, proved_program, steps_reading, part_of}
use Rattle.names_rules.proofs.Faults.{earlier_first, earlier_second}
use Rattle.expand_declarations.specs.WordNumbers.{document_words}
use Rattle.expand_declarations.specs.Numbers.{core_range}
use Rattle.expand_declarations.specs.References.{text_rule}
use Rattle.expand_declarations.proofs.PairRules.{of_pair_rule}
use Rattle.expand_correct.specs.from_expand_steps.ProofTerms.{Place, Terming, term_layer, termed, fixed_ends, pair_term}
use Rattle.expand_correct.specs.from_expand_steps.ProofTerms.{ref_in}
use Rattle.expand_correct.specs.from_expand_steps.ProofTerms.{with_bound_name}
use Rattle.expand_correct.specs.from_expand_steps.Steps.{step_place, core_rule, core_step, core_proof}
use Rattle.meaning_documents.specs.Steps.{proofs_among}
use Rattle.expand_declarations.proofs.NearIndices.{parts_fault}
use Rattle.expand_declarations.proofs.Faultless.{each_of_run, sound_range}
use Rattle.expand_correct.specs.from_expand_documents.Cores.{document_scope}
use Rattle.expand_fits_parts.specs.Conditions.TermConditions.{RuleHasRanges, BoundNamesHaveRanges}
use Rattle.expand_fits_parts.proofs.Conditions.Proofs.{all_proofs}
use Rattle.expand_fits_parts.proofs.Conditions.Terms.{at-Imply, at-From, at-Trans, at-Either, at-Exists, at-Induct}
use Rattle.expand_fits_parts.proofs.Conditions.Terms.{at-Psp}
use Rattle.expand_fits_parts.proofs.Conditions.Terms.{at-Weaken}

-- parts at each place

abbrev Seen : Type 0
Seen = (ℕ → Bool) → Parts

abbrev Ranged : PTerm → Type 0
Ranged t = (visible : ℕ → Bool) → All IsRange (parts_of t visible).ranges

-- the ranges of a term are those of its outermost node and of the terms in it
ranged_as : (t : PTerm) (f : Seen) → parts_of t ≡ f → ((v : ℕ → Bool) → All IsRange (f v).ranges) → Ranged t
ranged_as t f e h v = subst (λ (g : Seen). All IsRange (g v).ranges) (sym e) (h v)

both_ranged : (which : Word) (t u : PTerm) → Ranged t → Ranged u → Ranged (pair_term which t u)
both_ranged which t u h k =
    by which (ranged_as (Either t u) _ (at-Either Seen parts_step t u) (λ v. joined v))
    (ranged_as (Trans t u) _ (at-Trans Seen parts_step t u) (λ v. joined v))
  where
    joined : (v : ℕ → Bool) → All IsRange ((parts_of t v).ranges ++ (parts_of u v).ranges)
    joined v = All-append IsRange (parts_of t v).ranges (parts_of u v).ranges (h v) (k v)

    by : (w : Word) → Ranged (Either t u) → Ranged (Trans t u) → Ranged (pair_term w t u)
    by Word.Either e f = e
    by _ e f = f

-- a term without a fault has ranges, whichever place it stands at
abbrev Holds : Terming → Derived → Type 0
Holds m d = (s : NameScope) (next : ℕ) → (d s next).fault ≡ None → (c : Place) (n : ℕ) → Ranged (m c n).core

module _ (programs : Programs) where
  layer : TermLayers Holds term_layer (reading.term_layer programs)
  layer (Term-F.Imply at p q) s next h c n =
      ranged_as (Imply _ _) _ (at-Imply Seen parts_step _ _) (λ v. All-nil IsRange)
  layer (Term-F.From at of) s next h c n =
      ranged_as (From _) _ (at-From Seen parts_step _) (λ v. All-nil IsRange)
  layer (Term-F.Pair at which first second) s next h c n =
      let t = first.0 c n in let u = second.0 c t.next in
      let one = first.1 s next in let two = second.1 s one.after in
      both_ranged which t.core u.core
      (first.2 s next (earlier_first one.fault two.fault h) c n)
      (second.2 s one.after (earlier_second one.fault two.fault h) c t.next)
  layer (Term-F.Exists at name range of) s next h c n =
      let here = binding s name (Meaning.Param next) in
      let inside = of.1 (with_bound s name.text (Meaning.Param next)) (next + 1) in
      let inner = of.0 (with_bound_name c name.text n range) (n + 1) in
      let own = sound_range range (earlier_second here.fault (filled [] range).fault
      (earlier_first (beside here (filled [] range)).fault inside.fault h)) in
      let rest = of.2 (with_bound s name.text (Meaning.Param next)) (next + 1)
      (earlier_second (beside here (filled [] range)).fault inside.fault h)
      (with_bound_name c name.text n range) (n + 1) in
      ranged_as (Exists n (core_range (fixed_ends range)) inner.core) _ (at-Exists Seen parts_step n _ inner.core)
      (λ v. All-cons IsRange (core_range (fixed_ends range)) (parts_of inner.core (also n v)).ranges own
      (rest (also n v)))
  layer (Term-F.Induct at name range measure p q of) s next h c n =
      let here = binding s name (Meaning.Param next) in
      let formulas = beside (number measure s) (beside (boolean p s) (boolean q s)) in
      let front = beside (beside here (filled [] range)) formulas in
      let inside = of.1 (with_bound s name.text (Meaning.Param next)) (next + 1) in
      let inner = of.0 (with_bound_name c name.text n range) (n + 1) in
      let own = sound_range range (earlier_second here.fault (filled [] range).fault
      (earlier_first (beside here (filled [] range)).fault formulas.fault
      (earlier_first front.fault inside.fault h))) in
      let rest = of.2 (with_bound s name.text (Meaning.Param next)) (next + 1)
      (earlier_second front.fault inside.fault h) (with_bound_name c name.text n range) (n + 1) in
      ranged_as (Induct n (core_range (fixed_ends range)) _ _ _ inner.core) _
      (at-Induct Seen parts_step n _ _ _ _ inner.core)
      (λ v. All-cons IsRange (core_range (fixed_ends range)) (parts_of inner.core (also n v)).ranges own
      (rest (also n v)))
  layer (Term-F.Psp at of by) s next h c n =
      let inner = of.0 c n in let inside = of.1 s next in
      let k = of.2 s next (earlier_first inside.fault (ref_reading programs s by).fault h) c n in
      ranged_as (Psp inner.core _) _ (at-Psp Seen parts_step inner.core _)
      (λ v. All-append IsRange (parts_of inner.core v).ranges [] (k v) (All-nil IsRange))
  layer (Term-F.Weaken at p q of) s next h c n =
      let inner = of.0 c n in let inside = of.1 s next in
      let k = of.2 s next (earlier_second (beside (boolean p s) (boolean q s)).fault inside.fault h) c n in
      ranged_as (Weaken _ _ inner.core) _ (at-Weaken Seen parts_step _ _ inner.core) (λ v. k v)

  ranged : (t : Term) → Holds (termed t) (term_part programs t)
  ranged t = two_terms Holds term_layer (reading.term_layer programs) layer t

-- rules

text_has : (c : Place) (with : Option Inst) → RuleHasRanges (text_rule c.words c.bounds c.params with)
text_has c None = tt
text_has c (Some helper) = tt

-- a rule whose terms have ranges at each place
abbrev Keeps : Step → Type 0
Keeps step = (c : Place) → RuleHasRanges (core_rule c step.rule)

rule_has : (programs : Programs) (s : NameScope) (next : ℕ) (rule : Rule) →
    (rule_part programs s next rule).fault ≡ None → (c : Place) → RuleHasRanges (core_rule c rule)
rule_has programs s next (Rule.Text at with) h c = text_has c with
rule_has programs s next (Rule.Weaken at of) h c = tt
rule_has programs s next (Rule.Pair at which first second) h c =
    of_pair_rule RuleHasRanges which (ref_in c first) (ref_in c second) (λ name. tt) tt
rule_has programs s next (Rule.Superpose at of) h c = tt
rule_has programs s next (Rule.Complete at first second third fourth) h c = tt
rule_has programs s next (Rule.Term at of) h c = ranged programs of s next h c _

step_keeps : (programs : Programs) (table : Table) (steps : List (List ℕ)) (step : Step) →
    (step_part programs table steps step).fault ≡ None → Keeps step
step_keeps programs table steps step h =
    let params = run (param_part table) [] (some_of step.params) in
    let s = proof_scope table params.after in
    let body = earlier_second params.fault (step_body programs s step).fault
    (earlier_second (step_name steps step).fault (step_rest programs table step).fault h) in
    rule_has programs s _ step.rule
    (earlier_first (rule_part programs s _ step.rule).fault _
    (earlier_second (claim_reading s step.claim).fault _ body))

abbrev PartKeeps : Part → Type 0
PartKeeps (Part.Program at p) = Unit {0}
PartKeeps (Part.Proof at p) = All Keeps p.steps

part_keeps : (d : Declared) (p : Part) → (part_of d p).fault ≡ None → PartKeeps p
part_keeps d (Part.Program at p) h = tt
part_keeps d (Part.Proof at p) h = each_of_run (step_part d.programs d.names) Keeps (step_keeps d.programs d.names) []
    p.steps (earlier_second (proved_program d p.program).fault (steps_reading d.programs d.names p.steps).fault h)

proofs_keep : (parts : List Part) → All PartKeeps parts → All (λ p. All Keeps p.steps) (proofs_among parts)
proofs_keep [] h = All-nil (λ p. All Keeps p.steps)
proofs_keep (Part.Program at p ∷ rest) h = proofs_keep rest (All-tail PartKeeps (Part.Program at p) rest h)
proofs_keep (Part.Proof at p ∷ rest) h = All-cons (λ p. All Keeps p.steps) p (proofs_among rest)
    (All-head PartKeeps (Part.Proof at p) rest h) (proofs_keep rest (All-tail PartKeeps (Part.Proof at p) rest h))

pub bound_names_have_ranges : BoundNamesHaveRanges
bound_names_have_ranges d h =
    let words = document_words d in let s = document_scope d.parts in
    all_proofs (λ p. All (λ c. RuleHasRanges c.rule) p.steps) words s d.parts
    (All-weaker (λ p. All Keeps p.steps)
    (λ p. All (λ c. RuleHasRanges c.rule) (core_proof words s p).steps)
    (λ p k. All-map (λ c. RuleHasRanges c.rule) (core_step words p.program.text s) p.steps
    (All-weaker Keeps (λ t. RuleHasRanges (core_step words p.program.text s t).rule)
    (λ t l. l (step_place words p.program.text s t)) p.steps k))
    (proofs_among d.parts)
    (proofs_keep d.parts (each_of_run part_of PartKeeps part_keeps nothing_declared d.parts (parts_fault d h))))
