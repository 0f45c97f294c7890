-- Formulas of claims in core form are true where those of the document are.
use Rattle.std.proofs.Common.{◌≡◌, ℕ, zero, suc, ℤ, List, [], ◌∷◌, ◌++◌, true, Some, None, refl, sym, ap}
use Rattle.std.proofs.Common.{◌∙◌, subst, slice_get}
use Rattle.unity_syntax.specs.declared.expression.Expr.{Expr}
use Rattle.unity_syntax.specs.declared.proof.Claim.{Claim}
use Rattle.unity_syntax.specs.declared.proof.Step.{Step}
use Rattle.unity_syntax.specs.declared.proof.Proof.{Proof}
use Rattle.unity_syntax.specs.declared.document.Part.{Part}
use Rattle.unity_syntax.specs.declared.document.Document.{Document}
use Rattle.meaning_documents.specs.Value.{value, holds}
use Rattle.meaning_documents.specs.Setting.{programs_among, setting_of, seen}
use Rattle.names_rules.proofs.Faults.{earlier_first, earlier_second}
use Rattle.names_rules.specs.Declarations.{some_of}
use Rattle.core_terms.specs.declared.programs.CSlot.{CSlot}
use Rattle.core_terms.specs.declared.programs.CProgram.{CProgram}
use Rattle.core_terms.specs.Values.{form_value}
use Rattle.expand_declarations.specs.Texts.{Texts}
use Rattle.expand_declarations.specs.WordNumbers.{document_words}
use Rattle.expand_declarations.specs.Slots.{document_slots}
use Rattle.expand_rules.specs.Measures.{no_flaws}
use Rattle.expand_rules.proofs.FlawLaws.{flaws_first, flaws_second}
use Rattle.expand_rules.specs.declared.cores.Bound.{Bound}
use Rattle.expand_rules.specs.declared.cores.Formed.{Formed}
use Rattle.expand_rules.specs.Forming.{Scope, formed, as_truth, form_of}
use Rattle.expand_correct.specs.Values.Worth.{values_of}
use Rattle.expand_rules.specs.Documents.{scope_of, within}
use Rattle.expand_correct.proofs.Values.Operations.{value-form_of, holds_truth}
use Rattle.expand_correct.proofs.Values.Values.{formed_as_truth, formed_law}
use Rattle.expand_correct.proofs.Values.DocumentValues.{are_bits, sees_within}
use Rattle.expand_correct.proofs.Values.SameSight.{formed_by_sight}
use Rattle.expand_correct.specs.Exact.Parts.{EachItem}
use Rattle.expand_correct.specs.Exact.Formulas.{IsExactFormula}
use Rattle.expand_correct.proofs.Exact.Formulas.{formulas_seen}
use Rattle.expand_documents.specs.from_expand_steps.Elements.{truth_in, form_in, flaws_in}
use Rattle.expand_documents.specs.from_expand_steps.Steps.{param_bounds, step_place, claim_p, claim_q, claim_formulas}
use Rattle.expand_documents.specs.from_expand_steps.Steps.{rule_formulas}
use Rattle.expand_documents.specs.from_expand_steps.Steps.{step_formulas, step_fault, steps_fault, proof_fault}
use Rattle.expand_documents.specs.Cores.{document_scope}
use Rattle.expand_documents.specs.Faults.{body_fault, with_part, bodies_fault}
use Rattle.expand_correct.specs.Preserved.Claims.{SameTruth, ClaimSays, ClaimsByBounds}
use Rattle.expand_correct.proofs.Preserved.Sights.{sees_alike, sees_alike_among}
use Rattle.expand_correct.proofs.Preserved.Faultless.{bodies_faultless}
use Rattle.expand_correct.proofs.Preserved.ExactPrograms.{none_fails}

-- a formula that is exact, and in which nothing fails
pub formula_says : (d : Document) (bs : List (List ℕ × Bound)) (zs : List ℤ) (e : Expr) →
    (truth_in (within (document_scope d.parts) bs) e).exact ≡ true →
    (truth_in (within (document_scope d.parts) bs) e).measure.flaws ≡ no_flaws →
    SameTruth d (values_of zs bs) zs (form_in (within (document_scope d.parts) bs) e) e
formula_says d bs zs e x n state h =
    let s = within (document_scope d.parts) bs in
    let ps = programs_among d.parts in
    let t = within (scope_of ps) bs in
    let u = seen (setting_of ps) (values_of zs bs) state in
    let same = formed_by_sight e s t (sees_alike_among d.parts bs) in
    ap (λ f. form_value state zs (form_of (as_truth f).core)) same
    ∙ value-form_of state zs (as_truth (formed e t)).core
    ∙ ap holds ((formed_as_truth state zs (formed e t) (value e u)
    (formed_law state zs e t u (sees_within state zs ps bs (are_bits ps state h)))).value
    (sym (ap (λ f. (as_truth f).exact) same) ∙ x) (sym (ap (λ f. (as_truth f).measure.flaws) same) ∙ n))
    ∙ holds_truth (holds (value e u))

claim_says : (d : Document) (bs : List (List ℕ × Bound)) (zs : List ℤ) (more : List Formed) (claim : Claim) →
    EachItem IsExactFormula (claim_formulas (within (document_scope d.parts) bs) claim ++ more) →
    flaws_in (claim_formulas (within (document_scope d.parts) bs) claim ++ more) ≡ no_flaws →
    ClaimSays d (values_of zs bs) zs (claim_p (within (document_scope d.parts) bs) claim)
    (claim_q (within (document_scope d.parts) bs) claim) claim
claim_says d bs zs more (Claim.Defined at) x n = tt
claim_says d bs zs more (Claim.Invariant at of) x n =
    let f = truth_in (within (document_scope d.parts) bs) of in
    formula_says d bs zs of (x 0 f refl) (flaws_first f.measure.flaws (flaws_in more) n)
claim_says d bs zs more (Claim.Stable at of) x n =
    let f = truth_in (within (document_scope d.parts) bs) of in
    formula_says d bs zs of (x 0 f refl) (flaws_first f.measure.flaws (flaws_in more) n)
claim_says d bs zs more (Claim.Constant at of) x n =
    let f = truth_in (within (document_scope d.parts) bs) of in
    formula_says d bs zs of (x 0 f refl) (flaws_first f.measure.flaws (flaws_in more) n)
claim_says d bs zs more (Claim.Fixed at of) x n =
    let f = truth_in (within (document_scope d.parts) bs) of in
    formula_says d bs zs of (x 0 f refl) (flaws_first f.measure.flaws (flaws_in more) n)
claim_says d bs zs more (Claim.Between at p which q) x n =
    let f = truth_in (within (document_scope d.parts) bs) p in
    let g = truth_in (within (document_scope d.parts) bs) q in (
      formula_says d bs zs p (x 0 f refl) (flaws_first f.measure.flaws (flaws_in (g ∷ more)) n),
      formula_says d bs zs q (x 1 g refl) (flaws_first g.measure.flaws (flaws_in more)
          (flaws_second f.measure.flaws (flaws_in (g ∷ more)) n)),
    )

-- proofs and steps without a fault

pub faultless_proof : (words : Texts) (s : Scope) (slots : List CSlot) (before : List CProgram) (parts : List Part) →
    bodies_fault words s slots before parts ≡ None → (place at : ℕ) (proof : Proof) →
    slice_get parts place ≡ Some (Part.Proof at proof) → proof_fault words s proof ≡ None
faultless_proof words s slots before [] h place at proof e = cc e
faultless_proof words s slots before (p ∷ rest) h zero at proof e =
    let same : p ≡ Part.Proof at proof = cc in
    let more = bodies_fault words s slots (with_part words s slots before p) rest in
    subst (λ (q : Part). body_fault words s before q ≡ None) same (earlier_first (body_fault words s before p) more h)
faultless_proof words s slots before (p ∷ rest) h (suc place) at proof e =
    let more = bodies_fault words s slots (with_part words s slots before p) rest in
    faultless_proof words s slots (with_part words s slots before p) rest
    (earlier_second (body_fault words s before p) more h) place at proof e

pub faultless_step : (words : Texts) (owner : List ℕ) (s : Scope) (steps : List Step) →
    steps_fault words owner s steps ≡ None → (number : ℕ) (step : Step) → slice_get steps number ≡ Some step →
    step_fault words owner s step ≡ None
faultless_step words owner s [] h number step e = cc e
faultless_step words owner s (t ∷ rest) h zero step e =
    let same : t ≡ step = cc in
    subst (λ (q : Step). step_fault words owner s q ≡ None) same
    (earlier_first (step_fault words owner s t) (steps_fault words owner s rest) h)
faultless_step words owner s (t ∷ rest) h (suc number) step e =
    faultless_step words owner s rest
    (earlier_second (step_fault words owner s t) (steps_fault words owner s rest) h) number step e

pub claims_by_bounds : ClaimsByBounds
claims_by_bounds d named fault place at proof e number step f zs =
    let words = document_words d in
    let s = document_scope d.parts in
    let c = step_place words proof.program.text s step in
    let fine = faultless_step words proof.program.text s proof.steps
    (faultless_proof words s (document_slots words d.parts) [] d.parts (bodies_faultless d fault) place at proof e)
    number step f in
    claim_says d (param_bounds (some_of step.params)) zs (rule_formulas c step.rule) step.claim
    (formulas_seen d named s (sees_alike d.parts) words proof.program.text place at proof e number step f)
    (none_fails step.name.at (step_formulas c step) fine)
