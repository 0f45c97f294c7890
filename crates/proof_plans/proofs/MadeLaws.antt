-- What the steps of an accepted document leave are obligations that can be made.
use Rattle.std.proofs.Common.{◌≡◌, nat_lt, List, [], ◌∷◌, length, Bool, true, false, cond, Option, Some, None, Ok, Err}
use Rattle.std.proofs.Common.{refl, sym, ◌∙◌, subst}
use Rattle.std.specs.Prelude.{All}
use Rattle.std.proofs.lemmas.List.Elements.{All-head, All-tail}
use Rattle.core_terms.specs.declared.programs.CProgram.{CProgram}
use Rattle.core_terms.specs.declared.documents.CStep.{CStep}
use Rattle.core_terms.specs.declared.documents.CProof.{CProof}
use Rattle.core_terms.specs.declared.documents.CDocument.{CDocument}
use Rattle.core_terms.specs.Conditions.{IsCoreDocument, IsProgram, IsProof, IsSlot, IsStep}
use Rattle.obligations.specs.declared.certificates.Cert.{Cert}
use Rattle.obligations.specs.Obligations.{IsObligation}
use Rattle.safety_rules.specs.from_rules_table.Walk.{Around, has_defined, program_of}
use Rattle.safety_rules.proofs.lemmas_from_rules_table.EachLaws.{Each, each_join}
use Rattle.safety_rules.specs.Answers.{derived_of}
use Rattle.rules_steps.specs.Starts.{document_seen}
use Rattle.rules_steps.specs.Using.{BookFits}
use Rattle.rules_steps.proofs.GoalLaws.{told_step}
use Rattle.proof_plans.specs.declared.plans.Plan.{Plan}
use Rattle.proof_plans.specs.Verdicts.{step_verdict}
use Rattle.proof_plans.specs.Verdicts.{steps_verdict, proof_verdict, proofs_verdict, end_verdict, last_verdict}
use Rattle.proof_plans.specs.Verdicts.{no_plan, surplus_fault, verdict_of}
use Rattle.proof_plans.proofs.Equations.{steps-none, steps-more, proofs-none, proofs-more, then_so}
use Rattle.proof_plans.proofs.LoopLaws.{end_keeps, named_program}
use Rattle.proof_plans.proofs.BookLaws.{step_fits, step_went}

module _ (seen : Around) (certs : List Cert) (all : All IsSlot seen.slots)
    (programs : All (IsProgram seen.slots) seen.programs) where
  -- what was taken so far
  record IsMade (plan : Plan) : Type 0 where
    fits : BookFits seen.slots plan.records
    makeable : Each IsObligation plan.obligations

  step_makes : (c : CProgram) (s : CStep) (plan new : Plan) → IsProgram seen.slots c → IsStep seen.slots s →
      IsMade plan → step_verdict seen certs c s plan ≡ Ok new → IsMade new
  step_makes c s plan new program good made e =
      let went = step_went seen certs c s plan new e in
      let told = told_step seen c s plan.records all programs program good made.fits went.made went.ruled in
      record {
        fits = step_fits seen certs c s plan new good made.fits e;
        makeable = subst (λ (p : Plan). Each IsObligation p.obligations) went.same
            (each_join IsObligation plan.obligations (derived_of seen.slots went.made).obligations made.makeable
            told.obligations);
      }

  steps_make : (c : CProgram) (steps : List CStep) (plan new : Plan) → IsProgram seen.slots c →
      All (IsStep seen.slots) steps → IsMade plan → steps_verdict seen certs c steps plan ≡ Ok new → IsMade new
  steps_make c [] plan new program good made e =
      let same : plan ≡ new = cc (sym (steps-none seen certs c plan) ∙ e) in subst IsMade same made
  steps_make c (s ∷ rest) plan new program good made e =
      let parts = then_so (step_verdict seen certs c s plan) (steps_verdict seen certs c rest) new
      (sym (steps-more seen certs c s rest plan) ∙ e) in
      steps_make c rest parts.0 new program (All-tail (IsStep seen.slots) s rest good)
      (step_makes c s plan parts.0 program (All-head (IsStep seen.slots) s rest good) made parts.1) parts.2

  proof_makes : (named : Option CProgram) (proof : CProof) (plan new : Plan) →
      ((c : CProgram) → named ≡ Some c → IsProgram seen.slots c) → All (IsStep seen.slots) proof.steps → IsMade plan →
      proof_verdict seen certs named proof plan ≡ Ok new → IsMade new
  proof_makes None proof plan new program good made e = let same : plan ≡ new = cc in subst IsMade same made
  proof_makes (Some c) proof plan new program good made e =
      let parts = then_so (steps_verdict seen certs c proof.steps plan) (end_verdict c) new e in
      subst IsMade (end_keeps c parts.0 new (has_defined c.name parts.0.records) parts.2)
      (steps_make c proof.steps plan parts.0 (program c refl) good made parts.1)

  proofs_make : (proofs : List CProof) (plan new : Plan) →
      All (IsProof seen.slots seen.programs) proofs → IsMade plan → proofs_verdict seen certs proofs plan ≡ Ok new →
      IsMade new
  proofs_make [] plan new good made e =
      let same : plan ≡ new = cc (sym (proofs-none seen certs plan) ∙ e) in subst IsMade same made
  proofs_make (proof ∷ rest) plan new good made e =
      let named : Option CProgram = program_of seen.programs proof.program in
      let parts = then_so (proof_verdict seen certs named proof plan) (proofs_verdict seen certs rest) new
      (sym (proofs-more seen certs proof rest plan) ∙ e) in
      let first = proof_makes named proof plan parts.0
      (λ c e. named_program seen.slots seen.programs proof.program c programs e)
      (All-head (IsProof seen.slots seen.programs) proof rest good).steps made parts.1 in
      proofs_make rest parts.0 new (All-tail (IsProof seen.slots seen.programs) proof rest good) first parts.2

last_so : (certs : List Cert) (plan last : Plan) (b : Bool) → nat_lt (length plan.obligations) (length certs) ≡ b →
    cond b (Err (surplus_fault (length plan.obligations))) (Ok plan) ≡ Ok last → plan ≡ last
last_so certs plan last true e h = cc
last_so certs plan last false e h = cc

pub accepted_makes : (d : CDocument) (certs : List Cert) (plan : Plan) → IsCoreDocument d →
    verdict_of d certs ≡ Ok plan → Each IsObligation plan.obligations
accepted_makes d certs plan good e =
    let parts = then_so (proofs_verdict (document_seen d) certs d.proofs no_plan) (last_verdict certs) plan e in
    let made = proofs_make (document_seen d) certs good.slots good.programs d.proofs no_plan parts.0 good.proofs
    (record { fits = tt; makeable = tt }) parts.1 in
    subst (λ (p : Plan). Each IsObligation p.obligations)
    (last_so certs parts.0 plan (nat_lt (length parts.0.obligations) (length certs)) refl parts.2) made.makeable
