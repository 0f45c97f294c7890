-- The parts of a verdict as equations.
use Rattle.std.proofs.Common.{◌≡◌, ℕ, suc, List, [], ◌∷◌, length, Some, Result, Ok, Err, refl, slice_get}
use Rattle.core_terms.specs.declared.programs.CProgram.{CProgram}
use Rattle.core_terms.specs.declared.documents.CStep.{CStep}
use Rattle.core_terms.specs.declared.documents.CProof.{CProof}
use Rattle.obligations.specs.declared.branches.Obligation.{Obligation}
use Rattle.obligations.specs.declared.certificates.Cert.{Cert}
use Rattle.safety_rules.specs.from_rules_table.Walk.{Around, program_of, rule_of}
use Rattle.safety_rules.specs.declared.places.Derived.{Derived}
use Rattle.safety_rules.specs.Answers.{derived_of}
use Rattle.proof_plans.specs.declared.plans.Plan.{Plan}
use Rattle.proof_plans.specs.declared.plans.StepFault.{StepFault}
use Rattle.proof_plans.specs.Verdicts.{then_by, or_rule_fault, failing, or_refutation_fault, refuted_by, most_levels}
use Rattle.proof_plans.specs.Verdicts.{grown, taken, step_verdict, steps_verdict, proof_verdict, proofs_verdict}

pub refuted-none : (levels : ℕ) (certs : List Cert) (program step number : ℕ) →
    refuted_by levels certs program step number [] ≡ Ok tt
unfolding refuted_by
refuted-none levels certs program step number = refl

pub refuted-more : (levels : ℕ) (certs : List Cert) (program step number : ℕ) (o : Obligation) (os : List Obligation) →
    refuted_by levels certs program step number (o ∷ os) ≡
    then_by (or_refutation_fault program step number (failing levels o (slice_get certs number))) (λ done.
    refuted_by levels certs program step (suc number) os)
unfolding refuted_by
refuted-more levels certs program step number o os = refl

pub taken-is : (levels : ℕ) (certs : List Cert) (program step : ℕ) (plan : Plan) (d : Derived) →
    taken levels certs program step plan d ≡
    then_by (refuted_by levels certs program step (length plan.obligations) d.obligations) (λ done. Ok (grown plan d))
unfolding taken
taken-is levels certs program step plan d = refl

pub step-is : (seen : Around) (certs : List Cert) (c : CProgram) (s : CStep) (plan : Plan) →
    step_verdict seen certs c s plan ≡
    then_by (or_rule_fault c.name (Some s.name) (rule_of seen c s plan.records)) (λ x.
    taken (most_levels seen.version) certs c.name s.name plan (derived_of seen.slots x))
unfolding step_verdict
step-is seen certs c s plan = refl

pub steps-none : (seen : Around) (certs : List Cert) (c : CProgram) (plan : Plan) →
    steps_verdict seen certs c [] plan ≡ Ok plan
unfolding steps_verdict
steps-none seen certs c plan = refl

pub steps-more : (seen : Around) (certs : List Cert) (c : CProgram) (s : CStep) (rest : List CStep)
    (plan : Plan) → steps_verdict seen certs c (s ∷ rest) plan ≡
    then_by (step_verdict seen certs c s plan) (steps_verdict seen certs c rest)
unfolding steps_verdict
steps-more seen certs c s rest plan = refl

pub proofs-none : (seen : Around) (certs : List Cert) (plan : Plan) →
    proofs_verdict seen certs [] plan ≡ Ok plan
unfolding proofs_verdict
proofs-none seen certs plan = refl

pub proofs-more : (seen : Around) (certs : List Cert) (proof : CProof)
    (rest : List CProof) (plan : Plan) → proofs_verdict seen certs (proof ∷ rest) plan ≡
    then_by (proof_verdict seen certs (program_of seen.programs proof.program) proof plan)
    (proofs_verdict seen certs rest)
unfolding proofs_verdict
proofs-more seen certs proof rest plan = refl

-- a part's answer, and what follows it
pub then_so : {A B : Type 0} (r : Result A StepFault) (f : A → Result B StepFault) (y : B) → then_by r f ≡ Ok y →
    (x : A) × (r ≡ Ok x) × (f x ≡ Ok y)
then_so (Ok x) f y e = (x, refl, e)
then_so (Err fault) f y e = cc
