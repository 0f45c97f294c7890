-- What a verdict says of the walk along a document's steps, and of what they claim.
use Rattle.std.specs.Prelude.{◌≡◌, List, length, Result, Ok, Err}
use Rattle.core_terms.specs.declared.programs.CSlot.{CSlot}
use Rattle.core_terms.specs.declared.documents.CDocument.{CDocument}
use Rattle.core_terms.specs.Conditions.{IsCoreDocument}
use Rattle.obligations.specs.declared.certificates.Cert.{Cert}
use Rattle.safety_rules.specs.from_rules_table.Validity.{AllValid}
use Rattle.safety_rules.specs.from_rules_table.Walk as walk
use Rattle.safety_rules.specs.from_rules_table.Walk.{Failure, walk_of}
use Rattle.safety_rules.specs.Answers.{obligations_of}
use Rattle.proof_plans.specs.declared.plans.Plan.{Plan}
use Rattle.proof_plans.specs.Giving.{PlanHolds}
use Rattle.proof_plans.specs.Reaching.{Reach, reach_of}
use Rattle.rules_steps.specs.Starts.{starts_in}
use Rattle.proof_plans.specs.Verdicts.{rule_fault, verdict_of}

-- the walk's plan, with what is left to be shown as obligations
abbrev pub plan_of : List CSlot → walk.Plan → Plan
plan_of slots w = record {
  records = w.records;
  obligations = obligations_of slots w.goals;
  owner = w.owner;
}

-- the walk gives this plan, whose obligations are valid, each with one certificate
pub record IsValidPlan (d : CDocument) (certs : List Cert) (plan : Plan) : Type 0 where
  pub steps : walk.Plan
  pub walked : walk_of d (starts_in d.slots) ≡ Ok steps
  pub planned : plan ≡ plan_of d.slots steps
  pub valid : AllValid d.slots steps.goals
  pub certified : length certs ≡ length steps.goals

-- the plan of what is accepted is valid
abbrev pub AcceptedIsValid : Type 0
AcceptedIsValid = (d : CDocument) (certs : List Cert) (plan : Plan) → IsCoreDocument d → verdict_of d certs ≡ Ok plan →
    IsValidPlan d certs plan

-- and what its steps claim holds
abbrev pub AcceptedHolds : Type 0
AcceptedHolds = (d : CDocument) (certs : List Cert) (plan : Plan) → IsCoreDocument d → verdict_of d certs ≡ Ok plan →
    PlanHolds d plan

-- how far the steps go is what the walk along them says: the same plan, or the same first failure
abbrev pub ReachAgrees : List CSlot → Result walk.Plan Failure → Reach → Type 0
ReachAgrees slots (Ok w) r = r ≡ Ok (plan_of slots w)
ReachAgrees slots (Err failure) r = (plan : Plan) ×
    (r ≡ Err (record { plan = plan; fault = rule_fault failure.program failure.step failure.code }))

abbrev pub ReachIsWalk : Type 0
ReachIsWalk = (d : CDocument) → ReachAgrees d.slots (walk_of d (starts_in d.slots)) (reach_of d)
