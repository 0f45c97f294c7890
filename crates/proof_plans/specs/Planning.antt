-- What calls that take steps by their rules alone answer; want of memory says nothing.
use Rattle.std.specs.Prelude.{◌≡◌, List, Option, Some, None, Result, Ok, Err}
use Rattle.core_terms.specs.declared.programs.CSlot.{CSlot}
use Rattle.safety_rules.specs.from_rules_table.Walk as walk
use Rattle.safety_rules.specs.from_rules_table.Walk.{Failure}
use Rattle.proof_plans.specs.declared.plans.Plan.{Plan}
use Rattle.proof_plans.specs.declared.plans.StepFault.{StepFault}
use Rattle.proof_plans.specs.declared.plans.ScriptError.{ScriptError}
use Rattle.proof_plans.specs.Laws.{plan_of}
use Rattle.proof_plans.specs.Reaching.{Reach}
use Rattle.proof_plans.specs.Verdicts.{rule_fault}

-- what the steps leave, and how the first fails that fails
abbrev pub reach_from : Plan → Option StepFault → Reach
reach_from plan None = Ok plan
reach_from plan (Some fault) = Err (record { plan = plan; fault = fault })

-- a call that changes the plan: what the steps leave, and the first failure
abbrev pub Reaches : {T : Type 0} → Result T ScriptError → Plan → Reach → Type 0
Reaches (Ok done) new r = r ≡ reach_from new None
Reaches (Err (ScriptError.Step fault)) new r = r ≡ reach_from new (Some fault)
Reaches (Err ScriptError.Memory) new r = Unit {0}

-- the walk along the table of rules gives this plan, with what is left to be shown as obligations
abbrev pub IsPlanOf : List CSlot → Plan → Result walk.Plan Failure → Type 0
IsPlanOf slots plan walked = (w : walk.Plan) × (walked ≡ Ok w) × (plan ≡ plan_of slots w)

-- or it ends at this first failure
abbrev pub IsFailureOf : StepFault → Result walk.Plan Failure → Type 0
IsFailureOf fault walked = (failure : Failure) × (walked ≡ Err failure)
    × (fault ≡ rule_fault failure.program failure.step failure.code)

abbrev pub Walks : List CSlot → Result Plan ScriptError → Result walk.Plan Failure → Type 0
Walks slots (Ok plan) walked = IsPlanOf slots plan walked
Walks slots (Err (ScriptError.Step fault)) walked = IsFailureOf fault walked
Walks slots (Err ScriptError.Memory) walked = Unit {0}
