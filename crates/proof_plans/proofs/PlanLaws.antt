-- Steps by their rules alone, from one to the next, and that they are the walk along the table of rules.
use Rattle.std.proofs.Common.{◌≡◌, Option, Some, None, Result, Ok, Err, sym, ap, ◌∙◌, refl, List}
use Rattle.core_terms.specs.declared.documents.CDocument.{CDocument}
use Rattle.core_terms.specs.declared.programs.CSlot.{CSlot}
use Rattle.safety_rules.specs.from_rules_table.Walk as walk
use Rattle.safety_rules.specs.from_rules_table.Walk.{Failure, walk_of}
use Rattle.rules_steps.specs.Starts.{starts_in}
use Rattle.proof_plans.specs.declared.plans.Plan.{Plan}
use Rattle.proof_plans.specs.declared.plans.StepFault.{StepFault}
use Rattle.proof_plans.specs.declared.plans.ScriptError.{ScriptError}
use Rattle.proof_plans.specs.Laws.{ReachAgrees}
use Rattle.proof_plans.specs.Planning.{reach_from, Reaches, IsPlanOf, IsFailureOf, Walks}
use Rattle.proof_plans.specs.Reaching.{Reach, Stop, reach_of, reached}
use Rattle.proof_plans.specs.Verdicts.{rule_fault}
use Rattle.proof_plans.proofs.WalkLaws.{reach_is_walk}

-- what is left, whether a step failed or not
pub reached_from : (plan : Plan) (s : Option StepFault) → reached (reach_from plan s) ≡ plan
reached_from plan None = refl
reached_from plan (Some fault) = refl

-- a failure of a part is that of the whole
pub misses_whole : (T U : Type 0) (e : ScriptError) (new : Plan) (one whole : Reach) →
    ((stop : Stop) → one ≡ Err stop → whole ≡ Err stop) → Reaches {T = T} (Err e) new one →
    Reaches {T = U} (Err e) new whole
misses_whole T U (ScriptError.Step fault) new one whole h g = h (record { plan = new; fault = fault }) g
misses_whole T U ScriptError.Memory new one whole h g = tt

-- what agrees with the walk

same_plan : (slots : List CSlot) (plan : Plan) (walked : Result walk.Plan Failure) (r : Reach) →
    ReachAgrees slots walked r → r ≡ Ok plan → IsPlanOf slots plan walked
same_plan slots plan (Ok w) r h e = (w, refl, cc (h, e))
same_plan slots plan (Err failure) r h e = cc (h.1, e)

same_failure : (slots : List CSlot) (plan : Plan) (fault : StepFault) (walked : Result walk.Plan Failure) (r : Reach) →
    ReachAgrees slots walked r → r ≡ reach_from plan (Some fault) → IsFailureOf fault walked
same_failure slots plan fault (Ok w) r h e = cc (h, e)
same_failure slots plan fault (Err failure) r h e =
    let first : Stop = record { plan = plan; fault = fault } in
    let second : Stop =
    record { plan = h.0; fault = rule_fault failure.program failure.step failure.code } in
    (failure, refl, same_stops first second e h.1)
  where
    same_stops : (first second : Stop) → r ≡ Err first → r ≡ Err second → first.fault ≡ second.fault
    same_stops first second a b =
        let both : ◌≡◌ {A = Reach} (Err first) (Err second) = sym a ∙ b in
        let same : first ≡ second = cc in
        ap (λ (s : Stop). s.fault) same

pub plan_walks : (d : CDocument) (plan : Plan) → reach_of d ≡ Ok plan →
    IsPlanOf d.slots plan (walk_of d (starts_in d.slots))
plan_walks d plan e = same_plan d.slots plan (walk_of d (starts_in d.slots)) (reach_of d) (reach_is_walk d) e

pub failure_walks : (d : CDocument) (e : ScriptError) (plan : Plan) →
    Reaches {T = Unit {0}} (Err e) plan (reach_of d) →
    Walks d.slots (Err e) (walk_of d (starts_in d.slots))
failure_walks d (ScriptError.Step fault) plan h =
    same_failure d.slots plan fault (walk_of d (starts_in d.slots)) (reach_of d) (reach_is_walk d) h
failure_walks d ScriptError.Memory plan h = tt
