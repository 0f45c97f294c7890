use Rattle.std.proofs.Common.{◌≡◌, ◌+◌, ◌<◌, ◌^◌, drop, length}
use Rattle.proof_plans.specs.Reaching.{steps_reach}
use Rattle.rules_steps.specs.Using.{BookFits}
use Rattle.rules_steps.specs.Starts.{seen_of}
use Rattle.proof_plans.proofs.planning.plan_steps.Given as goal

abbrev pub invariant-loop-step : goal.invariant-loop-step
invariant-loop-step l = record {
  book : BookFits l.around.slots.now l.plan.records;
  room : length l.plan.records + length (drop l.step-index l.steps) < 2 ^ 31;
  same : steps_reach (seen_of l.around) l.program (drop l.step-index l.steps) l.plan
      ≡ steps_reach (seen_of l.around) l.program l.steps l.initial.plan;
}
