use Rattle.std.proofs.Common.{◌≡◌, ◌++◌, drop}
use Rattle.std.specs.List.{flat_map}
use Rattle.told_obligations.specs.Origins as origin
use Rattle.told_obligations.proofs.adding.add_steps.Given as goal

abbrev pub invariant-loop-step : goal.invariant-loop-step
invariant-loop-step l =
    l.origins ++ flat_map (origin.step_origins l.program l.records) (drop l.step-index l.steps)
    ≡ l.initial.origins ++ flat_map (origin.step_origins l.program l.records) l.steps
