use Rattle.std.specs.Prelude.{option_to_list}
use Rattle.trace_watch.specs.Places.{system_at, state_at, TrialFits}
use Rattle.trace_watch.specs.Stepping.{StepSaw}
use Rattle.trace_watch.proofs.LookLaws.{HoldsBelow, LookedSteps}
use Rattle.trace_watch.proofs.looking.look.Given as goal

abbrev pub invariant-loop-place : goal.invariant-loop-place
invariant-loop-place l =
    LookedSteps l.here.slots.now l.here.program.now (system_at l.here) (state_at l.here) (option_to_list l.choice)
    l.fn.steps l.steps l.first l.place
    × HoldsBelow (λ n t. StepSaw l.here.program.now (state_at l.here) t) l.steps l.place
    × TrialFits l.here l.trial
