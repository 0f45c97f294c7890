use Rattle.std.proofs.Common.{map}
use Rattle.std.specs.Prelude.{option_to_list}
use Rattle.trace_watch.specs.Cases.{environments, reading_of}
use Rattle.trace_watch.specs.Places.{system_at, instances_at, state_at, TrialFits}
use Rattle.trace_watch.proofs.LookLaws.{HoldsBelow, Looked, SawReading}
use Rattle.trace_watch.proofs.looking.look_cases.Given as goal

abbrev pub invariant-loop-number : goal.invariant-loop-number
invariant-loop-number l =
    Looked (instances_at l.here) (system_at l.here) (state_at l.here) (option_to_list l.choice)
    (map (reading_of l.here.program.now l.claim) (environments l.claim.params)) l.fn.cases l.cases l.first l.number
    × HoldsBelow (SawReading (state_at l.here)
    (map (reading_of l.here.program.now l.claim) (environments l.claim.params))) l.cases l.number
    × TrialFits l.here l.trial
