use Rattle.std.proofs.Common.{◌≡◌, ◌++◌, [], drop, map}
use Rattle.std.specs.Prelude.{All}
use Rattle.trace_watch.specs.Cases.{watched, watched_from}
use Rattle.trace_watch.specs.Stepping.{StepFits, StepStands, watched_as}
use Rattle.trace_watch.proofs.making.steps_of.Given as goal

abbrev pub invariant-loop-place : goal.invariant-loop-place
invariant-loop-place l =
    All (StepFits l.slots) l.steps.items × All (StepStands l.p [] []) l.steps.items
    × (map (watched_as l.p) l.steps.items ++ watched_from l.p l.place (drop l.place l.records)
    ≡ watched l.p l.records)
