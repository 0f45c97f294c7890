use Rattle.std.proofs.Common.{◌≡◌, ◌++◌, map, take}
use Rattle.streamed_documents.specs.Places.{step_place}
use Rattle.streamed_documents.proofs.places.add_steps.Given as goal

abbrev pub invariant-loop-step : goal.invariant-loop-step
invariant-loop-step l = l.places ≡ l.initial.places ++ map step_place (take l.step-index l.steps)
