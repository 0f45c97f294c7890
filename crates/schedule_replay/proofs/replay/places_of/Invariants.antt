use Rattle.std.proofs.Common.{◌≡◌, map, take, Some}
use Rattle.schedule_replay.specs.Schedules.{place_of}
use Rattle.schedule_replay.proofs.replay.places_of.Given as goal

abbrev pub invariant-loop-choice : goal.invariant-loop-choice
invariant-loop-choice l = map (λ n. Some n) l.places ≡ map (place_of l.statements) (take l.choice-index l.choices)
