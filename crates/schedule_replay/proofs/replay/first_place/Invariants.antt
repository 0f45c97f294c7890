use Rattle.std.proofs.Common.{◌≡◌, drop}
use Rattle.std.specs.List.{position_from}
use Rattle.schedule_replay.specs.Schedules.{names_instance, place_of}
use Rattle.schedule_replay.proofs.replay.first_place.Given as goal

abbrev pub invariant-loop-place : goal.invariant-loop-place
invariant-loop-place l =
    place_of l.statements l.choice ≡ position_from (names_instance l.choice) l.place (drop l.place l.statements)
