use Rattle.std.proofs.Common.{◌≡◌, ◌++◌, drop}
use Rattle.std.specs.List.{flat_map}
use Rattle.watch_schedules.specs.Telling.{own_line}
use Rattle.watch_schedules.proofs.telling.push_steps.Given as goal

abbrev pub invariant-loop-record : goal.invariant-loop-record
invariant-loop-record l =
    l.text.items ++ flat_map (own_line l.words l.program) (drop l.record-index l.records)
    ≡ l.initial.text.items ++ flat_map (own_line l.words l.program) l.records
