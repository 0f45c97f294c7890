use Rattle.std.proofs.Common.{◌≡◌, ◌++◌, drop}
use Rattle.watch_schedules.specs.Telling.{param_lines}
use Rattle.watch_schedules.proofs.telling.push_params.Given as goal

abbrev pub invariant-loop-place : goal.invariant-loop-place
invariant-loop-place l =
    l.text.items ++ param_lines l.words (drop l.place l.names) (drop l.place l.values)
    ≡ l.initial.text.items ++ param_lines l.words l.names l.values
