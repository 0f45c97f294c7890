use Rattle.std.proofs.Common.{◌≡◌, min, drop}
use Rattle.trace_watch.specs.Cases as cases
use Rattle.trace_watch.proofs.numbers.total_cases.Given as goal

abbrev pub invariant-loop-place : goal.invariant-loop-place
invariant-loop-place l = l.total ≡ min (cases.total_cases l.p (drop l.place l.records)) 4097
