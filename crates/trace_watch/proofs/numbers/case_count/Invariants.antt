use Rattle.std.proofs.Common.{◌≡◌, min, drop}
use Rattle.trace_watch.specs.Cases as cases
use Rattle.trace_watch.proofs.numbers.case_count.Given as goal

abbrev pub invariant-loop-place : goal.invariant-loop-place
invariant-loop-place l = l.count ≡ min (cases.case_count (drop l.place l.params)) 4097
