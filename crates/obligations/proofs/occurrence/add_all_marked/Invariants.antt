use Rattle.std.proofs.Common.{◌≡◌, ◌++◌, drop}
use Rattle.obligations.specs.Variables.{picked}
use Rattle.obligations.proofs.occurrence.add_all_marked.Given as goal

abbrev pub invariant-loop-place : goal.invariant-loop-place
invariant-loop-place l =
    l.variables ++ picked l.param (drop l.place l.marks) (drop l.place l.ranges)
    ≡ l.initial.variables ++ picked l.param l.marks l.ranges
