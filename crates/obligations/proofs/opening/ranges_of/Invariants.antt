use Rattle.std.proofs.Common.{◌≡◌, ◌++◌, drop}
use Rattle.obligations.specs.Opening.{range_facts}
use Rattle.obligations.proofs.opening.ranges_of.Given as goal

abbrev pub invariant-loop-place : goal.invariant-loop-place
invariant-loop-place l = l.facts ++ range_facts l.place (drop l.place l.vs) ≡ range_facts 0 l.vs
