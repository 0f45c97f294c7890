use Rattle.std.proofs.Common.{◌≡◌, drop}
use Rattle.obligations.specs.Plain.{first_cut}
use Rattle.search_tree.proofs.halves.first_halves.Given as goal

abbrev pub invariant-loop-place : goal.invariant-loop-place
invariant-loop-place l = first_cut l.place (drop l.place l.ranges) ≡ first_cut 0 l.ranges
