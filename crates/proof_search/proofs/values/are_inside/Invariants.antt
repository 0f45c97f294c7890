use Rattle.std.proofs.Common.{◌≡◌, drop}
use Rattle.obligations.specs.Opening.{in_ranges}
use Rattle.proof_search.proofs.values.are_inside.Given as goal

abbrev pub invariant-loop-place : goal.invariant-loop-place
invariant-loop-place l =
    in_ranges l.vs l.values ≡ in_ranges (drop l.place l.vs) (drop l.place l.values)
