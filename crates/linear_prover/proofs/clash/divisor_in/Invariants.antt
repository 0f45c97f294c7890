use Rattle.std.proofs.Common.{◌≡◌, ◌≤◌, length, drop}
use Rattle.obligations.specs.Reach.{divisor_of}
use Rattle.linear_prover.proofs.clash.divisor_in.Given as goal

abbrev pub invariant-factors : goal.invariant-factors
invariant-factors l = record { inside : l.left ≤ length l.factors; is : l.common ≡ divisor_of (drop l.left l.factors) }

abbrev pub decreases-factors : goal.decreases-factors
decreases-factors l = l.left
