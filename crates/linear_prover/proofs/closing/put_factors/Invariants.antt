use Rattle.std.proofs.Common.{◌≡◌, ◌≤◌, drop, length}
use Rattle.linear_prover.specs.Exact.{factors_from}
use Rattle.linear_prover.proofs.closing.put_factors.Given as goal

abbrev pub invariant-factors : goal.invariant-factors
invariant-factors l = record {
  inside : l.left ≤ length l.factors;
  is : l.line ≡ factors_from 0 l.count (drop l.left l.factors);
}

abbrev pub decreases-factors : goal.decreases-factors
decreases-factors l = l.left
