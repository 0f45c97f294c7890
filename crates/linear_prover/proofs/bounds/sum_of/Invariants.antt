use Rattle.std.proofs.Common.{◌≡◌, ◌≤◌, ◌^◌, Some, drop, length}
use Rattle.std.specs.Int.RustNames.{unsigned_abs}
use Rattle.linear_prover.specs.Tables.{light_total, total_in}
use Rattle.linear_prover.proofs.bounds.sum_of.Given as goal

abbrev pub invariant-factors : goal.invariant-factors
invariant-factors l = record {
  inside : l.left ≤ length l.factors;
  is : total_in l.bounds (drop l.left l.factors) ≡ Some (light_total l.sum);
  load : l.sum.load ≤ 2 ^ 126;
  value : unsigned_abs l.sum.value ≤ l.sum.load;
}

abbrev pub decreases-factors : goal.decreases-factors
decreases-factors l = l.left
