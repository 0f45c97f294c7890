use Rattle.std.proofs.Common.{◌≡◌, ◌≤◌, ◌^◌, drop, length}
use Rattle.std.specs.Int.RustNames.{unsigned_abs}
use Rattle.obligations.specs.LinearForms.{sum_of}
use Rattle.search_tree.specs.Points.{values_in}
use Rattle.search_tree.proofs.points.sum_of_points.Given as goal

abbrev pub invariant-factors : goal.invariant-factors
invariant-factors l = record {
  inside : l.left ≤ length l.factors;
  is : l.sum ≡ sum_of (values_in l.points) (drop l.left l.factors);
  small : unsigned_abs l.sum ≤ 2 ^ 125;
}

abbrev pub decreases-factors : goal.decreases-factors
decreases-factors l = l.left
