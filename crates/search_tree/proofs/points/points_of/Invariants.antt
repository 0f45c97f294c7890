use Rattle.std.proofs.Common.{◌≡◌, ◌-◌, ◌≤◌, length, map, take}
use Rattle.search_tree.specs.Points.{values_in, ArePoints}
use Rattle.search_tree.proofs.points.points_of.Given as goal

abbrev pub invariant-values : goal.invariant-values
invariant-values l = record {
  inside : l.place ≤ length l.ranges;
  long : length l.points ≡ l.place;
  are : ArePoints l.facts 0 l.points;
  values : values_in l.points ≡ map (λ r. r.lo) (take l.place l.ranges);
}

abbrev pub decreases-values : goal.decreases-values
decreases-values l = length l.ranges - l.place
