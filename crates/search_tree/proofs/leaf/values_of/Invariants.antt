use Rattle.std.proofs.Common.{◌≡◌, take, map}
use Rattle.search_tree.specs.declared.points.Point.{Point}
use Rattle.search_tree.proofs.leaf.values_of.Given as goal

abbrev pub invariant-loop-point : goal.invariant-loop-point
invariant-loop-point l = l.values ≡ map (λ (p : Point). p.value) (take l.point-index l.points)
