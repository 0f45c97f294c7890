use Rattle.std.proofs.Common.{◌≡◌, take, map}
use Rattle.core_terms.specs.declared.trees.Range.{Range}
use Rattle.search_tree.proofs.halves.low_ends.Given as goal

abbrev pub invariant-loop-range : goal.invariant-loop-range
invariant-loop-range l = l.values ≡ map (λ (r : Range). r.lo) (take l.range-index l.ranges)
