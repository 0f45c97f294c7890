use Rattle.std.proofs.Common.{◌≡◌, ◌-◌, ◌∷◌, pos, length, map, take}
use Rattle.search_tree.specs.Points.{pair_at}
use Rattle.search_tree.proofs.fixing.round_of.Given as goal

abbrev pub invariant-factors : goal.invariant-factors
invariant-factors l = l.pairs ≡ (pos 1, l.number) ∷ map (pair_at l.points) (take l.index l.factors)

abbrev pub decreases-factors : goal.decreases-factors
decreases-factors l = length l.factors - l.index
