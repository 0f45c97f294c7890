use Rattle.std.proofs.Common.{◌-◌, ◌∷◌, [], drop, length}
use Rattle.search_tree.specs.Searching.{Has}
use Rattle.search_tree.proofs.points.bound_number.Given as goal

abbrev pub invariant-facts : goal.invariant-facts
invariant-facts l =
    Has (drop l.index l.facts) (record { factors = (l.variable, l.side) ∷ []; constant = l.constant })

abbrev pub decreases-facts : goal.decreases-facts
decreases-facts l = length l.facts - l.index
