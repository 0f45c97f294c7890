use Rattle.std.proofs.Common.{◌-◌, ◌≤◌, ℕ, length}
use Rattle.search_tree.specs.Points.{IsFirst}
use Rattle.search_tree.proofs.fixing.first_naming.Given as goal

abbrev pub invariant-facts : goal.invariant-facts
invariant-facts l = (i : ℕ) × IsFirst l.facts l.variable i × (l.index ≤ i)

abbrev pub decreases-facts : goal.decreases-facts
decreases-facts l = length l.facts - l.index
