use Rattle.std.proofs.Common.{◌≡◌, ◌++◌, length, reverse}
use Rattle.step_plans.proofs.planning.turned.Given as goal

abbrev pub invariant-items : goal.invariant-items
invariant-items l = l.left ++ reverse l.all ≡ l.initial.left

abbrev pub decreases-items : goal.decreases-items
decreases-items l = length l.left
