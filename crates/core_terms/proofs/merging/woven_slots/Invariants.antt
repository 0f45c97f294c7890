use Rattle.std.proofs.Common.{◌+◌, ◌-◌, length}
use Rattle.core_terms.proofs.MergeLaws.{IsWoven}
use Rattle.core_terms.proofs.merging.woven_slots.Given as goal

abbrev pub invariant-loop-left : goal.invariant-loop-left
invariant-loop-left l = IsWoven l.first l.second l.slots l.left l.right

abbrev pub decreases-loop-left : goal.decreases-loop-left
decreases-loop-left l = length l.first - l.left + (length l.second - l.right)
