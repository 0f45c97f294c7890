use Rattle.std.proofs.Common.{◌-◌}
use Rattle.leadsto_rules.specs.Disjunctions.{IsJoinedSoFar}
use Rattle.leadsto_rules.proofs.disjunctions.any_instance.Given as goal

abbrev pub invariant-numbers : goal.invariant-numbers
invariant-numbers l = IsJoinedSoFar l.i l.range.lo l.total l.d

abbrev pub decreases-numbers : goal.decreases-numbers
decreases-numbers l = l.total - l.d.done
