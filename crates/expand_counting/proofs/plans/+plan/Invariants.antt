use Rattle.std.proofs.Common.{length}
use Rattle.expand_counting.proofs.plans.+plan.Given as goal

abbrev pub decreases-plan : goal.decreases-plan
decreases-plan l = length l.ranges.now
