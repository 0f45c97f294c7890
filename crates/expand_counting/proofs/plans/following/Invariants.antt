use Rattle.expand_counting.specs.Conditions.{FollowsOut}
use Rattle.expand_counting.proofs.plans.following.Given as goal

abbrev pub invariant-loop-a : goal.invariant-loop-a
invariant-loop-a l = FollowsOut l.k l.all l.out
