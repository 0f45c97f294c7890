use Rattle.expand_counting.specs.Conditions.{FollowsOut}
use Rattle.expand_counting.proofs.plans.add_pairs.Given as goal

abbrev pub invariant-loop-b : goal.invariant-loop-b
invariant-loop-b l = FollowsOut l.k l.all l.out
