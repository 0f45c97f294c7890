use Rattle.std.proofs.Common.{◌≡◌}
use Rattle.obligations.specs.Reach.{gcd}
use Rattle.linear_prover.proofs.clash.greatest_divisor.Given as goal

abbrev pub invariant-steps : goal.invariant-steps
invariant-steps l = gcd l.one l.other ≡ gcd l.a l.b

abbrev pub decreases-steps : goal.decreases-steps
decreases-steps l = l.other
