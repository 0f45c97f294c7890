use Rattle.std.proofs.Common.{arith}
use Rattle.linear_prover.proofs.TotalLaws.{sum-lost}
use Rattle.linear_prover.proofs.bounds.sum_of.Goals as goal

pub returns-in-None : goal.returns-in-None
returns-in-None c =
    sum-lost c.args.bounds.now c.args.factors.now c.factors.left _ c.factors.sum c.factors-test.true
    c.factors.invariant.inside
    c.factors.invariant.is c.in-None.ensures
