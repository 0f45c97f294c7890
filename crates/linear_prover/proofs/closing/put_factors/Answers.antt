use Rattle.std.proofs.Common.{arith}
use Rattle.linear_prover.proofs.OrderLaws.{factor-put}
use Rattle.linear_prover.proofs.closing.put_factors.Goals as goal

pub factors-preserved : goal.factors-preserved
factors-preserved c = record {
  inside = let k = c.factors.invariant.inside in omega arith;
  is = factor-put c.args.count c.args.factors.now c.factors.left _ c.factors.line c.put_factor.new.line
      c.requires.within
      c.factors-test.true c.factors.invariant.inside c.factors.invariant.is c.put_factor.ensures;
}
