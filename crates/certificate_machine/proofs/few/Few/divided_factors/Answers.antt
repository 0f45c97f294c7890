use Rattle.std.proofs.Common.{arith}
use Rattle.certificate_machine.proofs.TermLaws.{part-next}
use Rattle.certificate_machine.proofs.few.Few.divided_factors.Goals as goal

pub loop-term-preserved : goal.loop-term-preserved
loop-term-preserved c =
    let there = c.loop-term-test.true in record {
      factors = part-next _ c.terms-term-items.result.now c.loop-term.term-index _ c.loop-term.factors
          c.put_part.new.factors (omega (arith, there)) c.in_ok-put_part.ensures c.loop-term.invariant.factors;
    }
