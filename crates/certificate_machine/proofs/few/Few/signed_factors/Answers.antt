use Rattle.std.proofs.Common.{arith}
use Rattle.certificate_machine.proofs.TermLaws.{sign-next}
use Rattle.certificate_machine.proofs.few.Few.signed_factors.Goals as goal

pub loop-term-preserved : goal.loop-term-preserved
loop-term-preserved c =
    let there = c.loop-term-test.true in record {
      factors = sign-next c.args.turned c.terms-term-items.result.now c.loop-term.term-index _ c.loop-term.factors
          c.put_signed.new.factors (omega (arith, there)) c.in_ok-put_signed.ensures c.loop-term.invariant.factors;
    }
