use Rattle.std.proofs.Common.{arith}
use Rattle.certificate_machine.proofs.SpanLaws.{all-of-both}
use Rattle.certificate_machine.proofs.wide.clear.Goals as goal

pub returns : goal.returns
returns c =
    let i = c.loop-place.invariant in
    let over = c.loop-place-test.false in
    record {
      zero = all-of-both c.loop-place.factors c.loop-place.place c.args.high (omega (arith, over))
          i.before i.behind;
    }
