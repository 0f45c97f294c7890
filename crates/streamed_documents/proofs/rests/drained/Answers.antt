use Rattle.std.proofs.Common.{refl}
use Rattle.unity_base.specs.Window.{coming}
use Rattle.streamed_documents.proofs.Passing.{passes_told, ends_told, drained_end, drained_out}
use Rattle.streamed_documents.proofs.rests.drained.Goals as goal

pub returns-in-TooLong-clause-kept : goal.returns-in-TooLong-clause-kept
returns-in-TooLong-clause-kept g c = λ bytes e.
    let u = c.args.w.now in
    passes_told u (coming u (g.S.Source.left c.args.src.now)) bytes e (c.in_ok-drain.ensures.too_long c.in-TooLong.is)

pub returns-in-TooLong-clause-end : goal.returns-in-TooLong-clause-end
returns-in-TooLong-clause-end g c = c.in_ok-drain.ensures.too_long c.in-TooLong.is

pub returns-in_default-clause-kept : goal.returns-in_default-clause-kept
returns-in_default-clause-kept g c = λ bytes e.
    let u = c.args.w.now in
    let end = drained_end c.drain.new.self (g.S.Source.left c.drain.new.src) c.in_ok-drain.field-0
    c.in_default.not-TooLong c.in_ok-drain.ensures.drained in (
      ends_told u (coming u (g.S.Source.left c.args.src.now)) bytes e (c.in_ok-drain.ensures.not_longer end),
      refl,
      refl,
    )

pub returns-in_default-clause-end : goal.returns-in_default-clause-end
returns-in_default-clause-end g c =
    let x = c.drain.new.self in
    let d = g.S.Source.left c.drain.new.src in
    let look = c.in_ok-drain.field-0 in
    let drained = c.in_ok-drain.ensures.drained in
    drained_out x d look (drained_end x d look c.in_default.not-TooLong drained) drained
