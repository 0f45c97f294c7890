use Rattle.std.proofs.Common.{refl}
use Rattle.schedule_replay.proofs.BufferLaws.{sent_both}
use Rattle.schedule_replay.proofs.buffer.Buffer.send.Goals as goal

pub returns-clause-put : goal.returns-clause-put
returns-clause-put g c =
    sent_both _ _ _ _ c.args.self.now _ c.args.piece.now c.write_both.result c.if-self.false c.write_both.ensures.whole
    c.write_both.ensures.part c.write_both.ensures.cause c.is_err-self.ensures.value refl
