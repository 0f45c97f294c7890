use Rattle.std.proofs.Common.{refl, subst}
use Rattle.std.specs.Io.KnownBytes.{Appends}
use Rattle.unity_base.specs.Streams.{AppendsPart}
use Rattle.unity_cli.specs.declared.status.Status.{Status}
use Rattle.unity_cli.proofs.Told.{exact_told, part_told}
use Rattle.unity_cli.proofs.Unread.{constant_answer}
use Rattle.unity_cli.proofs.constants.write_constant.Goals as goal

pub returns-in-Ok-clause-told : goal.returns-in-Ok-clause-told
returns-in-Ok-clause-told g c = λ request is bytes.
    exact_told request bytes _ _ Status.Done Status.Done c.args.text.now
    (constant_answer request c.args.text.now bytes is) refl
    (subst (Appends (g.K.Sink.written c.args.out.now) (g.K.Sink.written c.write_all.new.out)) c.as_bytes.ensures.value
    c.in-Ok.ensures.whole) (λ never. cc)

pub returns-in-Err-clause-told : goal.returns-in-Err-clause-told
returns-in-Err-clause-told g c = λ request is bytes.
    part_told request bytes _ _ _ Status.WriteFault Status.Done c.args.text.now
    (constant_answer request c.args.text.now bytes is)
    (subst (AppendsPart (g.K.Sink.written c.args.out.now) (g.K.Sink.written c.write_all.new.out))
    c.as_bytes.ensures.value c.in-Err.ensures.part) refl refl
