use Rattle.std.proofs.Common.{ap, sym, subst}
use Rattle.cli_words.specs.Requests.{meant}
use Rattle.unity_cli.specs.Answering.{TellsAdmitted}
use Rattle.unity_cli.proofs.traces.trace_document.Goals as goal

pub returns-in-Run-clause-told : goal.returns-in-Run-clause-told
returns-in-Run-clause-told g c =
    subst (λ r. TellsAdmitted r c.args.reading.now (g.K.Sink.written c.args.out.now)
    (g.K.Sink.written c.run_document.new.out) c.run_document.result) (sym (ap meant c.in-Run.is))
    c.run_document.ensures.told

pub returns-in-Fixed-clause-told : goal.returns-in-Fixed-clause-told
returns-in-Fixed-clause-told g c =
    subst (λ r. TellsAdmitted r c.args.reading.now (g.K.Sink.written c.args.out.now)
    (g.K.Sink.written c.fixed_document.new.out) c.fixed_document.result) (sym (ap meant c.in-Fixed.is))
    c.fixed_document.ensures.told

pub returns-in-Replay-clause-told : goal.returns-in-Replay-clause-told
returns-in-Replay-clause-told g c =
    subst (λ r. TellsAdmitted r c.args.reading.now (g.K.Sink.written c.args.out.now)
    (g.K.Sink.written c.replay_document.new.out) c.replay_document.result) (sym (ap meant c.in-Replay.is))
    c.replay_document.ensures.told
