use Rattle.schedule_replay.specs.Lines.{fixed_line, rounds_line}
use Rattle.schedule_replay.proofs.BufferLaws.{on_err, part_front, part_after}
use Rattle.fixed_runs.proofs.traces.write_end.Goals as goal

pub returns-in_err-write_fixed-clause-part : goal.returns-in_err-write_fixed-clause-part
returns-in_err-write_fixed-clause-part g c =
    on_err c.from_residual.result _
    (part_front (g.K.Sink.written c.args.out.now) (g.K.Sink.written c.write_fixed.new.out) (fixed_line c.args.number)
    (rounds_line c.args.rounds) c.in_err-write_fixed.ensures.part)

pub returns-in_err-write_rounds-clause-part : goal.returns-in_err-write_rounds-clause-part
returns-in_err-write_rounds-clause-part g c =
    on_err c.from_residual-in_err-write_rounds.result _
    (part_after (g.K.Sink.written c.args.out.now) (g.K.Sink.written c.write_fixed.new.out)
    (g.K.Sink.written c.write_rounds.new.out) (fixed_line c.args.number) (rounds_line c.args.rounds)
    c.in_ok-write_fixed.ensures.whole c.in_err-write_rounds.ensures.part)
