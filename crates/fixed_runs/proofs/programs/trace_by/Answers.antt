use Rattle.run_traces.proofs.TraceAnswers.{told_ok, told_err}
use Rattle.fixed_runs.proofs.programs.trace_by.Goals as goal

pub returns-in-Ok-clause-answer : goal.returns-in-Ok-clause-answer
returns-in-Ok-clause-answer g c = record {
  initial = c.requires.initial;
  whole = c.in-Ok.ensures.whole;
  ending_is = c.in-Ok.ensures.ending;
}

pub returns-in-Ok-clause-cause : goal.returns-in-Ok-clause-cause
returns-in-Ok-clause-cause g c =
    told_ok (g.K.Sink.faults c.args.out.now) (g.K.Sink.faults c.write_trace.new.out) c.in-Ok.end c.in-Ok.end
    c.in-Ok.ensures.cause

pub returns-in-Err-clause-answer : goal.returns-in-Err-clause-answer
returns-in-Err-clause-answer g c = (c.requires.initial, c.in-Err.ensures.part)

pub returns-in-Err-clause-cause : goal.returns-in-Err-clause-cause
returns-in-Err-clause-cause g c =
    told_err (g.K.Sink.faults c.args.out.now) (g.K.Sink.faults c.write_trace.new.out) _ c.in-Err.ensures.cause

pub write_trace-requires-clause-program : goal.write_trace-requires-clause-program
write_trace-requires-clause-program g c = c.requires.program

pub write_trace-requires-clause-slots : goal.write_trace-requires-clause-slots
write_trace-requires-clause-slots g c = c.requires.slots
