use Rattle.std.proofs.Common.{Ok, Err, refl, ap}
use Rattle.run_traces.specs.declared.error.RunError.{RunError}
use Rattle.run_traces.proofs.AnswerLaws.{told}
use Rattle.run_traces.proofs.commands.write_program.Goals as goal

pub returns-in-Ok-clause-answer : goal.returns-in-Ok-clause-answer
returns-in-Ok-clause-answer g c = (Ok c.in-Ok.end, c.in-Ok.ensures.answer, refl)

pub returns-in-Ok-clause-cause : goal.returns-in-Ok-clause-cause
returns-in-Ok-clause-cause g c =
    told (g.K.Sink.faults c.args.out.now) (g.K.Sink.faults c.trace_program.new.out) (Ok c.in-Ok.end) (Ok c.in-Ok.end)
    refl c.in-Ok.ensures.cause

pub returns-in-Err-clause-answer : goal.returns-in-Err-clause-answer
returns-in-Err-clause-answer g c =
    (Err c.in-Err.error, c.in-Err.ensures.answer, ap (λ (e : RunError). Err e) c.from.ensures)

pub returns-in-Err-clause-cause : goal.returns-in-Err-clause-cause
returns-in-Err-clause-cause g c =
    told (g.K.Sink.faults c.args.out.now) (g.K.Sink.faults c.trace_program.new.out) (Err c.in-Err.error)
    (Err c.from.result) (ap (λ (e : RunError). Err e) c.from.ensures) c.in-Err.ensures.cause
