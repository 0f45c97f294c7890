use Rattle.std.proofs.Common.{Ok, Err, refl, sym, ap}
use Rattle.run_traces.specs.declared.error.RunError.{RunError}
use Rattle.run_traces.proofs.AnswerLaws.{told}
use Rattle.run_traces.proofs.FindingLaws.{called_in}
use Rattle.fixed_runs.proofs.AnswerLaws.{fixed_answers}
use Rattle.fixed_runs.proofs.commands.run_to_fixed.Goals as goal

pub trace_program-requires-clause-program : goal.trace_program-requires-clause-program
trace_program-requires-clause-program g c =
    called_in c.args.doc.now c.args.program.now c.in-Some.p.now (sym c.in-Some.ensures)

pub returns-in-Ok-clause-answer : goal.returns-in-Ok-clause-answer
returns-in-Ok-clause-answer g c =
    fixed_answers c.args.doc.now c.args.program.now c.args.steps c.in-Some.p.now (g.K.Sink.written c.args.out.now)
    (g.K.Sink.written c.trace_program.new.out) (Ok c.in-Ok.end) (Ok c.in-Ok.end) (sym c.in-Some.ensures)
    c.in-Ok.ensures.answer refl

pub returns-in-Err-clause-answer : goal.returns-in-Err-clause-answer
returns-in-Err-clause-answer g c =
    fixed_answers c.args.doc.now c.args.program.now c.args.steps c.in-Some.p.now (g.K.Sink.written c.args.out.now)
    (g.K.Sink.written c.trace_program.new.out) (Err c.in-Err.error) (Err c.from.result) (sym c.in-Some.ensures)
    c.in-Err.ensures.answer (ap (λ (e : RunError). Err e) c.from.ensures)
