use Rattle.std.proofs.Common.{refl, sym}
use Rattle.run_traces.proofs.TraceAnswers.{still}
use Rattle.run_traces.proofs.FindingLaws.{called_in}
use Rattle.run_traces.proofs.AnswerLaws.{no_program_fails, run_answers}
use Rattle.run_traces.proofs.commands.run_program.Goals as goal

pub write_program-requires-clause-program : goal.write_program-requires-clause-program
write_program-requires-clause-program g c =
    called_in c.args.doc.now c.args.program.now c.in-Some.p.now (sym c.in-Some.ensures)

pub write_program-requires-clause-instances : goal.write_program-requires-clause-instances
write_program-requires-clause-instances g c = tt

pub returns-in-Some-clause-answer : goal.returns-in-Some-clause-answer
returns-in-Some-clause-answer g c =
    run_answers c.args.doc.now c.args.program.now c.args.steps c.in-Some.p.now (g.K.Sink.written c.args.out.now)
    (g.K.Sink.written c.write_program.new.out) c.write_program.result (sym c.in-Some.ensures)
    c.write_program.ensures.answer

pub returns-in-Some-clause-cause : goal.returns-in-Some-clause-cause
returns-in-Some-clause-cause g c = c.write_program.ensures.cause

pub returns-in-None-clause-answer : goal.returns-in-None-clause-answer
returns-in-None-clause-answer g c = (sym c.in-None.ensures, refl)

pub returns-in-None-clause-cause : goal.returns-in-None-clause-cause
returns-in-None-clause-cause g c = still (g.K.Sink.faults c.args.out.now) _ no_program_fails
