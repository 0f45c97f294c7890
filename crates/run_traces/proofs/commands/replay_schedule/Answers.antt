use Rattle.std.proofs.Common.{refl, sym}
use Rattle.run_traces.proofs.TraceAnswers.{still}
use Rattle.run_traces.proofs.FindingLaws.{no_schedule}
use Rattle.run_traces.proofs.AnswerLaws.{no_schedule_fails}
use Rattle.run_traces.proofs.commands.replay_schedule.Goals as goal

pub replay_program-requires-clause-program : goal.replay_program-requires-clause-program
replay_program-requires-clause-program g c = sym c.in-Some.ensures

pub returns-in-Some-clause-answer : goal.returns-in-Some-clause-answer
returns-in-Some-clause-answer g c = c.replay_program.ensures.answer

pub returns-in-Some-clause-cause : goal.returns-in-Some-clause-cause
returns-in-Some-clause-cause g c = c.replay_program.ensures.cause

pub returns-in-None-clause-answer : goal.returns-in-None-clause-answer
returns-in-None-clause-answer g c = (no_schedule c.args.doc.now c.requires (sym c.in-None.ensures), refl)

pub returns-in-None-clause-cause : goal.returns-in-None-clause-cause
returns-in-None-clause-cause g c = still (g.K.Sink.faults c.args.out.now) _ no_schedule_fails
