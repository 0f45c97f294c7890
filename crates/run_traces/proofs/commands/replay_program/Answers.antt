use Rattle.std.proofs.Common.{◌<◌, ℕ, List, length, All, sym, subst}
use Rattle.schedule_replay.specs.declared.heading.Heading.{Heading}
use Rattle.run_traces.proofs.TraceAnswers.{still}
use Rattle.run_traces.specs.Answers.{TraceAnswers}
use Rattle.run_traces.proofs.FindingLaws.{scheduled_in}
use Rattle.run_traces.proofs.AnswerLaws.{refusal_fails, replay_answers, no_choices, choices_among}
use Rattle.run_traces.proofs.commands.replay_program.Goals as goal

pub write_program-requires-clause-program : goal.write_program-requires-clause-program
write_program-requires-clause-program g c = scheduled_in c.args.doc.now c.args.p.now c.requires.program

pub write_program-requires-clause-instances : goal.write_program-requires-clause-instances
write_program-requires-clause-instances g c =
    subst (λ (choices : List ℕ). All (λ choice. choice < length c.args.p.now.statements) choices)
    (sym c.as_slice.ensures)
    (choices_among c.args.doc.now c.args.p.now c.in-Ok.choices c.requires.program c.in-Ok.ensures.instances)

pub returns-in-Ok-clause-answer : goal.returns-in-Ok-clause-answer
returns-in-Ok-clause-answer g c =
    replay_answers c.args.doc.now c.args.p.now c.in-Ok.choices (g.K.Sink.written c.args.out.now)
    (g.K.Sink.written c.write_program.new.out) c.write_program.result c.requires.program c.in-Ok.ensures.places
    (subst (λ (choices : List ℕ). TraceAnswers c.args.doc.now c.args.p.now Heading.Replay choices
    (g.K.Sink.written c.args.out.now) (g.K.Sink.written c.write_program.new.out) c.write_program.result)
    c.as_slice.ensures c.write_program.ensures.answer)

pub returns-in-Ok-clause-cause : goal.returns-in-Ok-clause-cause
returns-in-Ok-clause-cause g c = c.write_program.ensures.cause

pub returns-in-Err-clause-answer : goal.returns-in-Err-clause-answer
returns-in-Err-clause-answer g c =
    no_choices c.args.doc.now c.args.p.now (g.K.Sink.written c.args.out.now) c.in-Err.error c.from.result
    c.requires.program c.from.ensures c.in-Err.ensures.refused

pub returns-in-Err-clause-cause : goal.returns-in-Err-clause-cause
returns-in-Err-clause-cause g c =
    still (g.K.Sink.faults c.args.out.now) _ (refusal_fails c.in-Err.error c.from.result c.from.ensures)
