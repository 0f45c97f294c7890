use Rattle.std.proofs.Common.{length, [], List, IsTrue, Err, sym, ap, ◌∙◌, subst}
use Rattle.meaning_states.specs.State.{State, is_state}
use Rattle.core_terms.specs.declared.programs.CSlot.{CSlot}
use Rattle.core_terms.specs.Conditions.{IsProgram}
use Rattle.core_terms.specs.Steps.{slot_ranges}
use Rattle.core_terms.specs.Values.{form_value}
use Rattle.executor.specs.declared.runner.StartError.{StartError}
use Rattle.schedule_replay.specs.Schedules.{turns}
use Rattle.fixed_runs.specs.Answers.{CoreFixedTraces}
use Rattle.run_traces.proofs.TraceAnswers.{still, not_failed}
use Rattle.fixed_runs.proofs.AnswerLaws.{no_trace}
use Rattle.fixed_runs.proofs.programs.trace_from.Goals as goal

pub new-requires-clause-program : goal.new-requires-clause-program
new-requires-clause-program g c =
    subst (λ (slots : List CSlot). IsProgram slots c.args.p.now) (sym c.as_slice.ensures) c.requires.program

pub new-requires-clause-start : goal.new-requires-clause-start
new-requires-clause-start g c =
    subst (λ (slots : List CSlot). IsTrue (is_state (slot_ranges slots) c.args.start.now)) (sym c.as_slice.ensures)
    c.requires.start

pub trace_by-requires-clause-program : goal.trace_by-requires-clause-program
trace_by-requires-clause-program g c = c.in-Ok.ensures.program

pub trace_by-requires-clause-slots : goal.trace_by-requires-clause-slots
trace_by-requires-clause-slots g c = c.in-Ok.ensures.slots ∙ c.as_slice.ensures

pub trace_by-requires-clause-initial : goal.trace_by-requires-clause-initial
trace_by-requires-clause-initial g c =
    subst (λ (state : State). IsTrue (form_value state [] c.args.p.now.initially)) (sym c.in-Ok.ensures.state)
    c.in-Ok.ensures.initial

pub returns-in-Ok-clause-answer : goal.returns-in-Ok-clause-answer
returns-in-Ok-clause-answer g c =
    subst (λ (state : State). CoreFixedTraces c.args.doc.now c.args.p.now state
    (turns (length c.args.p.now.statements) c.args.steps) (g.K.Sink.written c.args.out.now)
    (g.K.Sink.written c.trace_by.new.out) c.trace_by.result) c.in-Ok.ensures.state c.trace_by.ensures.answer

pub returns-in-Ok-clause-cause : goal.returns-in-Ok-clause-cause
returns-in-Ok-clause-cause g c = c.trace_by.ensures.cause

pub returns-in-Err-clause-answer : goal.returns-in-Err-clause-answer
returns-in-Err-clause-answer g c =
    no_trace c.args.doc.now c.args.p.now c.args.start.now
    (turns (length c.args.p.now.statements) c.args.steps) (g.K.Sink.written c.args.out.now) c.in-Err.error c.from.result
    c.from.ensures (λ h. c.in-Err.ensures.not_initial.0 (ap (λ (e : StartError). Err e) h))

pub returns-in-Err-clause-cause : goal.returns-in-Err-clause-cause
returns-in-Err-clause-cause g c =
    still (g.K.Sink.faults c.args.out.now) _ (not_failed c.in-Err.error c.from.result c.from.ensures)
