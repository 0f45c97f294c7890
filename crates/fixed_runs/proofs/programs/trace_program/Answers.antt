use Rattle.std.proofs.Common.{length, ◌≡◌, List, IsTrue, All, Result, Err, refl, sym, ap, ◌∙◌, subst}
use Rattle.std.proofs.lemmas.Result.{err_from_is_err_and}
use Rattle.meaning_states.specs.State.{State, is_state}
use Rattle.core_terms.specs.declared.programs.CSlot.{CSlot}
use Rattle.core_terms.specs.Conditions.{IsSlot, IsProgram}
use Rattle.core_terms.specs.Steps.{slot_ranges}
use Rattle.executor.specs.declared.runner.Stepped.{Stepped}
use Rattle.executor.specs.StartState.{start_state}
use Rattle.run_traces.specs.declared.trace_error.TraceError.{TraceError}
use Rattle.schedule_replay.specs.Schedules.{turns}
use Rattle.fixed_runs.specs.Answers.{CoreFixedTraces}
use Rattle.run_traces.proofs.TraceAnswers.{still, program_in, not_memory}
use Rattle.fixed_runs.proofs.programs.trace_program.Goals as goal

pub trace_from-requires-clause-program : goal.trace_from-requires-clause-program
trace_from-requires-clause-program g c = program_in c.args.doc.now c.args.p.now c.requires.document c.requires.program

pub trace_from-requires-clause-start : goal.trace_from-requires-clause-start
trace_from-requires-clause-start g c =
    subst (λ (state : State). IsTrue (is_state (slot_ranges c.args.doc.now.slots) state)) (sym c.as_slice-2.ensures)
    (subst (λ (slots : List CSlot). All IsSlot slots → IsProgram slots c.args.p.now →
    IsTrue (is_state (slot_ranges slots) c.in_ok-start.start)) c.as_slice.ensures c.in_ok-start.ensures.ranges
    c.requires.document.slots (program_in c.args.doc.now c.args.p.now c.requires.document c.requires.program))

pub returns-clause-answer : goal.returns-clause-answer
returns-clause-answer g c =
    subst (λ (state : State). CoreFixedTraces c.args.doc.now c.args.p.now state
    (turns (length c.args.p.now.statements) c.args.steps) (g.K.Sink.written c.args.out.now)
    (g.K.Sink.written c.trace_from.new.out) c.trace_from.result)
    (c.as_slice-2.ensures ∙ c.in_ok-start.ensures.numbers
    ∙ ap (λ (slots : List CSlot). start_state slots c.args.p.now) c.as_slice.ensures) c.trace_from.ensures.answer

pub returns-clause-cause : goal.returns-clause-cause
returns-clause-cause g c = c.trace_from.ensures.cause

pub returns-in_err-start-clause-answer : goal.returns-in_err-start-clause-answer
returns-in_err-start-clause-answer g c =
    let p = err_from_is_err_and c.from_residual.result c.from_residual.ensures.1 in
    let memory : c.from_residual.result ≡ Err TraceError.Memory = p.1 ∙ ap (λ (e : TraceError). Err e) p.2 in
    subst (λ (r : Result Stepped TraceError). CoreFixedTraces c.args.doc.now c.args.p.now
    (start_state c.args.doc.now.slots c.args.p.now) (turns (length c.args.p.now.statements) c.args.steps)
    (g.K.Sink.written c.args.out.now) (g.K.Sink.written c.args.out.now) r) (sym memory) refl

pub returns-in_err-start-clause-cause : goal.returns-in_err-start-clause-cause
returns-in_err-start-clause-cause g c =
    let p = err_from_is_err_and c.from_residual.result c.from_residual.ensures.1 in
    let memory : c.from_residual.result ≡ Err TraceError.Memory = p.1 ∙ ap (λ (e : TraceError). Err e) p.2 in
    still (g.K.Sink.faults c.args.out.now) _ (not_memory c.from_residual.result memory)
