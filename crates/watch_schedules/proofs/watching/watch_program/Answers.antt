use Rattle.std.proofs.Common.{◌≡◌, List, [], IsTrue, All, true, false, Err, sym, ap, ◌∙◌, subst}
use Rattle.std.proofs.lemmas.Result.{err_from_is_err_and}
use Rattle.meaning_states.specs.State.{State, is_state}
use Rattle.core_terms.specs.declared.programs.CSlot.{CSlot}
use Rattle.core_terms.specs.Conditions.{IsProgram, IsSlot}
use Rattle.core_terms.specs.Steps.{slot_ranges}
use Rattle.core_terms.specs.Values.{form_value}
use Rattle.executor.specs.declared.runner.StartError.{StartError}
use Rattle.executor.specs.StartState.{start_state}
use Rattle.watch_schedules.specs.Schedules.{FindsWatched, HasNoBook}
use Rattle.watch_schedules.proofs.ScheduleLaws.{book_stopped, scheduled_is, start_stopped}
use Rattle.watch_schedules.proofs.watching.watch_program.Goals as goal

pub new-requires-clause-program : goal.new-requires-clause-program
new-requires-clause-program c =
    subst (λ (slots : List CSlot). IsProgram slots c.args.program.now) (sym c.as_slice-2.ensures)
    (scheduled_is c.args.doc.now c.args.program.now c.requires.document c.requires.scheduled.program)

pub new-requires-clause-start : goal.new-requires-clause-start
new-requires-clause-start c =
    let fits = scheduled_is c.args.doc.now c.args.program.now c.requires.document c.requires.scheduled.program in
    subst (λ (state : State). IsTrue (is_state (slot_ranges c.as_slice-2.result.now) state)) (sym c.as_slice-3.ensures)
    (subst (λ (slots : List CSlot). IsTrue (is_state (slot_ranges slots) c.in_ok-start.start))
    (sym c.as_slice-2.ensures)
    (subst (λ (slots : List CSlot). All IsSlot slots → IsProgram slots c.args.program.now →
    IsTrue (is_state (slot_ranges slots) c.in_ok-start.start)) c.as_slice.ensures c.in_ok-start.ensures.ranges
    c.requires.document.slots fits))

pub returns-in_err-runner : goal.returns-in_err-runner
returns-in_err-runner c =
    let p = err_from_is_err_and c.from_residual-in_err-runner.result c.from_residual-in_err-runner.ensures.1 in
    let start = c.as_slice-3.ensures ∙ c.in_ok-start.ensures.numbers
    ∙ ap (λ (slots : List CSlot). start_state slots c.args.program.now) c.as_slice.ensures in
    subst (FindsWatched c.args.doc.now) (sym p.1)
    (start_stopped c.args.doc.now c.args.program.now c.args.choices c.requires.scheduled c.in_err-runner.field-0.0 p.0
    p.2 (λ e. subst (λ (state : State). form_value state [] c.args.program.now.initially ≡ false) start
    (c.in_err-runner.ensures.not_initial.0 (ap (λ (s : StartError). Err s) e))))

pub returns-then-not-is_proved : goal.returns-then-not-is_proved
returns-then-not-is_proved c =
    let start = c.as_slice-3.ensures ∙ c.in_ok-start.ensures.numbers
    ∙ ap (λ (slots : List CSlot). start_state slots c.args.program.now) c.as_slice.ensures in (
      c.args.program.now,
      c.args.choices,
      c.requires.scheduled,
      subst (λ (state : State). form_value state [] c.args.program.now.initially ≡ true) start
          c.in_ok-runner.ensures.initial,
      sym c.is_proved.ensures ∙ c.if-not-is_proved.true,
    )

pub returns-in_err-records : goal.returns-in_err-records
returns-in_err-records c =
    let p = err_from_is_err_and c.from_residual-in_err-records.result c.from_residual-in_err-records.ensures.1 in
    let start = c.as_slice-3.ensures ∙ c.in_ok-start.ensures.numbers
    ∙ ap (λ (slots : List CSlot). start_state slots c.args.program.now) c.as_slice.ensures in
    subst (FindsWatched c.args.doc.now) (sym p.1)
    (book_stopped c.args.doc.now c.args.program.now c.args.choices c.requires.scheduled
    (subst (λ (state : State). form_value state [] c.args.program.now.initially ≡ true) start
    c.in_ok-runner.ensures.initial) (sym c.is_proved.ensures ∙ c.if-not-is_proved.false) p.0
    (subst (HasNoBook c.args.doc.now) (sym p.2) c.in_err-records.ensures.refused))

pub watch_records-requires-clause-initial : goal.watch_records-requires-clause-initial
watch_records-requires-clause-initial c =
    let start = c.as_slice-3.ensures ∙ c.in_ok-start.ensures.numbers
    ∙ ap (λ (slots : List CSlot). start_state slots c.args.program.now) c.as_slice.ensures in
    subst (λ (state : State). form_value state [] c.args.program.now.initially ≡ true) start
    c.in_ok-runner.ensures.initial

pub watch_records-requires-clause-start : goal.watch_records-requires-clause-start
watch_records-requires-clause-start c =
    c.in_ok-runner.ensures.state ∙ c.as_slice-3.ensures ∙ c.in_ok-start.ensures.numbers
    ∙ ap (λ (slots : List CSlot). start_state slots c.args.program.now) c.as_slice.ensures
