use Rattle.std.proofs.Common.{◌<◌, List, All, Err, sym, ap, ◌∙◌, subst}
use Rattle.std.proofs.lemmas.Result.{err_from_is_err_and}
use Rattle.core_terms.specs.declared.programs.CSlot.{CSlot}
use Rattle.core_terms.specs.declared.programs.CProgram.{CProgram}
use Rattle.core_terms.specs.Conditions.{IsProgram}
use Rattle.executor.specs.Running.{state_of}
use Rattle.executor.specs.StartState.{start_state}
use Rattle.fair_rounds.specs.declared.records.Record.{Record}
use Rattle.executor.specs.CoreSystem.{core_system}
use Rattle.trace_watch.specs.declared.violations.WatchError.{WatchError}
use Rattle.trace_watch.specs.Cases.{total_cases, watched}
use Rattle.trace_watch.specs.Places.{RecordFormsFit}
use Rattle.trace_watch.specs.Tracing.{WatchesDefined}
use Rattle.trace_watch.specs.Watching as watching
use Rattle.watch_schedules.specs.Schedules.{FindsWatched}
use Rattle.watch_schedules.proofs.PlanLaws.{defined_watched, records_fit}
use Rattle.watch_schedules.proofs.ScheduleLaws.{few_cases, moved_ends, scheduled_is, watch_stopped}
use Rattle.watch_schedules.proofs.watching.watch_records.Goals as goal

pub new-requires-clause-program : goal.new-requires-clause-program
new-requires-clause-program c =
    subst (λ (slots : List CSlot). IsProgram slots c.args.program.now) (sym c.as_slice-slots.ensures)
    (scheduled_is c.args.doc.now c.args.program.now c.requires.document c.requires.scheduled.program)

pub new-requires-clause-fits : goal.new-requires-clause-fits
new-requires-clause-fits c =
    let book = c.requires.records in
    subst (λ (rs : List Record). All (RecordFormsFit c.as_slice-slots.result.now) rs)
    (sym (c.as_slice.ensures ∙ book.2))
    (subst (λ (slots : List CSlot). All (RecordFormsFit slots) book.0.records) (sym c.as_slice-slots.ensures)
    (records_fit c.args.doc.now c.requires.document book.0 book.1))

pub returns-in_err-watch : goal.returns-in_err-watch
returns-in_err-watch c =
    let p = err_from_is_err_and c.from_residual.result c.from_residual.ensures.1 in
    subst (FindsWatched c.args.doc.now) (sym p.1)
    (watch_stopped c.args.doc.now c.args.program.now c.args.choices c.args.records c.requires.scheduled
    c.requires.initial c.requires.proved c.requires.records c.in_err-watch.field-0.0 p.0 p.2
    (λ e. subst (λ (rs : List Record). 4096 < total_cases c.args.program.now rs) c.as_slice.ensures
    (c.in_err-watch.ensures.many.0 (ap (λ (w : WatchError). Err w) e))))

pub watch_choices-ending-requires-clause-defined : goal.watch_choices-ending-requires-clause-defined
watch_choices-ending-requires-clause-defined c =
    let book = c.requires.records in
    subst WatchesDefined
    (sym (c.in_ok-watch.ensures.steps ∙ ap (watched c.args.program.now) (c.as_slice.ensures ∙ book.2)))
    (defined_watched c.args.doc.now c.requires.document c.args.program.now c.requires.scheduled.program
    c.requires.proved book.0 book.1)

pub returns : goal.returns
returns c =
    let book = c.requires.records in
    let w = c.in_ok-watch.watch in
    let p : CProgram = c.args.program.now in
    let slots : List CSlot = c.args.doc.now.slots in
    let records = c.as_slice.ensures ∙ book.2 in
    record {
      scheduled = c.requires.scheduled;
      initial = c.requires.initial;
      proved = c.requires.proved;
      plan = book.0;
      planned = book.1;
      records = book.2;
      few = few_cases (total_cases p book.0.records)
          (λ many. let never = c.in_ok-watch.ensures.many.1
          (subst (λ (rs : List Record). 4096 < total_cases p rs) (sym records) many) in cc);
      ends = moved_ends (watching.system_of w) (core_system slots p) (watching.steps_of w) (watched p book.0.records)
          (state_of c.args.runner) (start_state slots p) c.as_slice-2.result.now c.args.choices
          (state_of c.watch_choices-ending.new.runner) c.in_ok-from_slice.field-0.items c.watch_choices-ending.result
          (ap (λ (ss : List CSlot). core_system ss (watching.program_of w))
          (c.in_ok-watch.ensures.slots ∙ c.as_slice-slots.ensures)
          ∙ ap (core_system slots) c.in_ok-watch.ensures.program)
          (c.in_ok-watch.ensures.steps ∙ ap (watched p) records) c.requires.start c.as_slice-2.ensures
          (sym (c.in_ok-from_slice.ensures.items ∙ c.state-2.ensures)) c.watch_choices-ending.ensures;
    }
