-- What is found of a schedule, where a call that is made says so.
use Rattle.std.proofs.Common.{◌≡◌, ◌<◌, ◌≤◌, ℕ, nat_lt, List, Bool, true, false, Some, Err, refl, sym, subst, arith}
use Rattle.meaning_states.specs.State.{State}
use Rattle.meaning_executions.specs.Execution.{System}
use Rattle.executor.specs.CoreSystem.{core_system}
use Rattle.executor.specs.StartState.{start_state}
use Rattle.trace_watch.specs.declared.tracing.Ending.{Ending}
use Rattle.trace_watch.specs.declared.violations.Violation.{Violation}
use Rattle.trace_watch.specs.Tracing.{EndsAs}
use Rattle.watch_schedules.specs.declared.watching.WatchedSchedule.{WatchedSchedule}
use Rattle.core_terms.specs.declared.programs.CProgram.{CProgram}
use Rattle.core_terms.specs.declared.documents.CDocument.{CDocument}
use Rattle.core_terms.specs.Conditions.{IsCoreDocument, IsProgram}
use Rattle.executor.specs.declared.runner.StartError.{StartError}
use Rattle.fair_rounds.specs.declared.records.Record.{Record}
use Rattle.schedule_replay.specs.declared.schedule.ScheduleError.{ScheduleError}
use Rattle.schedule_replay.specs.Schedules.{HasNoSchedule}
use Rattle.run_traces.specs.Programs.{scheduled_program}
use Rattle.run_traces.proofs.FindingLaws.{scheduled_in}
use Rattle.run_traces.proofs.TraceAnswers.{program_in}
use Rattle.trace_watch.specs.declared.violations.WatchError.{WatchError}
use Rattle.trace_watch.specs.Cases.{WatchedStep, total_cases, watched}
use Rattle.watch_schedules.specs.declared.error.WatchStop.{WatchStop}
use Rattle.watch_schedules.specs.Schedules.{FindsWatched, HasNoBook, IsBookOf, IsScheduled, IsWatchedSchedule}
use Rattle.watch_schedules.specs.Schedules.{is_proved, starts}
use Rattle.watch_schedules.specs.Telling.{CaseIn}
use Rattle.watch_schedules.proofs.PlanLaws.{violated_in}
use Rattle.watch_schedules.specs.Stops.{schedule_stop, start_stop, watch_stop}

-- the program of a schedule is one of the document
pub scheduled_is : (d : CDocument) (p : CProgram) → IsCoreDocument d → scheduled_program d ≡ Some p →
    IsProgram d.slots p
scheduled_is d p is h = program_in d p is (scheduled_in d p h)

-- no choices
pub schedule_stopped : (d : CDocument) (e : ScheduleError) (stop : WatchStop) → stop ≡ schedule_stop e →
    HasNoSchedule d e → FindsWatched d (Err stop)
schedule_stopped d ScheduleError.NoSchedule stop same h =
    subst (λ s. FindsWatched d (Err s)) (sym same) h
schedule_stopped d (ScheduleError.Fault code at) stop same h = subst (λ s. FindsWatched d (Err s)) (sym same) h.1
schedule_stopped d ScheduleError.Memory stop same h = subst (λ s. FindsWatched d (Err s)) (sym same) tt

-- no start
pub start_stopped : (d : CDocument) (p : CProgram) (choices : List ℕ) → IsScheduled d p choices → (e : StartError)
    (stop : WatchStop) → stop ≡ start_stop e → (e ≡ StartError.NotInitial → starts d p ≡ false) →
    FindsWatched d (Err stop)
start_stopped d p choices h StartError.NotInitial stop same initial =
    subst (λ s. FindsWatched d (Err s)) (sym same) (p, choices, h, initial refl)
start_stopped d p choices h StartError.Memory stop same initial = subst (λ s. FindsWatched d (Err s)) (sym same) tt

-- no memory
pub memory_stopped : (d : CDocument) (stop : WatchStop) → stop ≡ WatchStop.Memory → FindsWatched d (Err stop)
memory_stopped d stop same = subst (λ s. FindsWatched d (Err s)) (sym same) tt

-- no plan
pub book_stopped : (d : CDocument) (p : CProgram) (choices : List ℕ) → IsScheduled d p choices →
    starts d p ≡ true → is_proved d p ≡ true → (stop : WatchStop) → HasNoBook d stop → FindsWatched d (Err stop)
book_stopped d p choices h initial proved (WatchStop.Step fault) none = (p, choices, h, initial, proved, none)
book_stopped d p choices h initial proved WatchStop.Memory none = tt
book_stopped d p choices h initial proved stop none = absurd none

-- too many cases
pub watch_stopped : (d : CDocument) (p : CProgram) (choices : List ℕ) (records : List Record) →
    IsScheduled d p choices → starts d p ≡ true → is_proved d p ≡ true → IsBookOf d records →
    (e : WatchError) (stop : WatchStop) → stop ≡ watch_stop e →
    (e ≡ WatchError.TooManyCases → 4096 < total_cases p records) → FindsWatched d (Err stop)
watch_stopped d p choices records h initial proved book WatchError.TooManyCases stop same many =
    subst (λ s. FindsWatched d (Err s)) (sym same) (
      p,
      choices,
      book.0,
      h,
      initial,
      proved,
      book.1,
      subst (λ rs. 4096 < total_cases p rs) book.2 (many refl),
    )
watch_stopped d p choices records h initial proved book WatchError.Memory stop same many =
    subst (λ s. FindsWatched d (Err s)) (sym same) tt

-- no more cases than are watched
pub few_cases : (n : ℕ) → (4096 < n → ⊥) → n ≤ 4096
few_cases n none = by (nat_lt 4096 n) refl
  where
    by : (b : Bool) → nat_lt 4096 n ≡ b → n ≤ 4096
    by true e = absurd (none (grind (arith, e)))
    by false e = grind (arith, e)

-- a trace ends so, whichever way its parts are written
pub moved_ends : (x y : System) (ss ts : List WatchedStep) (s t : State) (cs ds : List ℕ) (e f : State)
    (ending : Ending) →
    x ≡ y → ss ≡ ts → s ≡ t → cs ≡ ds → e ≡ f → EndsAs x ss s cs e ending → EndsAs y ts t ds f ending
moved_ends x y ss ts s t cs ds e f ending xs sss sts css es h =
    subst (λ q. EndsAs y ts t ds q ending) es (subst (λ q. EndsAs y ts t q e ending) css
    (subst (λ q. EndsAs y ts q cs e ending) sts (subst (λ q. EndsAs y q s cs e ending) sss
    (subst (λ q. EndsAs q ss s cs e ending) xs h))))

-- a step that is violated is one of the records
pub violated_case : (d : CDocument) (w : WatchedSchedule) → IsWatchedSchedule d w → (place : ℕ) (v : Violation) →
    w.ending ≡ Ending.Violated place v → CaseIn w.records v
violated_case d w h place v same =
    let ends = subst (λ e. EndsAs (core_system d.slots w.program.now) (watched w.program.now h.plan.records)
    (start_state d.slots w.program.now) w.choices w.state.items e) same h.ends in
    subst (λ rs. CaseIn rs v) (sym h.records)
    (violated_in w.program.now _ h.plan.records v ends.1.violated)
