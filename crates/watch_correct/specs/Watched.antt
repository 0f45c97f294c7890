-- What is found of a document's schedule: by its own program, instances, values, steps and claims.
use Rattle.std.specs.Prelude.{◌≡◌, ◌<◌, ◌≤◌, ℕ, List, true, false, None, Result, Ok, Err, ⊤}
use Rattle.unity_syntax.specs.declared.document.Schedule.{Schedule}
use Rattle.unity_syntax.specs.declared.document.Document.{Document}
use Rattle.meaning_states.specs.State.{State}
use Rattle.meaning_documents.specs.Programs.{Composed}
use Rattle.core_terms.specs.declared.programs.CProgram.{CProgram}
use Rattle.rules_table.specs.Walk.{Plan, walk_of}
use Rattle.watch_laws.specs.from_rules_steps.Starts.{starts_in}
use Rattle.watch_schedules.specs.from_proof_plans.declared.plans.StepFault.{StepFault}
use Rattle.watch_schedules.specs.from_proof_plans.Planning.{IsFailureOf}
use Rattle.run_correct.specs.from_expand_documents.Cores.{core_document}
use Rattle.run_correct.specs.Traces.{source_system, first_state}
use Rattle.run_correct.specs.Answers.{IsReplay, IsUnknown}
use Rattle.trace_watch.specs.declared.tracing.Ending.{Ending}
use Rattle.trace_watch.specs.Cases.{total_cases}
use Rattle.trace_watch.specs.Tracing.{EndsAs}
use Rattle.watch_laws.specs.Claimed.{claimed}
use Rattle.watch_schedules.specs.declared.error.WatchStop.{WatchStop}
use Rattle.watch_schedules.specs.declared.watching.WatchedSchedule.{WatchedSchedule}
use Rattle.watch_schedules.specs.Schedules.{is_proved, IsPlan}
use Rattle.watch_schedules.specs.Telling.{ending_text, schedule_text}

-- the document's schedule, its program with its core form, and the instances that are chosen
pub record Replay (d : Document) : Type 0 where
  pub schedule : Schedule
  pub program : Composed
  pub core : CProgram
  pub choices : List ℕ
  pub replay_is : IsReplay d schedule program core choices

-- its start state is no initial one
pub record ScheduleHasNoStart (d : Document) : Type 0 where
  pub replay : Replay d
  pub not_initial : (source_system d replay.program).initial (first_state d replay.core) ≡ false

-- it is an initial one
pub record Started (d : Document) : Type 0 where
  pub replay : Replay d
  pub initial : (source_system d replay.program).initial (first_state d replay.core) ≡ true

-- but the program has no proof
pub record HasNoProof (d : Document) : Type 0 where
  pub started : Started d
  pub unproved : is_proved (core_document d) started.replay.core ≡ false

-- and the program has a proof
pub record Proved (d : Document) : Type 0 where
  pub started : Started d
  pub proved : is_proved (core_document d) started.replay.core ≡ true

-- but this is the first failure of a step, or of a proof's end
pub record HasNoPlan (d : Document) (fault : StepFault) : Type 0 where
  pub proved : Proved d
  pub failure : IsFailureOf fault (walk_of (core_document d) (starts_in (core_document d).slots))

-- and all steps of all proofs follow their rules
pub record Planned (d : Document) : Type 0 where
  pub proved : Proved d
  pub plan : Plan
  pub planned : IsPlan (core_document d) plan

-- but the program's steps have more than 4,096 cases in all
pub record HasManyCases (d : Document) : Type 0 where
  pub planned : Planned d
  pub many : 4096 < total_cases planned.proved.started.replay.core planned.plan.records

-- and have no more: the document's trace ends so, in this state, where the claims of the program's proof are read
pub record IsEnding (d : Document) (planned : Planned d) (state : State) (ending : Ending) : Type 0 where
  pub few : total_cases planned.proved.started.replay.core planned.plan.records ≤ 4096
  pub ends : EndsAs (source_system d planned.proved.started.replay.program)
      (claimed d planned.proved.started.replay.core planned.plan.records)
      (first_state d planned.proved.started.replay.core) planned.proved.started.replay.choices state ending

-- and this is told of it
pub record IsWatched (d : Document) (ending : Ending) (text : List ℕ) : Type 0 where
  pub planned : Planned d
  pub state : State
  pub ending_is : IsEnding d planned state ending
  pub text_is : text ≡ ending_text (core_document d) planned.proved.started.replay.core
      planned.proved.started.replay.choices planned.plan.records state ending

-- why a schedule is not watched
abbrev pub StopsWatching : Document → WatchStop → Type 0
StopsWatching d WatchStop.NoSchedule = d.schedule ≡ None
StopsWatching d (WatchStop.NoSuchStatement at) = IsUnknown d at
StopsWatching d WatchStop.NotInitial = ScheduleHasNoStart d
StopsWatching d WatchStop.NoProof = HasNoProof d
StopsWatching d (WatchStop.Step fault) = HasNoPlan d fault
StopsWatching d WatchStop.TooManyCases = HasManyCases d
StopsWatching d WatchStop.Memory = ⊤

-- what is found of the document
abbrev pub Watches : Document → Result WatchedSchedule WatchStop → Type 0
Watches d (Ok w) = IsWatched d w.ending (schedule_text (core_document d) w)
Watches d (Err stop) = StopsWatching d stop
