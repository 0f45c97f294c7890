-- What is found of a document's schedule that is watched.
use Rattle.std.specs.Prelude.{◌≡◌, ◌<◌, ◌≤◌, ℕ, nat_eq, List, [], length, All, Bool, true, false, Option, Some, Result}
use Rattle.std.specs.Prelude.{Ok, Err, ⊤}
use Rattle.std.specs.List.{list_any}
use Rattle.core_terms.specs.declared.programs.CProgram.{CProgram}
use Rattle.core_terms.specs.declared.documents.CDocument.{CDocument}
use Rattle.core_terms.specs.Values.{form_value}
use Rattle.fair_rounds.specs.declared.records.Record.{Record}
use Rattle.executor.specs.CoreSystem.{core_system}
use Rattle.executor.specs.StartState.{start_state}
use Rattle.schedule_replay.specs.Schedules.{IsSchedule, IsUnknownChoice}
use Rattle.run_traces.specs.Programs.{scheduled_program}
use Rattle.soundness.specs.from_rules_table.Walk.{Plan, walk_of}
use Rattle.proof_plans.specs.from_rules_steps.Starts.{starts_in}
use Rattle.proof_plans.specs.Planning.{IsFailureOf}
use Rattle.trace_watch.specs.Cases.{watched, total_cases}
use Rattle.trace_watch.specs.Tracing.{EndsAs}
use Rattle.watch_schedules.specs.declared.error.WatchStop.{WatchStop}
use Rattle.watch_schedules.specs.declared.watching.WatchedSchedule.{WatchedSchedule}

-- the program of the document's schedule, and the instances of it that the schedule chooses
pub record IsScheduled (d : CDocument) (p : CProgram) (choices : List ℕ) : Type 0 where
  pub program : scheduled_program d ≡ Some p
  pub choices_are : IsSchedule d choices
  pub instances : All (λ choice. choice < length p.statements) choices

-- its start state is an initial one
abbrev pub starts : CDocument → CProgram → Bool
starts d p = form_value (start_state d.slots p) [] p.initially

-- the program has a proof
abbrev pub is_proved : CDocument → CProgram → Bool
is_proved d p = list_any (λ proof. nat_eq proof.program p.name) d.proofs

-- the steps of the document's proofs give this plan
abbrev pub IsPlan : CDocument → Plan → Type 0
IsPlan d plan = walk_of d (starts_in d.slots) ≡ Ok plan

-- the records of that plan; or no plan, for this cause
abbrev pub IsBookOf : CDocument → List Record → Type 0
IsBookOf d records = (plan : Plan) × IsPlan d plan × (records ≡ plan.records)

abbrev pub HasNoBook : CDocument → WatchStop → Type 0
HasNoBook d (WatchStop.Step fault) = IsFailureOf fault (walk_of d (starts_in d.slots))
HasNoBook d WatchStop.Memory = ⊤
HasNoBook d stop = ⊥

-- the trace of the schedule was watched for the steps of its program's proof, and ended so
pub record IsWatchedSchedule (d : CDocument) (w : WatchedSchedule) : Type 0 where
  pub scheduled : IsScheduled d w.program.now w.choices
  pub initial : starts d w.program.now ≡ true
  pub proved : is_proved d w.program.now ≡ true
  pub plan : Plan
  pub planned : IsPlan d plan
  pub records : w.records ≡ plan.records
  pub few : total_cases w.program.now plan.records ≤ 4096
  pub ends : EndsAs (core_system d.slots w.program.now) (watched w.program.now plan.records)
      (start_state d.slots w.program.now) w.choices w.state.items w.ending

-- why it was not: the first cause that there is
abbrev pub StopsSchedule : CDocument → WatchStop → Type 0
StopsSchedule d WatchStop.NoSchedule = d.schedule ≡ Option.None
StopsSchedule d (WatchStop.NoSuchStatement at) = IsUnknownChoice d at
StopsSchedule d WatchStop.NotInitial =
    (p : CProgram) × (choices : List ℕ) × IsScheduled d p choices × (starts d p ≡ false)
StopsSchedule d WatchStop.NoProof =
    (p : CProgram) × (choices : List ℕ) × IsScheduled d p choices × (starts d p ≡ true) × (is_proved d p ≡ false)
StopsSchedule d (WatchStop.Step fault) =
    (p : CProgram) × (choices : List ℕ) × IsScheduled d p choices × (starts d p ≡ true) × (is_proved d p ≡ true)
    × IsFailureOf fault (walk_of d (starts_in d.slots))
StopsSchedule d WatchStop.TooManyCases =
    (p : CProgram) × (choices : List ℕ) × (plan : Plan) × IsScheduled d p choices × (starts d p ≡ true)
    × (is_proved d p ≡ true) × IsPlan d plan × (4096 < total_cases p plan.records)
StopsSchedule d WatchStop.Memory = ⊤

-- what is found
abbrev pub FindsWatched : CDocument → Result WatchedSchedule WatchStop → Type 0
FindsWatched d (Ok w) = IsWatchedSchedule d w
FindsWatched d (Err stop) = StopsSchedule d stop
