-- What the commands answer over a document: its own programs, instances, steps and schedule.
use Rattle.std.specs.Prelude.{◌≡◌, ℕ, List, true, false, Option, Some, None, Result, Ok, Err}
use Rattle.std.specs.Prelude.{map, length, find, is_none}
use Rattle.std.specs.Option.{option_map}
use Rattle.std.specs.Io.KnownBytes.{Appends}
use Rattle.unity_base.specs.Streams.{AppendsPart}
use Rattle.unity_syntax.specs.declared.document.Schedule.{Schedule}
use Rattle.unity_syntax.specs.declared.document.Document.{Document}
use Rattle.meaning_documents.specs.Programs.{Composed, program_named, programs_of}
use Rattle.names_rules.specs.Declarations.{some_of}
use Rattle.core_terms.specs.declared.programs.CProgram.{CProgram}
use Rattle.executor.specs.declared.runner.Stepped.{Stepped}
use Rattle.schedule_replay.specs.declared.heading.Heading.{Heading}
use Rattle.schedule_replay.specs.Schedules.{turns}
use Rattle.run_traces.specs.declared.trace_error.TraceError.{TraceError}
use Rattle.run_traces.specs.Traces.{all_defined, ending}
use Rattle.run_traces.specs.declared.error.RunError.{RunError}
use Rattle.expand_correct.specs.Preserved.Meaning.{IsCoreProgramOf}
use Rattle.run_correct.specs.Names.{place_of}
use Rattle.run_correct.specs.Traces.{source_system, first_state, program_trace}

-- the start state is an initial one; the whole trace from it was written, and ends so
pub record IsTraced (d : Document) (name : List ℕ) (c : Composed) (p : CProgram) (heading : Heading)
    (choices : List ℕ) (old new : Option (List ℕ)) (end : Stepped) : Type 0 where
  pub initial : (source_system d c).initial (first_state d p) ≡ true
  pub whole : Appends old new (program_trace d name c heading (first_state d p) choices)
  pub ending_is : end ≡ ending (all_defined (source_system d c) (first_state d p) choices)

-- the trace from an initial start state was written, or a proper part of it; or the start state is no initial one, or
-- memory was refused, and nothing was written
abbrev pub Traces : Document → List ℕ → Composed → CProgram → Heading → List ℕ → Option (List ℕ) →
    Option (List ℕ) → Result Stepped TraceError → Type 0
Traces d name c p heading choices old new (Ok end) = IsTraced d name c p heading choices old new end
Traces d name c p heading choices old new (Err TraceError.NotInitial) =
    ((source_system d c).initial (first_state d p) ≡ false) × (new ≡ old)
Traces d name c p heading choices old new (Err TraceError.Failed) =
    ((source_system d c).initial (first_state d p) ≡ true)
    × AppendsPart old new (program_trace d name c heading (first_state d p) choices)
Traces d name c p heading choices old new (Err TraceError.Memory) = new ≡ old

-- the trace of a run: that of the program with this name, each instance in turn
abbrev pub RunTraces : Document → List ℕ → ℕ → Option (List ℕ) → Option (List ℕ) → Result Stepped TraceError → Type 0
RunTraces d name steps old new answer = (c : Composed) × (p : CProgram) × IsCoreProgramOf d name c p
    × Traces d name c p Heading.Run (turns (length c.instances) steps) old new answer

-- what `run` answers, and what it wrote
abbrev pub Runs : Document → List ℕ → ℕ → Option (List ℕ) → Option (List ℕ) → Result Stepped RunError → Type 0
Runs d name steps old new (Ok end) = RunTraces d name steps old new (Ok end)
Runs d name steps old new (Err RunError.NoProgram) = (program_named name (programs_of d) ≡ None) × (new ≡ old)
Runs d name steps old new (Err RunError.NoSchedule) = ⊥
Runs d name steps old new (Err (RunError.NoSuchStatement at)) = ⊥
Runs d name steps old new (Err RunError.NotInitial) = RunTraces d name steps old new (Err TraceError.NotInitial)
Runs d name steps old new (Err RunError.Failed) = RunTraces d name steps old new (Err TraceError.Failed)
Runs d name steps old new (Err RunError.Memory) = RunTraces d name steps old new (Err TraceError.Memory)

-- the document's schedule names this program, and the instances at these places
pub record IsReplay (d : Document) (s : Schedule) (c : Composed) (p : CProgram) (choices : List ℕ) : Type 0 where
  pub there : d.schedule ≡ Some s
  pub core : IsCoreProgramOf d s.program.text c p
  pub named : map Some choices ≡ map (place_of c) (some_of s.choices)

-- the trace of a replay
abbrev pub ReplayTraces : Document → Option (List ℕ) → Option (List ℕ) → Result Stepped TraceError → Type 0
ReplayTraces d old new answer =
    (s : Schedule) × (c : Composed) × (p : CProgram) × (choices : List ℕ) × IsReplay d s c p choices
    × Traces d s.program.text c p Heading.Replay choices old new answer

-- the first choice of the document's schedule that names no instance of its program stands at this byte
pub record IsUnknown (d : Document) (at : ℕ) : Type 0 where
  pub schedule : Schedule
  pub there : d.schedule ≡ Some schedule
  pub program : Composed
  pub source : program_named schedule.program.text (programs_of d) ≡ Some program
  pub first : option_map (λ i. i.at) (find (λ i. is_none (place_of program i)) (some_of schedule.choices)) ≡ Some at

-- what `replay` answers, and what it wrote
abbrev pub Replays : Document → Option (List ℕ) → Option (List ℕ) → Result Stepped RunError → Type 0
Replays d old new (Ok end) = ReplayTraces d old new (Ok end)
Replays d old new (Err RunError.NoProgram) = ⊥
Replays d old new (Err RunError.NoSchedule) = (d.schedule ≡ None) × (new ≡ old)
Replays d old new (Err (RunError.NoSuchStatement at)) = IsUnknown d at × (new ≡ old)
Replays d old new (Err RunError.NotInitial) = ReplayTraces d old new (Err TraceError.NotInitial)
Replays d old new (Err RunError.Failed) = ReplayTraces d old new (Err TraceError.Failed)
Replays d old new (Err RunError.Memory) = (s : Schedule) × (d.schedule ≡ Some s) × (new ≡ old)
