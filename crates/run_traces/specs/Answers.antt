-- What the commands answer.
use Rattle.std.specs.Prelude.{◌≡◌, ℕ, List, Option, Some, None, Result, Ok, Err, length}
use Rattle.core_terms.specs.declared.programs.CProgram.{CProgram}
use Rattle.core_terms.specs.declared.documents.CDocument.{CDocument}
use Rattle.executor.specs.declared.runner.Stepped.{Stepped}
use Rattle.executor.specs.StartState.{start_state}
use Rattle.schedule_replay.specs.declared.heading.Heading.{Heading}
use Rattle.schedule_replay.specs.Schedules.{IsSchedule, IsUnknownChoice, turns}
use Rattle.run_traces.specs.declared.trace_error.TraceError.{TraceError}
use Rattle.run_traces.specs.TraceAnswers.{CoreTraces}
use Rattle.run_traces.specs.declared.error.RunError.{RunError}
use Rattle.run_traces.specs.Errors.{command_answer}
use Rattle.run_traces.specs.Programs.{program_called, scheduled_program}

-- the answer is that of the trace of the program from its start state
abbrev pub TraceAnswers : CDocument → CProgram → Heading → List ℕ → Option (List ℕ) → Option (List ℕ) →
    Result Stepped RunError → Type 0
TraceAnswers d p heading choices old new result =
    (answer : Result Stepped TraceError)
    × CoreTraces d p heading (start_state d.slots p) choices old new answer × (result ≡ command_answer answer)

-- the trace of a run: that of the program of this name, each instance in turn
abbrev pub CoreRunTraces : CDocument → List ℕ → ℕ → Option (List ℕ) → Option (List ℕ) → Result Stepped TraceError →
    Type 0
CoreRunTraces d name steps old new answer =
    (p : CProgram) × (program_called d name ≡ Some p)
    × CoreTraces d p Heading.Run (start_state d.slots p) (turns (length p.statements) steps) old new answer

-- what `run` answers, and what it wrote
abbrev pub CoreRuns : CDocument → List ℕ → ℕ → Option (List ℕ) → Option (List ℕ) → Result Stepped RunError → Type 0
CoreRuns d name steps old new (Ok end) = CoreRunTraces d name steps old new (Ok end)
CoreRuns d name steps old new (Err RunError.NoProgram) = (program_called d name ≡ None) × (new ≡ old)
CoreRuns d name steps old new (Err RunError.NoSchedule) = ⊥
CoreRuns d name steps old new (Err (RunError.NoSuchStatement at)) = ⊥
CoreRuns d name steps old new (Err RunError.NotInitial) = CoreRunTraces d name steps old new (Err TraceError.NotInitial)
CoreRuns d name steps old new (Err RunError.Failed) = CoreRunTraces d name steps old new (Err TraceError.Failed)
CoreRuns d name steps old new (Err RunError.Memory) = CoreRunTraces d name steps old new (Err TraceError.Memory)

-- the trace of a replay: that of the schedule's program, by the instances that the schedule names
abbrev pub CoreReplayTraces : CDocument → Option (List ℕ) → Option (List ℕ) → Result Stepped TraceError → Type 0
CoreReplayTraces d old new answer =
    (p : CProgram) × (choices : List ℕ) × (scheduled_program d ≡ Some p) × IsSchedule d choices
    × CoreTraces d p Heading.Replay (start_state d.slots p) choices old new answer

-- what `replay` answers, and what it wrote
abbrev pub CoreReplays : CDocument → Option (List ℕ) → Option (List ℕ) → Result Stepped RunError → Type 0
CoreReplays d old new (Ok end) = CoreReplayTraces d old new (Ok end)
CoreReplays d old new (Err RunError.NoProgram) = ⊥
CoreReplays d old new (Err RunError.NoSchedule) = (d.schedule ≡ None) × (new ≡ old)
CoreReplays d old new (Err (RunError.NoSuchStatement at)) = IsUnknownChoice d at × (new ≡ old)
CoreReplays d old new (Err RunError.NotInitial) = CoreReplayTraces d old new (Err TraceError.NotInitial)
CoreReplays d old new (Err RunError.Failed) = CoreReplayTraces d old new (Err TraceError.Failed)
CoreReplays d old new (Err RunError.Memory) = (p : CProgram) × (scheduled_program d ≡ Some p) × (new ≡ old)
