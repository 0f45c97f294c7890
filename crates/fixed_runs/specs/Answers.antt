-- What `fixed` answers.
use Rattle.std.specs.Prelude.{◌≡◌, ℕ, List, [], true, false, length, Option, Some, None, Result, Ok, Err}
use Rattle.std.specs.Io.KnownBytes.{Appends}
use Rattle.meaning_states.specs.State.{State}
use Rattle.unity_base.specs.Streams.{AppendsPart}
use Rattle.core_terms.specs.declared.programs.CProgram.{CProgram}
use Rattle.core_terms.specs.declared.documents.CDocument.{CDocument}
use Rattle.core_terms.specs.Values.{form_value}
use Rattle.executor.specs.declared.runner.Stepped.{Stepped}
use Rattle.executor.specs.StartState.{start_state}
use Rattle.schedule_replay.specs.Schedules.{turns}
use Rattle.run_traces.specs.declared.trace_error.TraceError.{TraceError}
use Rattle.run_traces.specs.declared.error.RunError.{RunError}
use Rattle.run_traces.specs.Programs.{program_called}
use Rattle.fixed_runs.specs.Cores.{core_fixed_text, core_fixed_ending}

-- the state is an initial one; the whole trace from it up to the first fixed point was written, and ends so
pub record IsCoreFixed (d : CDocument) (p : CProgram) (start : State) (choices : List ℕ) (old new : Option (List ℕ))
    (end : Stepped) : Type 0 where
  pub initial : form_value start [] p.initially ≡ true
  pub whole : Appends old new (core_fixed_text d p start choices)
  pub ending_is : end ≡ core_fixed_ending d p start choices

-- the trace from an initial state was written, or a proper part of it; or the state is no initial one, or memory was
-- refused, and nothing was written
abbrev pub CoreFixedTraces : CDocument → CProgram → State → List ℕ → Option (List ℕ) → Option (List ℕ) →
    Result Stepped TraceError → Type 0
CoreFixedTraces d p start choices old new (Ok end) = IsCoreFixed d p start choices old new end
CoreFixedTraces d p start choices old new (Err TraceError.NotInitial) =
    (form_value start [] p.initially ≡ false) × (new ≡ old)
CoreFixedTraces d p start choices old new (Err TraceError.Failed) =
    (form_value start [] p.initially ≡ true) × AppendsPart old new (core_fixed_text d p start choices)
CoreFixedTraces d p start choices old new (Err TraceError.Memory) = new ≡ old

-- the trace of the program of this name, each instance in turn
abbrev pub CoreFixedRunTraces : CDocument → List ℕ → ℕ → Option (List ℕ) → Option (List ℕ) →
    Result Stepped TraceError → Type 0
CoreFixedRunTraces d name steps old new answer =
    (p : CProgram) × (program_called d name ≡ Some p)
    × CoreFixedTraces d p (start_state d.slots p) (turns (length p.statements) steps) old new answer

-- what `fixed` answers, and what it wrote
abbrev pub CoreFixedRuns : CDocument → List ℕ → ℕ → Option (List ℕ) → Option (List ℕ) → Result Stepped RunError →
    Type 0
CoreFixedRuns d name steps old new (Ok end) = CoreFixedRunTraces d name steps old new (Ok end)
CoreFixedRuns d name steps old new (Err RunError.NoProgram) = (program_called d name ≡ None) × (new ≡ old)
CoreFixedRuns d name steps old new (Err RunError.NoSchedule) = ⊥
CoreFixedRuns d name steps old new (Err (RunError.NoSuchStatement at)) = ⊥
CoreFixedRuns d name steps old new (Err RunError.NotInitial) =
    CoreFixedRunTraces d name steps old new (Err TraceError.NotInitial)
CoreFixedRuns d name steps old new (Err RunError.Failed) =
    CoreFixedRunTraces d name steps old new (Err TraceError.Failed)
CoreFixedRuns d name steps old new (Err RunError.Memory) =
    CoreFixedRunTraces d name steps old new (Err TraceError.Memory)
