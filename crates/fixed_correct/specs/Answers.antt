-- What `fixed` answers over a document: its own program, instances and steps.
use Rattle.std.specs.Prelude.{◌≡◌, ℕ, List, true, false, Option, None, Result, Ok, Err, length}
use Rattle.std.specs.Io.KnownBytes.{Appends}
use Rattle.unity_base.specs.Streams.{AppendsPart}
use Rattle.unity_syntax.specs.declared.document.Document.{Document}
use Rattle.meaning_documents.specs.Programs.{Composed, program_named, programs_of}
use Rattle.core_terms.specs.declared.programs.CProgram.{CProgram}
use Rattle.executor.specs.declared.runner.Stepped.{Stepped}
use Rattle.schedule_replay.specs.Schedules.{turns}
use Rattle.run_traces.specs.declared.trace_error.TraceError.{TraceError}
use Rattle.run_traces.specs.declared.error.RunError.{RunError}
use Rattle.run_traces.specs.Traces.{ending}
use Rattle.run_correct.specs.from_expand_correct.Preserved.Meaning.{IsCoreProgramOf}
use Rattle.fixed_runs.specs.Traces.{fixed_defined}
use Rattle.run_correct.specs.Traces.{source_system, first_state}
use Rattle.fixed_correct.specs.Traces.{fixed_trace}

-- the start state is an initial one; the whole trace from it up to the first fixed point was written, and ends so
pub record IsFixedTraced (d : Document) (name : List ℕ) (c : Composed) (p : CProgram) (choices : List ℕ)
    (old new : Option (List ℕ)) (end : Stepped) : Type 0 where
  pub initial : (source_system d c).initial (first_state d p) ≡ true
  pub whole : Appends old new (fixed_trace d name c (first_state d p) choices)
  pub ending_is : end ≡ ending (fixed_defined (source_system d c) (first_state d p) choices)

-- the trace from an initial start state was written, or a proper part of it; or the start state is no initial one, or
-- memory was refused, and nothing was written
abbrev pub FixedTraces : Document → List ℕ → Composed → CProgram → List ℕ → Option (List ℕ) → Option (List ℕ) →
    Result Stepped TraceError → Type 0
FixedTraces d name c p choices old new (Ok end) = IsFixedTraced d name c p choices old new end
FixedTraces d name c p choices old new (Err TraceError.NotInitial) =
    ((source_system d c).initial (first_state d p) ≡ false) × (new ≡ old)
FixedTraces d name c p choices old new (Err TraceError.Failed) =
    ((source_system d c).initial (first_state d p) ≡ true)
    × AppendsPart old new (fixed_trace d name c (first_state d p) choices)
FixedTraces d name c p choices old new (Err TraceError.Memory) = new ≡ old

-- the trace of the program with this name, each instance in turn
abbrev pub FixedRunTraces : Document → List ℕ → ℕ → Option (List ℕ) → Option (List ℕ) → Result Stepped TraceError →
    Type 0
FixedRunTraces d name steps old new answer = (c : Composed) × (p : CProgram) × IsCoreProgramOf d name c p
    × FixedTraces d name c p (turns (length c.instances) steps) old new answer

-- what `fixed` answers, and what it wrote
abbrev pub FixedRuns : Document → List ℕ → ℕ → Option (List ℕ) → Option (List ℕ) → Result Stepped RunError → Type 0
FixedRuns d name steps old new (Ok end) = FixedRunTraces d name steps old new (Ok end)
FixedRuns d name steps old new (Err RunError.NoProgram) = (program_named name (programs_of d) ≡ None) × (new ≡ old)
FixedRuns d name steps old new (Err RunError.NoSchedule) = ⊥
FixedRuns d name steps old new (Err (RunError.NoSuchStatement at)) = ⊥
FixedRuns d name steps old new (Err RunError.NotInitial) =
    FixedRunTraces d name steps old new (Err TraceError.NotInitial)
FixedRuns d name steps old new (Err RunError.Failed) = FixedRunTraces d name steps old new (Err TraceError.Failed)
FixedRuns d name steps old new (Err RunError.Memory) = FixedRunTraces d name steps old new (Err TraceError.Memory)
