-- What a call answers that writes the trace of a program.
use Rattle.std.specs.Prelude.{◌≡◌, ℕ, List, [], true, false, Option, Result, Ok, Err}
use Rattle.std.specs.Io.KnownBytes.{Appends}
use Rattle.meaning_states.specs.State.{State}
use Rattle.unity_base.specs.Streams.{AppendsPart}
use Rattle.core_terms.specs.declared.programs.CProgram.{CProgram}
use Rattle.core_terms.specs.declared.documents.CDocument.{CDocument}
use Rattle.core_terms.specs.Values.{form_value}
use Rattle.executor.specs.CoreSystem.{core_system}
use Rattle.executor.specs.declared.runner.Stepped.{Stepped}
use Rattle.schedule_replay.specs.declared.heading.Heading.{Heading}
use Rattle.run_traces.specs.declared.trace_error.TraceError.{TraceError}
use Rattle.run_traces.specs.Traces.{trace_text, all_defined, ending}

-- the trace of a program of a document from a state, by these choices
abbrev pub program_trace : CDocument → CProgram → Heading → State → List ℕ → List ℕ
program_trace d p heading start choices = trace_text d p (core_system d.slots p) heading start choices

-- the state is an initial one; the whole trace from it was written, and ends so
pub record IsCoreTraced (d : CDocument) (p : CProgram) (heading : Heading) (start : State) (choices : List ℕ)
    (old new : Option (List ℕ)) (end : Stepped) : Type 0 where
  pub initial : form_value start [] p.initially ≡ true
  pub whole : Appends old new (program_trace d p heading start choices)
  pub ending_is : end ≡ ending (all_defined (core_system d.slots p) start choices)

-- the trace from an initial state was written, or a proper part of it; or the state is no initial one, or memory was
-- refused, and nothing was written
abbrev pub CoreTraces : CDocument → CProgram → Heading → State → List ℕ → Option (List ℕ) → Option (List ℕ) →
    Result Stepped TraceError → Type 0
CoreTraces d p heading start choices old new (Ok end) = IsCoreTraced d p heading start choices old new end
CoreTraces d p heading start choices old new (Err TraceError.NotInitial) =
    (form_value start [] p.initially ≡ false) × (new ≡ old)
CoreTraces d p heading start choices old new (Err TraceError.Failed) =
    (form_value start [] p.initially ≡ true) × AppendsPart old new (program_trace d p heading start choices)
CoreTraces d p heading start choices old new (Err TraceError.Memory) = new ≡ old
