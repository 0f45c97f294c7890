-- Laws of traces, as statements that a function names.
use Rattle.std.specs.Prelude.{◌≡◌, ℕ, List, Some, IsTrue}
use Rattle.meaning_states.specs.State.{State}
use Rattle.meaning_executions.specs.Execution.{System, chosen_step, IsExecution}
use Rattle.meaning_executions.specs.Properties.{Test}
use Rattle.core_terms.specs.declared.programs.CProgram.{CProgram}
use Rattle.core_terms.specs.declared.documents.CDocument.{CDocument}
use Rattle.schedule_replay.specs.declared.heading.Heading.{Heading}
use Rattle.run_traces.specs.Traces.{trace_text, all_defined, later_states}

-- where each step is defined, the states of a trace from an initial state are those of an execution
abbrev pub TraceIsExecution : Type 0
TraceIsExecution = (x : System) (start : State) (choices : List ℕ) → IsTrue (x.initial start) →
    IsTrue (all_defined x start choices) → IsExecution x start choices (later_states x start choices)

-- two programs whose steps agree at all states that pass a test, which their steps keep, have one trace
abbrev pub SameTrace : Type 0
SameTrace = (d : CDocument) (p : CProgram) (x y : System) (u : Test) (heading : Heading) (start : State)
    (choices : List ℕ) → IsTrue (u start) →
    ((choice : ℕ) (state next : State) → IsTrue (u state) → chosen_step x choice state ≡ Some next → IsTrue (u next))
    →
    ((choice : ℕ) (state : State) → IsTrue (u state) → chosen_step x choice state ≡ chosen_step y choice state) →
    (trace_text d p x heading start choices ≡ trace_text d p y heading start choices)
    × (all_defined x start choices ≡ all_defined y start choices)
