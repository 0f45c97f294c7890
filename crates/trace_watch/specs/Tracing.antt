-- A whole trace that is watched.
use Rattle.std.specs.Prelude.{◌≡◌, ℕ, List, ◌∷◌, Some, slice_get, take, length}
use Rattle.case_tables.specs.declared.kind_table.Kind.{Kind}
use Rattle.meaning_states.specs.State.{State}
use Rattle.meaning_executions.specs.Execution.{System, Steps}
use Rattle.trace_watch.specs.declared.tracing.Ending.{Ending}
use Rattle.trace_watch.specs.Readings.{Reading}
use Rattle.trace_watch.specs.Cases.{WatchedStep}
use Rattle.trace_watch.specs.Violations.{IsFirstViolation, IsUnviolated}

-- a `defined` step is watched
pub record WatchesDefined (steps : List WatchedStep) : Type 0 where
  pub step : ℕ
  pub watched : WatchedStep
  pub there : slice_get steps step ≡ Some watched
  pub case : ℕ
  pub reading : Reading
  pub its : slice_get watched.cases case ≡ Some reading
  pub kind : reading.kind ≡ Kind.Defined

-- the states that choices lead through, from a start to an end
pub record Leads (x : System) (start : State) (choices : List ℕ) (end : State) : Type 0 where
  pub later : List State
  pub steps : Steps x start choices later
  pub last : slice_get (start ∷ later) (length choices) ≡ Some end

-- how a trace ends that is watched
abbrev pub EndsAs : System → List WatchedStep → State → List ℕ → State → Ending → Type 0
EndsAs x steps start choices end (Ending.Violated place v) =
    (led : Leads x start (take place choices) end)
    × IsFirstViolation x steps (start ∷ led.later) (take place choices) place v
EndsAs x steps start choices end Ending.Unviolated =
    (led : Leads x start choices end) × IsUnviolated x steps (start ∷ led.later) choices
