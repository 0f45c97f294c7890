-- The first violation of the steps that are watched.
use Rattle.std.specs.Prelude.{◌≡◌, ℕ, suc, ◌<◌, List, [], ◌∷◌, Bool, Option, Some, None, length, take}
use Rattle.std.specs.Option.{option_or, option_map}
use Rattle.std.specs.List.{position_from}
use Rattle.meaning_states.specs.State.{State}
use Rattle.meaning_executions.specs.Execution.{System}
use Rattle.trace_watch.specs.declared.violations.Violation.{Violation}
use Rattle.trace_watch.specs.Readings.{Reading, is_violated}
use Rattle.trace_watch.specs.Cases.{WatchedStep}

abbrev pub violation_of : ℕ → ℕ → Violation
violation_of step case = record { step = step; case = case }

-- the first case of a step that fails a test
abbrev pub first_case : (Reading → Bool) → WatchedStep → Option Violation
first_case failing w = option_map (violation_of w.place) (position_from failing 0 w.cases)

-- and the first of several steps
abbrev pub first_failing : (Reading → Bool) → List WatchedStep → Option Violation
first_failing failing [] = None
first_failing failing (w ∷ rest) = option_or (first_case failing w) (first_failing failing rest)

-- the first step, and then the first case of it, that is violated at the last place of a trace
abbrev pub violation : System → List WatchedStep → List State → List ℕ → Option Violation
violation x steps states choices = first_failing (λ r. is_violated x r states choices) steps

-- what is violated at a place of a trace
abbrev pub violation_at : System → List WatchedStep → List State → List ℕ → ℕ → Option Violation
violation_at x steps states choices place = violation x steps (take (suc place) states) (take place choices)

-- the first violation of a trace: at a place before which nothing is violated
pub record IsFirstViolation (x : System) (steps : List WatchedStep) (states : List State) (choices : List ℕ) (place : ℕ)
    (v : Violation) : Type 0 where
  pub within : place < length states
  pub violated : violation_at x steps states choices place ≡ Some v
  pub first : (earlier : ℕ) → earlier < place → violation_at x steps states choices earlier ≡ None

-- a trace at no place of which anything is violated
abbrev pub IsUnviolated : System → List WatchedStep → List State → List ℕ → Type 0
IsUnviolated x steps states choices =
    (place : ℕ) → place < length states → violation_at x steps states choices place ≡ None
