-- A leads-to read on short executions alone.
use Rattle.std.specs.Prelude.{◌≡◌, ℕ, ◌+◌, ◌≤◌, List, ◌∷◌, Some, IsTrue, drop, length, slice_get}
use Rattle.meaning_states.specs.State.{State, Ranges, is_state}
use Rattle.meaning_executions.specs.Execution.{System, Steps}
use Rattle.meaning_executions.specs.Rounds.{IsShortest}
use Rattle.meaning_executions.specs.Properties.{Test, HoldsSoon}

-- `p leadsto q` holds within a bound as far as executions of at most so many choices from a state show it
abbrev pub LeadsFrom : State → ℕ → System → Test → Test → ℕ → Type 0
LeadsFrom first most x p q bound = (choices : List ℕ) (later : List State) → Steps x first choices later →
    length choices ≤ most →
    (place n : ℕ) (state : State) → slice_get (first ∷ later) place ≡ Some state → IsTrue (p state) →
    IsShortest (drop place choices) (length x.steps) bound n → HoldsSoon q (first ∷ later) place (place + n)

-- and so from each state
abbrev pub LeadsEverywhere : Ranges → ℕ → System → Test → Test → ℕ → Type 0
LeadsEverywhere ranges most x p q bound = (first : State) → IsTrue (is_state ranges first) →
    LeadsFrom first most x p q bound
