-- Systems that differ only outside the states of a document, as a program of the source and its core form do.
use Rattle.std.specs.Prelude.{◌≡◌, ℕ, Some, IsTrue, length}
use Rattle.meaning_states.specs.State.{State, Ranges, is_state}
use Rattle.meaning_executions.specs.Execution.{System, chosen_step}
use Rattle.meaning_executions.specs.Properties.{Test}

-- the two start alike, at states of the document; at each of these, each choice leads both to the same state, again one
-- of these
pub record StepEquivalent (ranges : Ranges) (x y : System) : Type 0 where
  pub count : length x.steps ≡ length y.steps
  pub starts : (state : State) → x.initial state ≡ y.initial state
  pub inside : (state : State) → IsTrue (x.initial state) → IsTrue (is_state ranges state)
  pub steps : (state : State) (choice : ℕ) → IsTrue (is_state ranges state) →
      chosen_step x choice state ≡ chosen_step y choice state
  pub keeps : (state next : State) (choice : ℕ) → IsTrue (is_state ranges state) →
      chosen_step x choice state ≡ Some next → IsTrue (is_state ranges next)

-- two tests pass at the same states of the document
abbrev pub SameAt : Ranges → Test → Test → Type 0
SameAt ranges p q = (state : State) → IsTrue (is_state ranges state) → p state ≡ q state
