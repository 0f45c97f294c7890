-- Laws of steps.
use Rattle.std.specs.Prelude.{◌≡◌, ℕ, ℤ, List, Some, IsTrue, slice_get}
use Rattle.meaning_states.specs.State.{State, Ranges, is_state}
use Rattle.meaning_states.specs.Step.{Write, step}

-- the write stands somewhere in the list
abbrev pub IsWrite : List Write → Write → Type 0
IsWrite ws w = (place : ℕ) × (slice_get ws place ≡ Some w)

-- a defined step leads from a state to a state
abbrev pub StepKeepsRanges : Type 0
StepKeepsRanges = (ranges : Ranges) (ws : List Write) (state next : State) →
    IsTrue (is_state ranges state) → step ranges ws state ≡ Some next → IsTrue (is_state ranges next)

-- after a defined step each slot that is written has its value, whatever the order of the writes
abbrev pub WrittenHasValue : Type 0
WrittenHasValue = (ranges : Ranges) (ws : List Write) (state next : State) →
    IsTrue (is_state ranges state) → step ranges ws state ≡ Some next →
    (n : ℕ) (z : ℤ) → IsWrite ws (Some n, z) → slice_get next n ≡ Some z

-- and every other slot keeps its number
abbrev pub OthersKeepNumbers : Type 0
OthersKeepNumbers = (ranges : Ranges) (ws : List Write) (state next : State) →
    IsTrue (is_state ranges state) → step ranges ws state ≡ Some next →
    (n : ℕ) → ((z : ℤ) → IsWrite ws (Some n, z) → ⊥) → slice_get next n ≡ slice_get state n
