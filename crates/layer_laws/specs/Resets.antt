-- A state with a layer's own slots as they are in another state.
use Rattle.std.specs.Prelude.{◌≡◌, ℕ, suc, pos, List, [], ◌∷◌, Bool, cond, Some, None, IsTrue, slice_get}
use Rattle.meaning_states.specs.State.{State, Ranges, is_state}
use Rattle.meaning_states.specs.Step.{Write, is_defined, written}

-- the slots that the test names, counted from k on, as they are in the first state, and 0 where it has none of them
abbrev pub reset : (ℕ → Bool) → ℕ → State → State → State
reset new k origin [] = []
reset new k [] (y ∷ ys) = cond (new k) (pos 0) y ∷ reset new (suc k) [] ys
reset new k (z ∷ zs) (y ∷ ys) = cond (new k) z y ∷ reset new (suc k) zs ys

-- the writes to other slots
abbrev pub old_writes : (ℕ → Bool) → List Write → List Write
old_writes new [] = []
old_writes new ((None, z) ∷ ws) = (None, z) ∷ old_writes new ws
old_writes new ((Some n, z) ∷ ws) = cond (new n) (old_writes new ws) ((Some n, z) ∷ old_writes new ws)

abbrev pub ResetItself : Type 0
ResetItself = (new : ℕ → Bool) (k : ℕ) (s : State) → reset new k s s ≡ s

-- where all writes are made, those to other slots are made in the state that is put back
abbrev pub WrittenReset : Type 0
WrittenReset = (new : ℕ → Bool) (origin s : State) (ws : List Write) →
    written (reset new 0 origin s) (old_writes new ws) ≡ reset new 0 origin (written s ws)

-- writes to the slots of the test alone leave the state that is put back
abbrev pub WrittenBeside : Type 0
WrittenBeside = (new : ℕ → Bool) (origin s : State) (ws : List Write) →
    ((place n : ℕ) (w : Write) → slice_get ws place ≡ Some w → w.0 ≡ Some n → IsTrue (new n)) →
    reset new 0 origin (written s ws) ≡ reset new 0 origin s

-- the writes to other slots are defined where all are
abbrev pub OldAreDefined : Type 0
OldAreDefined = (new : ℕ → Bool) (ranges : Ranges) (ws : List Write) → IsTrue (is_defined ranges ws) →
    IsTrue (is_defined ranges (old_writes new ws))

-- of two states the one put back as the other is a state
abbrev pub ResetIsState : Type 0
ResetIsState = (new : ℕ → Bool) (k : ℕ) (ranges : Ranges) (origin s : State) → IsTrue (is_state ranges origin) →
    IsTrue (is_state ranges s) → IsTrue (is_state ranges (reset new k origin s))
