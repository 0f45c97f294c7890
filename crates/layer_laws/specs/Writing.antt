-- Systems whose instances make writes, and layers of them.
use Rattle.std.specs.Prelude.{◌≡◌, ℕ, ◌<◌, ◌≤◌, List, Bool, Some, IsTrue, length, map, slice_get}
use Rattle.meaning_states.specs.State.{State, Ranges}
use Rattle.meaning_laws.specs.from_meaning_executions.Execution.{Act, System}
use Rattle.meaning_states.specs.Step.{Write, is_defined, step}
use Rattle.layer_laws.specs.Layers.{IsOver}
use Rattle.layer_laws.specs.Resets.{reset, old_writes}

-- the writes of an instance, made in the old state
abbrev pub StateWrites : Type 0
StateWrites = State → List Write

abbrev pub act_of : Ranges → StateWrites → Act
act_of ranges f state = step ranges (f state) state

abbrev pub writing : (State → Bool) → Ranges → List StateWrites → System
writing initial ranges fs = record { initial = initial; steps = map (act_of ranges) fs }

-- where they are defined, the first instances of gs make the writes of fs, which do not look at the new slots, and
-- writes to new slots beside them; the other instances write to new slots alone
pub record Extends (new : ℕ → Bool) (ranges : Ranges) (fs gs : List StateWrites) : Type 0 where
  pub some : 0 < length fs
  pub few : length fs ≤ length gs
  pub below : (i : ℕ) (f g : StateWrites) → slice_get fs i ≡ Some f → slice_get gs i ≡ Some g → (origin s : State) →
      IsTrue (is_defined ranges (g s)) → f (reset new 0 origin s) ≡ old_writes new (g s)
  pub beside : (i : ℕ) (g : StateWrites) → length fs ≤ i → slice_get gs i ≡ Some g →
      (s : State) (place n : ℕ) (w : Write) →
      slice_get (g s) place ≡ Some w → w.0 ≡ Some n → IsTrue (new n)

-- such a system is a layer over the other
abbrev pub WritingLayer : Type 0
WritingLayer = (new : ℕ → Bool) (ranges : Ranges) (first initial : State → Bool) (fs gs : List StateWrites) →
    Extends new ranges fs gs → IsOver (writing initial ranges gs) (writing first ranges fs) (reset new 0)
