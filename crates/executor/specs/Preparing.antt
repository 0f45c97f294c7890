-- A step in the making: the next state and the slots that it changes, while writes are added from the last to the
-- first.
use Rattle.std.specs.Prelude.{◌≡◌, ℕ, nat_eq, ℤ, List, [], ◌∷◌, map, Bool, true, false, cond, not, ◌&&◌, ◌||◌, Some}
use Rattle.std.specs.Prelude.{None, IsTrue, slice_get, slice_set, slice_index_or}
use Rattle.std.specs.List.{list_any}
use Rattle.meaning_states.specs.State.{State, Ranges, int_eq, in_range}
use Rattle.meaning_states.specs.Step.{Write, is_defined, written}
use Rattle.core_terms.specs.declared.programs.CWrite.{CWrite}
use Rattle.core_terms.specs.Values.{number_at, term_value, form_value}

-- no slot is marked
abbrev pub unmarked : State → List Bool
unmarked state = map (λ z. false) state

-- the slots that these writes change
abbrev pub marks : List Bool → List Write → List Bool
marks clear [] = clear
marks clear ((None, z) ∷ ws) = marks clear ws
marks clear ((Some n, z) ∷ ws) = slice_set (marks clear ws) n true

-- a defined step of these writes is made in `next`, and its slots are marked
pub record IsStepPrepared (ranges : Ranges) (state next : State) (marked : List Bool) (ws : List Write) : Type 0 where
  pub next_is : next ≡ written state ws
  pub marked_is : marked ≡ marks (unmarked state) ws
  pub defined : IsTrue (is_defined ranges ws)

-- a write of a statement, where its condition holds
abbrev pub write_at : State → CWrite → List Write
write_at state w = cond (form_value state [] w.when) ((Some w.slot, term_value state [] w.value) ∷ []) []

-- whether a write for the slot may be added
abbrev pub is_addable : Ranges → State → List Bool → ℕ → ℤ → Bool
is_addable ranges next marked n z =
    in_range (slice_get ranges n) z && (not (slice_index_or marked n false) || int_eq z (number_at next n))

-- one of the writes is for the slot
abbrev pub is_target : List CWrite → ℕ → Bool
is_target ws n = list_any (λ w. nat_eq w.slot n) ws

-- the states differ, and slots are marked, at targets of the writes alone
abbrev pub TouchesOnly : List CWrite → State → State → List Bool → Type 0
TouchesOnly ws state next marked = (n : ℕ) → is_target ws n ≡ false →
    (slice_get next n ≡ slice_get state n) × (slice_get marked n ≡ slice_get (unmarked state) n)
