-- Entries put into a state, from the last to the first, so that of several for one slot the first stands.
use Rattle.std.specs.Prelude.{ℕ, ℤ, List, [], ◌∷◌, map}
use Rattle.meaning_states.specs.State.{State}
use Rattle.meaning_states.specs.Step.{put}
use Rattle.core_terms.specs.declared.programs.CSlot.{CSlot}

abbrev pub placed : State → List (ℕ × ℤ) → State
placed state [] = state
placed state (e ∷ rest) = put (placed state rest) e.0 e.1

-- the lowest number of each slot
abbrev pub lowest : List CSlot → State
lowest slots = map (λ s. s.range.lo) slots
