-- A statement that swaps two slots.
use Rattle.std.specs.Prelude.{◌≡◌, ℕ, pos, List, [], ◌∷◌, Some, None, IsTrue}
use Rattle.core_terms.specs.declared.trees.CTerm.TheVariants.{Slot}
use Rattle.core_terms.specs.declared.trees.CForm.TheVariants.{Top}
use Rattle.core_terms.specs.declared.programs.Print.{Print}
use Rattle.core_terms.specs.declared.programs.CSlot.{CSlot}
use Rattle.core_terms.specs.declared.programs.CWrite.{CWrite}
use Rattle.core_terms.specs.declared.programs.CStmt.{CStmt}
use Rattle.meaning_states.specs.State.{State, is_state}
use Rattle.core_terms.specs.Conditions.{StatementFits}
use Rattle.core_terms.specs.Steps.{slot_ranges, core_step}

-- a slot of the numbers 0 to 9
abbrev pub digit : CSlot
digit = record { name = 0; index = None; range = record { lo = pos 0; hi = pos 9 }; print = Print.Number }

abbrev pub two_slots : List CSlot
two_slots = digit ∷ digit ∷ []

-- a slot gets the number of another
abbrev pub copying : ℕ → ℕ → CWrite
copying slot from = record { slot = slot; when = Top; value = Slot from }

-- each slot gets the number of the other
abbrev pub swap : CStmt
swap = record { label = 0; indices = []; outside = []; writes = copying 0 1 ∷ copying 1 0 ∷ [] }

abbrev pub before : State
before = pos 1 ∷ pos 2 ∷ []

-- a state, and a statement that fits and leads to another state
pub record HasStep : Type 0 where
  pub state : IsTrue (is_state (slot_ranges two_slots) before)
  pub fits : StatementFits two_slots swap
  pub step : core_step two_slots swap before ≡ Some (pos 2 ∷ pos 1 ∷ [])
