-- Tables of moves, as core programs.
use Rattle.std.specs.Prelude.{◌≡◌, ℕ, ◌≤◌, ◌^◌, List, Some, slice_get}
use Rattle.core_terms.specs.declared.programs.CSlot.{CSlot}
use Rattle.core_terms.specs.declared.programs.CStmt.{CStmt}
use Rattle.core_terms.specs.Weights.{slot_weight}

-- no slot weighs much
abbrev pub SlotsAreLight : List CSlot → Type 0
SlotsAreLight slots = (n : ℕ) → slot_weight slots n ≤ 2 ^ 32

-- each statement's label is its place
abbrev pub AreNumbered : List CStmt → Type 0
AreNumbered statements = (place : ℕ) (s : CStmt) → slice_get statements place ≡ Some s → s.label ≡ place
