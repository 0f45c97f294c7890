-- What the slots of a document's variables hold.
use Rattle.std.specs.Prelude.{◌≡◌, ℕ, ℤ, pos, List, true, Option, Some, slice_get, slice_index_or}
use Rattle.std.specs.Prelude.{◌⊎◌}
use Rattle.unity_syntax.specs.declared.program.Program.{Program}
use Rattle.meaning_states.specs.State.{State, is_state, in_range}
use Rattle.meaning_documents.specs.Names.{Variable, slot_named, variable_named}
use Rattle.meaning_documents.specs.Setting.{variables_of, slot_ranges}

-- a slot of a variable has the variable's range
abbrev pub SlotsAsDeclared : Type 0
SlotsAsDeclared = (programs : List Program) (name : List ℕ) (index : Option ℤ) (v : Variable) (slot : ℕ) →
    variable_named name (variables_of programs) ≡ Some v → slot_named name index (variables_of programs) ≡ Some slot →
    slice_get (slot_ranges (variables_of programs)) slot ≡ Some v.range

-- and a number of that range at each state
abbrev pub NumbersAsDeclared : Type 0
NumbersAsDeclared = (programs : List Program) (name : List ℕ) (index : Option ℤ) (v : Variable) (slot : ℕ)
    (state : State) → is_state (slot_ranges (variables_of programs)) state ≡ true →
    variable_named name (variables_of programs) ≡ Some v → slot_named name index (variables_of programs) ≡ Some slot →
    in_range (Some v.range) (slice_index_or state slot (pos 0)) ≡ true

-- the numbers of a boolean variable are 0 and 1
abbrev pub TruthsAreBits : Type 0
TruthsAreBits = (programs : List Program) (name : List ℕ) (v : Variable) →
    variable_named name (variables_of programs) ≡ Some v → v.is_truth ≡ true → v.range ≡ (pos 0, pos 1)

-- so a slot of it has one of these at each state
abbrev pub TruthSlotsAreBits : Type 0
TruthSlotsAreBits = (programs : List Program) (name : List ℕ) (index : Option ℤ) (v : Variable) (slot : ℕ)
    (state : State) → is_state (slot_ranges (variables_of programs)) state ≡ true →
    variable_named name (variables_of programs) ≡ Some v → slot_named name index (variables_of programs) ≡ Some slot →
    v.is_truth ≡ true →
    (slice_index_or state slot (pos 0) ≡ pos 0) ⊎ (slice_index_or state slot (pos 0) ≡ pos 1)
