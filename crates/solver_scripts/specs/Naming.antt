-- The symbols of a script: what slots and parameters are called.
use Rattle.std.specs.Prelude.{ℕ, Bool, true, false, List, [], ◌++◌, slice_get}
use Rattle.std.specs.Option.{option_map_or}
use Rattle.core_terms.specs.declared.programs.CSlot.{CSlot}
use Rattle.schedule_replay.specs.Lines.{word_text, index_text}
use Rattle.solver_scripts.specs.declared.names.Names.{Names}

-- a slot's name, with its index in square brackets, where it has one, as in `x` and `a[3]`
abbrev pub slot_symbol : List (List ℕ) → CSlot → List ℕ
slot_symbol words s = word_text words s.name ++ index_text s.index

-- what the slots (false) and the parameters (true) are called, by number
abbrev pub Naming : Type 0
Naming = Bool → ℕ → List ℕ

-- slots by their names, and parameters by the words of these numbers
abbrev pub naming : List (List ℕ) → List CSlot → List ℕ → Naming
naming words slots params false n = option_map_or (slot_symbol words) (slice_get slots n) []
naming words slots params true n = option_map_or (word_text words) (slice_get params n) []

-- the same, as the code has it
abbrev pub symbols : Names → Naming
symbols names = naming names.words.now names.slots.now names.params.now
