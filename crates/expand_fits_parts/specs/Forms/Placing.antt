-- The slots of a document's variables: they are there, and have their variables' ranges; and those of a
-- program's variables are shown.
use Rattle.std.specs.Prelude.{◌≡◌, ℕ, List, [], length, true, Some}
use Rattle.std.specs.List.{list_any}
use Rattle.std.specs.Str.{bytes_eq}
use Rattle.unity_syntax.specs.declared.declaration.Var.{Var}
use Rattle.meaning_documents.specs.Names.{Variable}
use Rattle.meaning_documents.specs.Setting.{with_declarations}
use Rattle.meaning_documents.specs.Names.{variable_named}
use Rattle.core_terms.specs.Weights.{slot_weight}
use Rattle.core_terms.specs.Conditions.{is_below, is_shown}
use Rattle.expand_correct.specs.Values.WeightLaws.{SlotsWithin}
use Rattle.expand_declarations.specs.Texts.{Texts}
use Rattle.expand_declarations.specs.Slots.{new_slots}
use Rattle.expand_declarations.specs.Shown.{shown_slots}
use Rattle.expand_fits_parts.specs.Forms.Naming.{SlotsPass, WordTest}

-- whether one of these declarations has this name
abbrev pub declares : List Var → WordTest
declares ds name = list_any (λ d. bytes_eq name d.name.text) ds

abbrev pub SlotsExist : Type 0
SlotsExist = (words : Texts) (ds : List Var) (name : List ℕ) (v : Variable) →
    variable_named name (with_declarations [] ds) ≡ Some v →
    SlotsPass (is_below (length (new_slots words [] ds))) v v.indices

abbrev pub SlotsWeigh : Type 0
SlotsWeigh = (words : Texts) (ds : List Var) (name : List ℕ) (v : Variable) →
    variable_named name (with_declarations [] ds) ≡ Some v →
    SlotsWithin (slot_weight (new_slots words [] ds)) v v.indices

abbrev pub SlotsShown : Type 0
SlotsShown = (words : Texts) (ds own : List Var) (name : List ℕ) (v : Variable) →
    variable_named name (with_declarations [] ds) ≡ Some v → declares own name ≡ true →
    SlotsPass (is_shown (shown_slots words own (new_slots words [] ds))) v v.indices
