-- The values of a start section.
use Rattle.std.specs.Prelude.{ℕ, ℤ, pos, List, [], map, fold, Bool, cond, Option, option_map, unwrap_or, is_some}
use Rattle.std.specs.List.{flat_map}
use Rattle.std.specs.Map.{lookup}
use Rattle.std.specs.Str.{bytes_eq}
use Rattle.indexmap.specs.IndexMap.{insert_entry}
use Rattle.unity_syntax.specs.declared.declaration.Var.{Var}
use Rattle.unity_syntax.specs.declared.declaration.Init.{Init}
use Rattle.unity_syntax.specs.declared.declaration.InitValue.{InitValue}
use Rattle.unity_syntax.specs.declared.document.Part.{Part}
use Rattle.expand_expressions.specs.from_meaning_documents.Names.{Bindings, Variable, number_of, or_zero, slot_named}
use Rattle.expand_expressions.specs.from_meaning_documents.Value.{signed}
use Rattle.expand_expressions.specs.from_meaning_documents.Setting.{element_type, plain_words}
use Rattle.expand_declarations.specs.Slots.{part_declarations}

abbrev pub index_of : Option (Bool × ℕ) → Option ℤ
index_of index = option_map (λ i. signed i.0 (pos i.1)) index

-- the slot that a start value is given to; 0 where it is given to none
abbrev pub start_slot : List Variable → Init → ℕ
start_slot vs init = unwrap_or (slot_named init.name.text (index_of init.index) vs) 0

-- the number of a start value; false is 0 and true is 1
abbrev pub start_number : Bindings → InitValue → ℤ
start_number words (InitValue.Number at minus number) = signed minus (pos number)
start_number words (InitValue.Word at name) = or_zero (number_of name.text words)
start_number words (InitValue.True at) = pos 1
start_number words (InitValue.False at) = pos 0

abbrev pub start_entry : List Variable → Bindings → Init → ℕ × ℤ
start_entry vs words init = (start_slot vs init, start_number words init.value)

-- the slots and the numbers of a start section, in the order of the text
abbrev pub start_values : List Variable → Bindings → List Init → List (ℕ × ℤ)
start_values vs words inits = map (start_entry vs words) inits

-- the words of enumerations, each with its number
abbrev pub var_words : Var → Bindings
var_words v = plain_words (element_type v.kind)

abbrev pub part_words : Part → Bindings
part_words part = flat_map var_words (part_declarations part)

abbrev pub enumeration_words : List Part → Bindings
enumeration_words parts = flat_map part_words parts

-- a word with its number; one that is known keeps the number that it has
abbrev pub with_word : Bindings → List ℕ × ℤ → Bindings
with_word known w = cond (is_some (lookup (bytes_eq w.0) known)) known (insert_entry bytes_eq known w.0 w.1)

abbrev pub with_words : Bindings → Bindings → Bindings
with_words known ws = fold with_word known ws

-- the words of enumerations, each with the number that it has where it stands first
abbrev pub first_words : Bindings → Bindings
first_words ws = with_words [] ws
