-- The slots of a document as traces write them, by the variables that it declares.
use Rattle.std.specs.Prelude.{ℕ, ℤ, pos, negsuc, List, [], ◌∷◌, ◌++◌, map, Bool, cond, Option, slice_get, codes}
use Rattle.std.specs.Option.{option_map_or}
use Rattle.std.specs.List.{flat_map, list_any}
use Rattle.std.specs.Str.{bytes_eq}
use Rattle.std.specs.Fmt.{signed_decimal}
use Rattle.unity_syntax.specs.declared.name.Name.{Name}
use Rattle.unity_syntax.specs.declared.declaration.Plain.{Plain}
use Rattle.unity_syntax.specs.declared.declaration.Var.{Var}
use Rattle.unity_syntax.specs.declared.program.Program.{Program}
use Rattle.unity_syntax.specs.declared.document.Document.{Document}
use Rattle.meaning_states.specs.State.{State, int_eq}
use Rattle.meaning_documents.specs.Names.{Variable}
use Rattle.meaning_documents.specs.Setting.{items_of, element_type, type_indices, with_declaration, programs_among}
use Rattle.meaning_documents.specs.Programs.{name_of}
use Rattle.core_terms.specs.Values.{number_at}
use Rattle.core_terms.specs.Unions.{merged}
use Rattle.expand_declarations.specs.Slots.{index_values, is_known, declared_by}
use Rattle.expand_declarations.specs.Shown.{places_from}
use Rattle.schedule_replay.specs.Lines.{index_text}

-- slots

-- the slot of a declared variable, with its index where the variable is an array
abbrev pub SlotOfVariable : Type 0
SlotOfVariable = Var × Option ℤ

-- the slots of a variable, in the order of its indices
abbrev pub places_of : Var → List SlotOfVariable
places_of v = map (λ index. (v, index)) (index_values (type_indices v.kind))

-- the slots of declarations after these variables; a name that is declared again has its slots already
abbrev pub new_places : List Variable → List Var → List SlotOfVariable
new_places vs [] = []
new_places vs (v ∷ rest) =
    cond (is_known vs v.name.text) [] (places_of v) ++ new_places (with_declaration vs v) rest

-- the slots of a document, in the order of first declaration
abbrev pub document_places : Document → List SlotOfVariable
document_places d = new_places [] (declared_by d.parts)

-- their texts

-- the word at a place of an enumeration
abbrev pub enumerated_text : List Name → ℤ → List ℕ
enumerated_text words (pos n) = option_map_or (λ w. w.text) (slice_get words n) []
enumerated_text words (negsuc n) = []

-- how a number of a type is written: as a truth, as a word, or as a number
abbrev pub value_text : Plain → ℤ → List ℕ
value_text (Plain.Boolean at) z = cond (int_eq z (pos 0)) (codes "false") (codes "true")
value_text (Plain.Range at range) z = signed_decimal z
value_text (Plain.Words at first rest) z = enumerated_text (first ∷ rest) z

-- ` name=value` or ` name[index]=value`
abbrev pub place_text : SlotOfVariable → ℤ → List ℕ
place_text e z = codes " " ++ e.0.name.text ++ index_text e.1 ++ codes "=" ++ value_text (element_type e.0.kind) z

abbrev pub slot_text : Document → State → ℕ → List ℕ
slot_text d state n = option_map_or (λ e. place_text e (number_at state n)) (slice_get (document_places d) n) []

-- which of them a program shows

-- the slots that programs show, by the programs' names
abbrev pub Showing : Type 0
Showing = List (List ℕ × List ℕ)

-- those of the program with a name
abbrev pub shown_named : List ℕ → Showing → List ℕ
shown_named name [] = []
shown_named name (s ∷ rest) = cond (bytes_eq name s.0) s.1 (shown_named name rest)

-- the slot is one of a variable with the name of one of these
abbrev pub is_slot_among : List Var → SlotOfVariable → Bool
is_slot_among vs e = list_any (λ v. bytes_eq e.0.name.text v.name.text) vs

-- a program shows the slots of the variables that it declares, and a union those that its parts show, in slot order
abbrev pub shown_by : List SlotOfVariable → Showing → Program → List ℕ
shown_by places known (Program.Union at name left right) =
    merged (shown_named left.text known) (shown_named right.text known)
shown_by places known (Program.Plain at name declare always initially start items) =
    places_from (is_slot_among (items_of declare)) 0 places

abbrev pub with_shown : List SlotOfVariable → Showing → List Program → Showing
with_shown places known [] = known
with_shown places known (p ∷ rest) =
    with_shown places (known ++ (name_of p, shown_by places known p) ∷ []) rest

abbrev pub shown_slots : Document → List ℕ → List ℕ
shown_slots d name = shown_named name (with_shown (document_places d) [] (programs_among d.parts))

-- what a program with this name shows of a state
abbrev pub shown_text : Document → List ℕ → State → List ℕ
shown_text d name state = flat_map (slot_text d state) (shown_slots d name)
