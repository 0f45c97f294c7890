-- The lines of a trace.
use Rattle.std.specs.Prelude.{ℕ, ℤ, pos, negsuc, List, [], ◌∷◌, ◌++◌, map, cond, Option, Some, None, unwrap_or}
use Rattle.std.specs.Prelude.{slice_get, codes, decimal}
use Rattle.std.specs.Option.{option_map_or}
use Rattle.std.specs.List.{flat_map, join_with_byte}
use Rattle.std.specs.Fmt.{signed_decimal}
use Rattle.meaning_states.specs.State.{State, int_eq}
use Rattle.core_terms.specs.declared.programs.Print.{Print}
use Rattle.core_terms.specs.declared.programs.CSlot.{CSlot}
use Rattle.core_terms.specs.declared.programs.CStmt.{CStmt}
use Rattle.core_terms.specs.declared.programs.CProgram.{CProgram}
use Rattle.core_terms.specs.declared.documents.CDocument.{CDocument}
use Rattle.core_terms.specs.Values.{number_at}
use Rattle.schedule_replay.specs.declared.heading.Heading.{Heading}

-- the word of this number
abbrev pub word_text : List (List ℕ) → ℕ → List ℕ
word_text words n = unwrap_or (slice_get words n) []

-- numbers in square brackets, as in `[2]` or `[0,1]`; none without brackets
abbrev pub indices_text : List ℤ → List ℕ
indices_text [] = []
indices_text (z ∷ rest) = codes "[" ++ join_with_byte 44 (map signed_decimal (z ∷ rest)) ++ codes "]"

-- an instance's name: its label, and the values of its bound names
abbrev pub instance_text : List (List ℕ) → CStmt → List ℕ
instance_text words s = word_text words s.label ++ indices_text s.indices

-- the word for a number of an enumeration
abbrev pub place_text : List (List ℕ) → List ℕ → ℤ → List ℕ
place_text words places (pos n) = option_map_or (word_text words) (slice_get places n) []
place_text words places (negsuc n) = []

-- how a slot's number is written: as a truth, as a word, or as a number
abbrev pub value_text : List (List ℕ) → Print → ℤ → List ℕ
value_text words Print.Number z = signed_decimal z
value_text words Print.Truth z = cond (int_eq z (pos 0)) (codes "false") (codes "true")
value_text words (Print.Words places) z = place_text words places z

-- an array's slot has its index in square brackets
abbrev pub index_text : Option ℤ → List ℕ
index_text None = []
index_text (Some z) = codes "[" ++ signed_decimal z ++ codes "]"

-- ` name=value` or ` name[index]=value`
abbrev pub known_slot_text : List (List ℕ) → CSlot → ℤ → List ℕ
known_slot_text words s z =
    codes " " ++ word_text words s.name ++ index_text s.index ++ codes "=" ++ value_text words s.print z

abbrev pub slot_text : CDocument → State → ℕ → List ℕ
slot_text d state n = option_map_or (λ s. known_slot_text d.words s (number_at state n)) (slice_get d.slots n) []

-- the name of the chosen instance
abbrev pub chosen_text : CDocument → CProgram → ℕ → List ℕ
chosen_text d p choice = option_map_or (instance_text d.words) (slice_get p.statements choice) []

-- a blank and the name of the chosen instance, where there is a choice
abbrev pub choice_text : CDocument → CProgram → Option ℕ → List ℕ
choice_text d p None = []
choice_text d p (Some choice) = codes " " ++ chosen_text d p choice

-- a state's line: its number, for later states the instance that was chosen, and each slot that the program shows
abbrev pub state_line : CDocument → CProgram → ℕ → Option ℕ → State → List ℕ
state_line d p number choice state =
    decimal number ++ choice_text d p choice ++ flat_map (slot_text d state) p.shown ++ codes "\n"

-- the line of a step that is undefined
abbrev pub undefined_line : CDocument → CProgram → ℕ → ℕ → List ℕ
undefined_line d p number choice =
    codes "undefined " ++ decimal number ++ codes " " ++ chosen_text d p choice ++ codes "\n"

-- the last line
abbrev pub rounds_line : ℕ → List ℕ
rounds_line rounds = codes "rounds " ++ decimal rounds ++ codes "\n"

-- the line of a fixed point: after how many steps it was reached
abbrev pub fixed_line : ℕ → List ℕ
fixed_line number = codes "fixed " ++ decimal number ++ codes "\n"

-- the first line: the command and the program's name
abbrev pub heading_line : CDocument → CProgram → Heading → List ℕ
heading_line d p Heading.Run = codes "run " ++ word_text d.words p.name ++ codes "\n"
heading_line d p Heading.Replay = codes "replay " ++ word_text d.words p.name ++ codes "\n"
