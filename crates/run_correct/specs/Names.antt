-- The instances of a program by their names, as traces write them and schedules name them.
use Rattle.std.specs.Prelude.{ℕ, List, [], ◌++◌, map, Bool, ◌&&◌, Option, slice_get}
use Rattle.std.specs.Option.{option_map_or}
use Rattle.std.specs.List.{position_from}
use Rattle.std.specs.Ordering.{int_eq}
use Rattle.std.specs.Str.{bytes_eq}
use Rattle.std.specs.Cmp.Lexicographic.{pointwise}
use Rattle.unity_syntax.specs.declared.term.Inst.{Inst}
use Rattle.meaning_documents.specs.Value.{end_value}
use Rattle.meaning_documents.specs.Instances.{Instance, outermost_first}
use Rattle.meaning_documents.specs.Programs.{Composed}
use Rattle.names_rules.specs.Declarations.{some_of}
use Rattle.schedule_replay.specs.Lines.{indices_text}

-- an instance's name: its label, and the numbers of its bound names, as in `pass[2]` or `move[0,1]`
abbrev pub instance_text : Instance → List ℕ
instance_text i = i.label ++ indices_text (outermost_first i.bindings)

-- the name of a chosen instance
abbrev pub chosen_text : Composed → ℕ → List ℕ
chosen_text c choice = option_map_or instance_text (slice_get c.instances choice) []

-- a choice of a schedule has an instance's label, and the numbers of its bound names
abbrev pub chooses_instance : Inst → Instance → Bool
chooses_instance choice i = bytes_eq i.label choice.label.text
    && pointwise int_eq (outermost_first i.bindings) (map (end_value []) (some_of choice.indices))

-- the place, in a program's instances, of the one that a choice names
abbrev pub place_of : Composed → Inst → Option ℕ
place_of c choice = position_from (chooses_instance choice) 0 c.instances
