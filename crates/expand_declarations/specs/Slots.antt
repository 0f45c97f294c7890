-- The slots of a document's variables, in the order of declaration.
use Rattle.std.specs.Prelude.{◌≡◌, ℕ, ◌+◌, ◌≤◌, ◌<◌, ℤ, nat_lt, List, [], ◌∷◌, ◌++◌, map, length, cond, Bool, true}
use Rattle.std.specs.Prelude.{false, Option, Some, None, All, take, ⊤}
use Rattle.std.specs.Int.RustNames.{unsigned_abs}
use Rattle.std.specs.Map.{lookup}
use Rattle.std.specs.List.{list_any, flat_map}
use Rattle.std.specs.Str.{bytes_eq}
use Rattle.unity_syntax.specs.declared.name.Range.{Range as TextRange}
use Rattle.unity_syntax.specs.declared.declaration.Plain.{Plain}
use Rattle.unity_syntax.specs.declared.declaration.Var.{Var}
use Rattle.unity_syntax.specs.declared.document.Part.{Part}
use Rattle.expand_expressions.specs.from_meaning_documents.Names.{Variable}
use Rattle.expand_expressions.specs.from_meaning_documents.Value.{range_ends}
use Rattle.meaning_executions.specs.Counting.{count_up}
use Rattle.meaning_executions.specs.Counting.{range_size}
use Rattle.expand_expressions.specs.from_meaning_documents.Setting.{element_type, type_indices, plain_range, slot_count}
use Rattle.expand_expressions.specs.from_meaning_documents.Setting.{with_declaration}
use Rattle.expand_expressions.specs.from_meaning_documents.Setting.{with_declarations, declarations, setting_of}
use Rattle.expand_expressions.specs.from_meaning_documents.Setting.{programs_among}
use Rattle.core_terms.specs.declared.programs.Print.{Print}
use Rattle.core_terms.specs.declared.programs.CSlot.{CSlot}
use Rattle.names_rules.specs.Scope.{entries}
use Rattle.expand_expressions.specs.declared.places.VariableSlots.{VariableSlots}
use Rattle.expand_expressions.specs.Places.{HasSlots, variables_of}
use Rattle.expand_declarations.specs.declared.layout.Layout.{Layout}
use Rattle.expand_declarations.specs.declared.layout.Laying.{Laying}
use Rattle.expand_declarations.specs.Texts.{Texts}
use Rattle.expand_declarations.specs.WordNumbers.{word_number}
use Rattle.expand_declarations.specs.Numbers.{core_range}

-- the ends of a range that names nothing
abbrev pub fixed_ends : TextRange → ℤ × ℤ
fixed_ends range = range_ends [] range

-- the indices of a variable; one that is no array has one slot without an index
abbrev pub index_values : Option (ℤ × ℤ) → List (Option ℤ)
index_values None = None ∷ []
index_values (Some ends) = map (λ z. Some z) (count_up ends.0 (range_size ends))

-- how the numbers of a type are written
abbrev pub print_of : Texts → Plain → Print
print_of words (Plain.Boolean at) = Print.Truth
print_of words (Plain.Range at range) = Print.Number
print_of words (Plain.Words at first rest) =
    Print.Words (map (λ w. word_number words w.text) (first ∷ rest))

-- the slot of a variable at an index
abbrev pub slot_at : Texts → Var → Option ℤ → CSlot
slot_at words v index = record {
  name = word_number words v.name.text;
  index = index;
  range = core_range (plain_range (element_type v.kind));
  print = print_of words (element_type v.kind);
}

-- the slots of a variable, in the order of its indices
abbrev pub slots_of : Texts → Var → List CSlot
slots_of words v = map (slot_at words v) (index_values (type_indices v.kind))

-- the slots of so many elements of an array, from an index on
abbrev pub element_slots : Texts → Var → ℤ → ℕ → List CSlot
element_slots words v low count = map (slot_at words v) (map (λ z. Some z) (count_up low count))

-- whether a name is that of one of these variables
abbrev pub is_known : List Variable → List ℕ → Bool
is_known vs name = list_any (λ known. bytes_eq known.name name) vs

-- the slots of declarations after these variables; a name that is declared again has its slots already
abbrev pub new_slots : Texts → List Variable → List Var → List CSlot
new_slots words vs [] = []
new_slots words vs (v ∷ rest) =
    cond (is_known vs v.name.text) [] (slots_of words v) ++ new_slots words (with_declaration vs v) rest

-- what a part of a document declares; a proof declares no variables
abbrev pub part_declarations : Part → List Var
part_declarations (Part.Program at program) = declarations program
part_declarations (Part.Proof at proof) = []

abbrev pub declared_by : List Part → List Var
declared_by parts = flat_map part_declarations parts

-- the slots of a document
abbrev pub document_slots : Texts → List Part → List CSlot
document_slots words parts = new_slots words [] (declared_by parts)

-- how many slots a document may have
abbrev pub most_slots : ℕ
most_slots = 4096

-- the place of the first part, from this place on, by whose declarations there are more slots than are allowed
abbrev pub past_from : ℕ → List Variable → List Part → Option ℕ
past_from place vs [] = None
past_from place vs (p ∷ rest) = cond (nat_lt most_slots (slot_count (with_declarations vs (part_declarations p))))
    (Some place) (past_from (place + 1) (with_declarations vs (part_declarations p)) rest)

abbrev pub past_part : List Part → Option ℕ
past_part parts = past_from 0 [] parts

-- the layout, as the code keeps it

abbrev pub variables_in : Layout → List Variable
variables_in l = variables_of (entries l.variables)

-- there are as many slots as the variables have, and no more than are allowed
pub record IsCounted (l : Layout) : Type 0 where
  pub same : length l.slots ≡ slot_count (variables_in l)
  pub few : length l.slots ≤ most_slots

-- declarations that were laid out after others
pub record Laid (words : Texts) (old new : Layout) (ds : List Var) : Type 0 where
  pub variables : variables_in new ≡ with_declarations (variables_in old) ds
  pub slots : new.slots ≡ old.slots ++ new_slots words (variables_in old) ds
  pub counted : IsCounted new

-- whether declarations were laid out; if not, they need more slots than are allowed
abbrev pub Lays : Texts → Bool → Layout → Layout → List Var → Type 0
Lays words true old new ds = Laid words old new ds
Lays words false old new ds = most_slots < slot_count (with_declarations (variables_in old) ds)

-- the layout of parts that need no more slots than are allowed, or the first part by which there are more
abbrev pub LaysParts : Texts → Option ℕ → Layout → Layout → List Part → Type 0
LaysParts words None old new parts =
    Laid words old new (declared_by parts) × (past_from 0 (variables_in old) parts ≡ None)
LaysParts words (Some place) old new parts = past_from 0 (variables_in old) parts ≡ Some place

-- the ends of an array's indices are not too large
abbrev pub AreNearEnds : Option (ℤ × ℤ) → Type 0
AreNearEnds None = ⊤
AreNearEnds (Some ends) = (unsigned_abs ends.0 ≤ 1000000000) × (unsigned_abs ends.1 ≤ 1000000000)

abbrev pub HasNearIndices : Var → Type 0
HasNearIndices v = AreNearEnds (type_indices v.kind)

-- the ends of all indices that parts declare are not too large
pub record DeclaredNear (parts : List Part) : Type 0 where
  pub each : All HasNearIndices (declared_by parts)

-- each variable that a name finds has slots, all with numbers below 2^32
pub record HaveSlots (variables : List (List ℕ × VariableSlots)) : Type 0 where
  pub each : (name : List ℕ) (v : VariableSlots) → lookup (bytes_eq name) variables ≡ Some v → HasSlots v

-- the layout of all parts, which need no more slots than are allowed
pub record IsWholeLayout (words : Texts) (l : Layout) (parts : List Part) : Type 0 where
  pub variables : variables_of (entries l.variables) ≡ with_declarations [] (declared_by parts)
  pub setting : variables_of (entries l.variables) ≡ (setting_of (programs_among parts)).variables
  pub have : HaveSlots (entries l.variables)
  pub slots : l.slots ≡ document_slots words parts
  pub few : length l.slots ≤ most_slots
  pub past : past_part parts ≡ None

abbrev pub IsLaying : Texts → Laying → List Part → Type 0
IsLaying words (Laying.Whole l) parts = IsWholeLayout words l parts
IsLaying words (Laying.Past place) parts = past_part parts ≡ Some place

-- the parts before the one by which there are too many slots need no more than are allowed
pub record FewBefore (place : ℕ) (parts : List Part) : Type 0 where
  pub within : place < length parts
  pub few : past_part (take place parts) ≡ None

abbrev pub PartsBeforeAreFew : Type 0
PartsBeforeAreFew = (place : ℕ) (parts : List Part) → past_part parts ≡ Some place → FewBefore place parts

-- where the ends of all parts are not too large, those of the first ones are not
abbrev pub PartsBeforeAreNear : Type 0
PartsBeforeAreNear = (place : ℕ) (parts : List Part) → DeclaredNear parts → DeclaredNear (take place parts)
