-- What a document fixes for all its programs: variables and their slots, enumeration words, and always names.
use Rattle.std.specs.Prelude.{ℕ, suc, ℤ, pos, List, [], ◌∷◌, ◌++◌, Bool, true, false, cond, Option, Some, None, length}
use Rattle.std.specs.Prelude.{sum, map, replicate}
use Rattle.std.specs.List.{flat_map, list_any}
use Rattle.std.specs.Str.{bytes_eq}
use Rattle.unity_syntax.specs.declared.name.Name.{Name}
use Rattle.unity_syntax.specs.declared.expression.Expr.{Expr}
use Rattle.unity_syntax.specs.declared.declaration.Plain.{Plain}
use Rattle.unity_syntax.specs.declared.declaration.VarType.{VarType}
use Rattle.unity_syntax.specs.declared.declaration.Var.{Var}
use Rattle.unity_syntax.specs.declared.declaration.Def.{Def}
use Rattle.unity_syntax.specs.declared.program.Program.{Program}
use Rattle.unity_syntax.specs.declared.document.Part.{Part}
use Rattle.meaning_executions.specs.from_meaning_states.State.{State, Ranges}
use Rattle.meaning_documents.specs.Names.{Bindings, Variable, Sight}
use Rattle.meaning_documents.specs.Value.{value, holds, range_ends}
use Rattle.meaning_executions.specs.Counting.{range_size}

-- the items of a list that may be absent
abbrev pub items_of : {T : Type 0} → Option (List T) → List T
items_of None = []
items_of (Some list) = list

-- the programs among a document's parts, in order
abbrev pub programs_among : List Part → List Program
programs_among [] = []
programs_among (Part.Program at program ∷ rest) = program ∷ programs_among rest
programs_among (Part.Proof at proof ∷ rest) = programs_among rest

-- the variables that a program declares; a union declares none
abbrev pub declarations : Program → List Var
declarations (Program.Union at name left right) = []
declarations (Program.Plain at name declare always initially start items) = items_of declare

-- the always names that a program defines
abbrev pub definitions : Program → List Def
definitions (Program.Union at name left right) = []
definitions (Program.Plain at name declare always initially start items) = items_of always

-- the range of a type's numbers: truths are 0 and 1, the words of an enumeration count from 0
abbrev pub plain_range : Plain → ℤ × ℤ
plain_range (Plain.Boolean at) = (pos 0, pos 1)
plain_range (Plain.Range at range) = range_ends [] range
plain_range (Plain.Words at first rest) = (pos 0, pos (length rest))

-- whether a type's numbers are truths
abbrev pub is_boolean : Plain → Bool
is_boolean (Plain.Boolean at) = true
is_boolean (Plain.Range at range) = false
is_boolean (Plain.Words at first rest) = false

-- words with their places, from a place on
abbrev pub with_places : ℕ → List Name → Bindings
with_places place [] = []
with_places place (word ∷ rest) = (word.text, pos place) ∷ with_places (suc place) rest

-- the words of an enumeration, each with its place from 0
abbrev pub plain_words : Plain → Bindings
plain_words (Plain.Boolean at) = []
plain_words (Plain.Range at range) = []
plain_words (Plain.Words at first rest) = with_places 0 (first ∷ rest)

-- the type of a variable, or of an array's elements
abbrev pub element_type : VarType → Plain
element_type (VarType.Plain at plain) = plain
element_type (VarType.Array at range plain) = plain

-- the lowest and the highest index of an array
abbrev pub type_indices : VarType → Option (ℤ × ℤ)
type_indices (VarType.Plain at plain) = None
type_indices (VarType.Array at range plain) = Some (range_ends [] range)

-- a plain variable has one slot, an array one for each index
abbrev pub slots_for : Option (ℤ × ℤ) → ℕ
slots_for None = 1
slots_for (Some indices) = range_size indices

-- how many slots variables have together
abbrev pub slot_count : List Variable → ℕ
slot_count vs = sum (map (λ v. slots_for v.indices) vs)

-- the range of each slot of variables, in order
abbrev pub slot_ranges : List Variable → Ranges
slot_ranges vs = flat_map (λ v. replicate (slots_for v.indices) v.range) vs

-- a declared variable whose slots begin at this one
abbrev pub variable_from : ℕ → Var → Variable
variable_from first v = record {
  name = v.name.text;
  indices = type_indices v.kind;
  range = plain_range (element_type v.kind);
  is_truth = is_boolean (element_type v.kind);
  first = first;
}

-- one more declaration, whose slots follow those before it; a name that is declared again is the same variable
abbrev pub with_declaration : List Variable → Var → List Variable
with_declaration vs v =
    cond (list_any (λ known. bytes_eq known.name v.name.text) vs) vs (vs ++ (variable_from (slot_count vs) v ∷ []))

-- variables, and those of further declarations in order
abbrev pub with_declarations : List Variable → List Var → List Variable
with_declarations vs [] = vs
with_declarations vs (v ∷ rest) = with_declarations (with_declaration vs v) rest

-- what a document fixes for all its programs
pub record Setting : Type 0 where
  pub variables : List Variable
  pub words : Bindings
  pub always : List Def

-- what programs declare together, in order of first declaration
abbrev pub setting_of : List Program → Setting
setting_of programs = record {
  variables = with_declarations [] (flat_map declarations programs);
  words = flat_map (λ v. plain_words (element_type v.kind)) (flat_map declarations programs);
  always = flat_map definitions programs;
}

-- the variables of a document's programs
abbrev pub variables_of : List Program → List Variable
variables_of programs = (setting_of programs).variables

-- the values of always names, in order: each is read with those before it
abbrev pub with_always : Sight → List Def → Sight
with_always s [] = s
with_always s (d ∷ rest) = with_always (record s { always = (d.name.text, value d.of s) ∷ s.always }) rest

-- a state, seen outside all bound names
abbrev pub seen_plainly : Setting → State → Sight
seen_plainly g state = with_always
    (record { variables = g.variables; words = g.words; state = state; always = []; bindings = [] }) g.always

-- a state, seen among bound names and parameters
abbrev pub seen : Setting → Bindings → State → Sight
seen g bindings state = record (seen_plainly g state) { bindings = bindings }

-- whether a formula is true at a state, for these numbers of bound names and parameters
abbrev pub is_true_at : Setting → Bindings → Expr → State → Bool
is_true_at g bindings e state = holds (value e (seen g bindings state))
