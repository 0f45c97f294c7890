-- What names mean where an expression is read.
use Rattle.std.specs.Prelude.{ℕ, ◌+◌, ℤ, pos, ◌-ℤ◌, List, [], ◌∷◌, cond, Bool, Option, Some, None}
use Rattle.std.specs.Prelude.{slice_index_or}
use Rattle.std.specs.Str.{bytes_eq}
use Rattle.meaning_executions.specs.from_meaning_states.State.{State, in_range}
use Rattle.meaning_executions.specs.Counting.{natural}

-- numbers by name; of two with one name, the first counts
abbrev pub Bindings : Type 0
Bindings = List (List ℕ × ℤ)

-- a declared variable: its name, its indices where it is an array, the range of its numbers, whether these are truths,
-- and its first slot. They are truths where the declared type is `boolean` or an array of `boolean`; then 0 is false
-- and 1 is true. The numbers of `0..1` are none.
pub record Variable : Type 0 where
  pub name : List ℕ
  pub indices : Option (ℤ × ℤ)
  pub range : ℤ × ℤ
  pub is_truth : Bool
  pub first : ℕ

-- where an expression is read: the document's variables and enumeration words, a state, the values of always names
-- there, and the numbers of bound names and parameters, the innermost first
pub record Sight : Type 0 where
  pub variables : List Variable
  pub words : Bindings
  pub state : State
  pub always : Bindings
  pub bindings : Bindings

-- the same place, with one more bound name inside
abbrev pub with_name : Sight → List ℕ → ℤ → Sight
with_name s name z = record s { bindings = (name, z) ∷ s.bindings }

-- the number that a name is bound to
abbrev pub number_of : List ℕ → Bindings → Option ℤ
number_of name [] = None
number_of name (binding ∷ rest) = cond (bytes_eq name binding.0) (Some binding.1) (number_of name rest)

-- the first of two meanings that there is
abbrev pub or_else : Option ℤ → Option ℤ → Option ℤ
or_else None other = other
or_else (Some z) other = Some z

-- the number of a meaning, 0 where there is none
abbrev pub or_zero : Option ℤ → ℤ
or_zero None = pos 0
or_zero (Some z) = z

-- the variable of a name
abbrev pub variable_named : List ℕ → List Variable → Option Variable
variable_named name [] = None
variable_named name (v ∷ vs) = cond (bytes_eq name v.name) (Some v) (variable_named name vs)

-- the slot at an index of an array, or none outside its indices; without an index, a plain variable's slot
abbrev pub slot_at : ℕ → Option (ℤ × ℤ) → Option ℤ → Option ℕ
slot_at first None None = Some first
slot_at first None (Some index) = None
slot_at first (Some r) None = None
slot_at first (Some r) (Some index) =
    cond (in_range (Some r) index) (Some (first + natural (index -ℤ r.0))) None

-- the slot that a word with or without an index names
abbrev pub slot_named : List ℕ → Option ℤ → List Variable → Option ℕ
slot_named name index [] = None
slot_named name index (v ∷ vs) =
    cond (bytes_eq name v.name) (slot_at v.first v.indices index) (slot_named name index vs)

-- the number that the state gives a slot
abbrev pub slot_number : State → Option ℕ → Option ℤ
slot_number state None = None
slot_number state (Some n) = Some (slice_index_or state n (pos 0))

-- what a word means: a bound name or a parameter, an always name, a variable, or an enumeration word
abbrev pub word_value : Sight → List ℕ → ℤ
word_value s name = or_zero (or_else (number_of name s.bindings) (or_else (number_of name s.always)
    (or_else (slot_number s.state (slot_named name None s.variables)) (number_of name s.words))))

-- what an array has at an index: the slot's number, or 0 outside its indices
abbrev pub element_value : Sight → List ℕ → ℤ → ℤ
element_value s name index = or_zero (slot_number s.state (slot_named name (Some index) s.variables))
