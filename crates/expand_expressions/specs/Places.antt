-- Where the code stands in a document, as a scope.
use Rattle.std.specs.Prelude.{◌≡◌, ℕ, ◌+◌, ◌^◌, ◌≤◌, ℤ, pos, List, [], ◌∷◌, map, cond, Option, Some, None, option_map}
use Rattle.std.specs.Int.RustNames.{unsigned_abs}
use Rattle.std.specs.Map.{lookup}
use Rattle.std.specs.Str.{bytes_eq}
use Rattle.core_terms.specs.declared.trees.Range.{Range}
use Rattle.expand_rules.specs.from_meaning_documents.Names.{Variable}
use Rattle.expand_rules.specs.from_meaning_documents.Setting.{slots_for}
use Rattle.names_rules.specs.Scope.{entries}
use Rattle.expand_rules.specs.declared.cores.Bound.{Bound}
use Rattle.expand_rules.specs.declared.cores.Formed.{Formed}
use Rattle.expand_rules.specs.Forming.{Scope, number_in, number_constant, as_truth, varying, variable_formed}
use Rattle.expand_rules.specs.Forming.{formed_or_zero, no_element, element_by}
use Rattle.expand_rules.specs.Measures.{ends_weight}
use Rattle.core_terms.specs.declared.trees.CTerm.TheVariants.{Slot}
use Rattle.std.specs.Option.{option_or}
use Rattle.expand_rules.specs.from_meaning_documents.Names.{variable_named}
use Rattle.expand_expressions.specs.declared.places.VariableSlots.{VariableSlots}
use Rattle.expand_expressions.specs.declared.places.Known.{Known}
use Rattle.expand_expressions.specs.declared.places.Env.{Env, fold-Env}
use Rattle.expand_expressions.specs.declared.places.Env.TheOpen.{Env-F}
use Rattle.expand_expressions.specs.Sound.{IsSound}

abbrev pub bound_layer : Env-F (List (List ℕ × Bound)) → List (List ℕ × Bound)
bound_layer Env-F.Empty = []
bound_layer (Env-F.Params table) = entries table.now
bound_layer (Env-F.Inside name bound outer) = (name.now.text, bound) ∷ outer.now

-- what is bound, the innermost first
abbrev pub bound_names : Env → List (List ℕ × Bound)
bound_names = fold-Env (List (List ℕ × Bound)) bound_layer

abbrev pub ends_of : Range → ℤ × ℤ
ends_of r = (r.lo, r.hi)

-- a variable of the table
abbrev pub variable_of : List ℕ → VariableSlots → Variable
variable_of name v = record {
  name = name;
  indices = option_map ends_of v.indices;
  range = ends_of v.range;
  is_truth = v.is_truth;
  first = v.first;
}

abbrev pub variables_of : List (List ℕ × VariableSlots) → List Variable
variables_of es = map (λ (e : List ℕ × VariableSlots). variable_of e.0 e.1) es

-- the scope that the code stands in
abbrev pub scope : Known → Env → Scope
scope known env = record {
  variables = variables_of (entries known.variables.now);
  words = entries known.values.now;
  always = entries known.always.now;
  bound = bound_names env;
}

-- the ends of a range are not too large
abbrev pub IsNear : Range → Type 0
IsNear r = (unsigned_abs r.lo ≤ 2 ^ 61) × (unsigned_abs r.hi ≤ 2 ^ 61)

abbrev pub AreNear : Option Range → Type 0
AreNear None = Unit {0}
AreNear (Some r) = IsNear r

-- the numbers of a variable's slots are below 2^32
pub record HasSlots (v : VariableSlots) : Type 0 where
  pub slots : v.first + slots_for (option_map ends_of v.indices) ≤ 2 ^ 32
  pub indices : AreNear v.indices

-- what is known is in order: always names have sound cores, and slots have numbers below 2^32
pub record IsReady (known : Known) : Type 0 where
  pub always : (name : List ℕ) (a : Formed) → lookup (bytes_eq name) (entries known.always.now) ≡ Some a → IsSound a
  pub slots : (name : List ℕ) (v : VariableSlots) → lookup (bytes_eq name) (entries known.variables.now) ≡ Some v →
      HasSlots v

-- the number of what a name stands for; there is none outside all bound names
abbrev pub bound_number : Option Bound → ℤ
bound_number None = pos 0
bound_number (Some b) = number_in b

-- a variable that is no array
abbrev pub no_indices : VariableSlots → Option Range → Option VariableSlots
no_indices v None = Some v
no_indices v (Some r) = None

abbrev pub plain_slots : Option VariableSlots → Option VariableSlots
plain_slots None = None
plain_slots (Some v) = no_indices v v.indices

-- what is read of a variable that is no array
abbrev pub slot_formed : VariableSlots → Formed
slot_formed v = cond v.is_truth (as_truth (varying (Slot v.first) (ends_weight (ends_of v.range))))
    (varying (Slot v.first) (ends_weight (ends_of v.range)))

-- what a word stands for that is not bound
abbrev pub declared_word : Known → List ℕ → Formed
declared_word known name = formed_or_zero (option_or (lookup (bytes_eq name) (entries known.always.now))
    (option_or (variable_formed (variable_named name (variables_of (entries known.variables.now))))
    (option_map number_constant (lookup (bytes_eq name) (entries known.values.now)))))

-- what is read at an index of an array, by its slots
abbrev pub element_slots : Option VariableSlots → Formed → Formed
element_slots None index = no_element index
element_slots (Some v) index = element_by (variable_of [] v) index (option_map ends_of v.indices)
