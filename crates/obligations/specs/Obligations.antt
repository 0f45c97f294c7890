-- When an obligation is one that `make` can give.
use Rattle.std.specs.Prelude.{◌≡◌, ℕ, ◌+◌, ◌<◌, ◌≤◌, ◌^◌, nat_le, nat_lt, Bool, true, false, cond, ◌&&◌, ◌||◌, List}
use Rattle.std.specs.Prelude.{[]}
use Rattle.std.specs.Prelude.{◌∷◌, length, slice_get}
use Rattle.std.specs.List.{list_all}
use Rattle.std.specs.Option.{option_map}
use Rattle.std.specs.Int.RustNames.{int_le, unsigned_abs}
use Rattle.core_terms.specs.declared.trees.Range.{Range}
use Rattle.core_terms.specs.Sizes.{form_nodes}
use Rattle.core_terms.specs.Weights.{form_weight, range_weight}
use Rattle.core_terms.specs.declared.trees.CForm.{CForm}
use Rattle.obligations.specs.declared.branches.Variable.{Variable}
use Rattle.obligations.specs.declared.branches.Obligation.{Obligation}
use Rattle.obligations.specs.LinearForms.{place_of}
use Rattle.obligations.specs.Scopes.{next_param, scope, with_next}
use Rattle.obligations.specs.Load.{form_load, need, width}
use Rattle.obligations.specs.Plain.{height_of, ranges_of}
use Rattle.obligations.specs.Variables.{form_has}

-- slots stand before parameters, and lesser numbers before greater ones
abbrev pub is_lower : Bool → ℕ → Bool → ℕ → Bool
is_lower p m q n = cond p (q && nat_lt m n) (q || nat_lt m n)

abbrev pub is_before : Variable → Variable → Bool
is_before v w = is_lower v.param v.number w.param w.number

-- slots by number, and then parameters by number, each once
abbrev pub are_in_order : List Variable → Bool
are_in_order [] = true
are_in_order (v ∷ vs) = list_all (is_before v) vs && are_in_order vs

-- variables as those of an obligation are
pub record AreVariables (vs : List Variable) : Type 0 where
  pub count : length vs < 2 ^ 32
  pub order : are_in_order vs ≡ true

-- variables as those of an obligation are, to which 4,096 can be added
pub record AreOwn (vs : List Variable) : Type 0 where
  pub variables : AreVariables vs
  pub few : length vs ≤ 2 ^ 31
  pub numbered : next_param vs ≤ 2 ^ 31

-- variables to which one more can be added
pub record HasRoom (vs : List Variable) : Type 0 where
  pub variables : AreVariables vs
  pub longer : AreVariables (with_next vs)
  pub numbered : next_param vs < 2 ^ 32

-- a slot or a parameter weighs as its range does, and one that is no variable weighs 1
abbrev pub variable_weight : List Variable → Bool → ℕ → ℕ
variable_weight vs param n = range_weight (option_map (λ (v : Variable). v.range)
    (slice_get vs (place_of vs param n)))

-- the weight of an obligation's form
abbrev pub weight_of : Obligation → ℕ
weight_of o = form_weight (variable_weight o.variables false) (variable_weight o.variables true) o.form

-- height, size and weight are within their limits
abbrev pub is_within_limits : Obligation → Bool
is_within_limits o = nat_le (height_of o) 960 && (nat_le (form_nodes o.form) 65536 && nat_le (weight_of o) (2 ^ 62))

abbrev pub is_range : Range → Bool
is_range r = int_le r.lo r.hi

-- a range with values, whose ends are at most 2^62 from 0
abbrev pub is_sound_range : Range → Bool
is_sound_range r = int_le r.lo r.hi && (nat_le (unsigned_abs r.lo) (2 ^ 62) && nat_le (unsigned_abs r.hi) (2 ^ 62))

-- an obligation that `make` can give
pub record IsObligation (o : Obligation) : Type 0 where
  pub limits : is_within_limits o ≡ true
  pub order : are_in_order o.variables ≡ true
  pub occurring : list_all (λ (v : Variable). form_has v.param v.number o.form) o.variables ≡ true
  pub complete : (param : Bool) (n : ℕ) → form_has param n o.form ≡ true →
      place_of o.variables param n < length o.variables
  pub ranges : list_all (λ (v : Variable). is_range v.range) o.variables ≡ true

-- An obligation's variables are in order, and its numbers are limited.
abbrev pub HasVariables : Type 0
HasVariables = (o : Obligation) → IsObligation o → AreVariables o.variables

-- 4,096 variables can be added, where the numbers of its parameters are small enough
abbrev pub HasOwn : Type 0
HasOwn = (o : Obligation) → IsObligation o → next_param o.variables ≤ 2 ^ 31 → AreOwn o.variables

-- a scope's variables are as those of an obligation
abbrev pub ScopeVariables : Type 0
ScopeVariables = (vs : List Variable) (n : ℕ) → AreOwn vs → n ≤ 4096 → AreVariables (scope vs n)

abbrev pub ScopeRoom : Type 0
ScopeRoom = (vs : List Variable) (n : ℕ) → AreOwn vs → n < 4096 → HasRoom (scope vs n)

abbrev pub HasSmallLoad : Type 0
HasSmallLoad = (o : Obligation) → IsObligation o → form_load o.form ≤ 2 ^ 62

abbrev pub HasSmallWidth : Type 0
HasSmallWidth = (o : Obligation) → IsObligation o → (width o.form).no ≤ 2 ^ 62

abbrev pub HasSoundRanges : Type 0
HasSoundRanges = (o : Obligation) → IsObligation o → list_all is_sound_range (ranges_of o.variables) ≡ true

-- settling a formula meets no load of more than one above its weight, with weights of slots and parameters of at
-- least 1
abbrev pub WeightSettles : Type 0
WeightSettles = (slots params : ℕ → ℕ) → ((n : ℕ) → 1 ≤ slots n) → ((n : ℕ) → 1 ≤ params n) → (f : CForm) →
    (need f).yes ≤ 1 + form_weight slots params f
