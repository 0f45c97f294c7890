-- The obligation of a formula: which slots and parameters are its variables, and what its validity says of states.
use Rattle.std.specs.Prelude.{◌≡◌, ℕ, suc, nat_eq, ℤ, Bool, true, false, cond, not, ◌&&◌, ◌||◌, Option, Some, None}
use Rattle.std.specs.Prelude.{List, [], ◌∷◌, ◌++◌, map}
use Rattle.std.specs.List.{filter}
use Rattle.std.specs.Int.RustNames.{int_le}
use Rattle.core_terms.specs.declared.trees.CTerm.{CTerm, fold-CTerm}
use Rattle.core_terms.specs.declared.trees.CForm.{CForm, fold-CForm}
use Rattle.core_terms.specs.declared.trees.CForm.TheOpen.{CTerm-F, CForm-F}
use Rattle.core_terms.specs.declared.trees.Range.{Range}
use Rattle.core_terms.specs.declared.programs.CSlot.{CSlot}
use Rattle.obligations.specs.declared.branches.Variable.{Variable}
use Rattle.obligations.specs.declared.branches.Obligation.{Obligation}
use Rattle.core_terms.specs.Values.{form_value}
use Rattle.obligations.specs.Opening.{Valid}

-- whether a term has the slot (false) or the parameter (true) of this number, from whether its parts do
abbrev pub has_step : Bool → ℕ → CTerm-F Bool Bool → Bool
has_step param n (CTerm-F.Const c) = false
has_step param n (CTerm-F.Slot m) = not param && nat_eq m n
has_step param n (CTerm-F.Param m) = param && nat_eq m n
has_step param n (CTerm-F.Add a b) = a || b
has_step param n (CTerm-F.Sub a b) = a || b
has_step param n (CTerm-F.Scale k a) = a
has_step param n (CTerm-F.Ite c a b) = c || (a || b)
has_step param n (CTerm-F.Div a k) = a
has_step param n (CTerm-F.Mod a k) = a

-- whether a formula has it, from whether its parts do
abbrev pub part_has : CForm-F Bool Bool → Bool
part_has CForm-F.Top = false
part_has CForm-F.Bottom = false
part_has (CForm-F.AtLeast t) = t
part_has (CForm-F.Zero t) = t
part_has (CForm-F.Not f) = f
part_has (CForm-F.And f g) = f || g
part_has (CForm-F.Or f g) = f || g

-- whether the slot or parameter of this number occurs in a term
abbrev pub term_has : Bool → ℕ → CTerm → Bool
term_has param n = fold-CTerm Bool Bool part_has (has_step param n)

-- whether it occurs in a formula
abbrev pub form_has : Bool → ℕ → CForm → Bool
form_has param n = fold-CForm Bool Bool part_has (has_step param n)

-- a slot or a parameter for each range, in order, the first of which has this number
abbrev pub numbered : Bool → ℕ → List Range → List Variable
numbered param n [] = []
numbered param n (r ∷ rs) = record { param = param; number = n; range = r } ∷ numbered param (suc n) rs

-- the variables that occur in a formula
abbrev pub occurring : CForm → List Variable → List Variable
occurring f vs = filter (λ v. form_has v.param v.number f) vs

-- the slots that occur in a formula, by number, and then the parameters that do, each with its range
abbrev pub variables_of : CForm → List Range → List Range → List Variable
variables_of f slots params = occurring f (numbered false 0 slots) ++ occurring f (numbered true 0 params)

-- the ranges of slots
abbrev pub slot_ranges : List CSlot → List Range
slot_ranges slots = map (λ (s : CSlot). s.range) slots

-- no mark for each range
abbrev pub no_marks : List Range → List (Option ℕ)
no_marks rs = map (λ r. None) rs

-- marks, the first of which has this place: each place that passes the test is marked with its number
abbrev pub marked : (ℕ → Bool) → ℕ → List (Option ℕ) → List (Option ℕ)
marked has n [] = []
marked has n (m ∷ ms) = cond (has n) (Some n) m ∷ marked has (suc n) ms

-- the variables of the numbers that are marked
abbrev pub picked : Bool → List (Option ℕ) → List Range → List Variable
picked param [] rs = []
picked param (m ∷ ms) [] = []
picked param (None ∷ ms) (r ∷ rs) = picked param ms rs
picked param (Some n ∷ ms) (r ∷ rs) = record { param = param; number = n; range = r } ∷ picked param ms rs

-- a formula over the slots and the parameters that occur in it
abbrev pub obligation_of : CForm → List Range → List Range → Obligation
obligation_of f slots params = record { form = f; variables = variables_of f slots params }

-- there is a number for each range, and it lies in it
abbrev pub lie_in_ranges : List Range → List ℤ → Bool
lie_in_ranges [] [] = true
lie_in_ranges [] (z ∷ zs) = false
lie_in_ranges (r ∷ rs) [] = false
lie_in_ranges (r ∷ rs) (z ∷ zs) = (int_le r.lo z && int_le z r.hi) && lie_in_ranges rs zs

-- a formula is true at every state and all numbers of the parameters that lie in their ranges
abbrev pub IsTrueInRanges : CForm → List Range → List Range → Type 0
IsTrueInRanges f slots params =
    (state numbers : List ℤ) → lie_in_ranges slots state ≡ true → lie_in_ranges params numbers ≡ true →
    form_value state numbers f ≡ true

-- a formula whose obligation is valid is true at all that lies in the ranges
abbrev pub ObligationMeans : Type 0
ObligationMeans =
    (f : CForm) (slots params : List Range) → Valid (obligation_of f slots params) → IsTrueInRanges f slots params
