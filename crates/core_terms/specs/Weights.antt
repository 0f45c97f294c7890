-- The weight of a tree: how far from 0 the values of its terms can lie, each part counted by itself.
use Rattle.std.specs.Prelude.{ℕ, ◌+◌, ◌*◌, max, ℤ, List, Option, Some, None, slice_get}
use Rattle.std.specs.Int.RustNames.{unsigned_abs}
use Rattle.std.specs.Option.{option_map}
use Rattle.meaning_states.specs.Division.{divisor}
use Rattle.core_terms.specs.declared.programs.CSlot.{CSlot}
use Rattle.core_terms.specs.declared.trees.Range.{Range}
use Rattle.core_terms.specs.declared.trees.CTerm.{CTerm, fold-CTerm}
use Rattle.core_terms.specs.declared.trees.CForm.TheOpen.{CTerm-F, CForm-F}
use Rattle.core_terms.specs.declared.trees.CForm.{CForm, fold-CForm}
use Rattle.core_terms.specs.Values.{number_at}

-- a term's own weight, and the greatest weight among it and its parts
pub record Weights : Type 0 where
  pub own : ℕ
  pub most : ℕ

-- a term of this weight over parts of at most such a weight
abbrev pub weighing : ℕ → ℕ → Weights
weighing own parts = record { own = own; most = max own parts }

-- the weights of a sum, and of a difference
abbrev pub sum_weights : Weights → Weights → Weights
sum_weights a b = weighing (a.own + b.own) (max a.most b.most)

-- the weights of a multiple
abbrev pub multiple_weights : ℤ → Weights → Weights
multiple_weights k a = weighing (unsigned_abs k * a.own) a.most

-- the weights of a quotient; the divisor weighs as a part does
abbrev pub quotient_weights : ℤ → Weights → Weights
quotient_weights k a = weighing (max 1 a.own) (max (unsigned_abs (divisor k)) a.most)

-- the weights of a remainder, which is the term less a multiple of the quotient
abbrev pub remainder_weights : ℤ → Weights → Weights
remainder_weights k a = weighing (2 * a.own + unsigned_abs (divisor k)) (max (unsigned_abs (divisor k)) a.most)

-- the weights of a choice, whose condition weighs so much
abbrev pub choice_weights : ℕ → Weights → Weights → Weights
choice_weights c a b = weighing (max a.own b.own) (max c (max a.most b.most))

-- a term's weights, from those of its parts, for weights of the slots and of the parameters
abbrev pub weigh_term : (ℕ → ℕ) → (ℕ → ℕ) → CTerm-F ℕ Weights → Weights
weigh_term slots params (CTerm-F.Const c) = weighing (unsigned_abs c) 0
weigh_term slots params (CTerm-F.Slot n) = weighing (slots n) 0
weigh_term slots params (CTerm-F.Param n) = weighing (params n) 0
weigh_term slots params (CTerm-F.Add a b) = sum_weights a b
weigh_term slots params (CTerm-F.Sub a b) = sum_weights a b
weigh_term slots params (CTerm-F.Scale k a) = multiple_weights k a
weigh_term slots params (CTerm-F.Div a k) = quotient_weights k a
weigh_term slots params (CTerm-F.Mod a k) = remainder_weights k a
weigh_term slots params (CTerm-F.Ite c a b) = choice_weights c a b

-- a formula's weight is the greatest of its terms'
abbrev pub weigh_form : CForm-F ℕ Weights → ℕ
weigh_form CForm-F.Top = 0
weigh_form CForm-F.Bottom = 0
weigh_form (CForm-F.AtLeast t) = t.most
weigh_form (CForm-F.Zero t) = t.most
weigh_form (CForm-F.Not f) = f
weigh_form (CForm-F.And f g) = max f g
weigh_form (CForm-F.Or f g) = max f g

-- the weights of a term
abbrev pub term_weights : (ℕ → ℕ) → (ℕ → ℕ) → CTerm → Weights
term_weights slots params = fold-CTerm ℕ Weights weigh_form (weigh_term slots params)

-- the weight of a formula
abbrev pub form_weight : (ℕ → ℕ) → (ℕ → ℕ) → CForm → ℕ
form_weight slots params = fold-CForm ℕ Weights weigh_form (weigh_term slots params)

-- a place weighs as the number does that a list gives it, and at least 1
abbrev pub number_weight : List ℤ → ℕ → ℕ
number_weight zs n = max 1 (unsigned_abs (number_at zs n))

-- the greatest distance from 0 in a range, and at least 1
abbrev pub range_weight : Option Range → ℕ
range_weight None = 1
range_weight (Some r) = max 1 (max (unsigned_abs r.lo) (unsigned_abs r.hi))

-- a place weighs as the range does that a list gives it
abbrev pub place_weight : List Range → ℕ → ℕ
place_weight ranges n = range_weight (slice_get ranges n)

-- each place weighs 1
abbrev pub one_weight : ℕ → ℕ
one_weight n = 1

-- a term's weights where each slot and each parameter weighs 1
abbrev pub plain_weights : CTerm → Weights
plain_weights = term_weights one_weight one_weight

-- a formula's weight where each slot and each parameter weighs 1
abbrev pub plain_weight : CForm → ℕ
plain_weight = form_weight one_weight one_weight

-- a slot weighs as its range does
abbrev pub slot_weight : List CSlot → ℕ → ℕ
slot_weight slots n = range_weight (option_map (λ s. s.range) (slice_get slots n))
