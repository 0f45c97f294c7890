-- Folding: a tree without slot and parameter is replaced by what it is worth.
use Rattle.std.specs.Prelude.{◌^◌, ℤ, pos, ◌+ℤ◌, ◌-ℤ◌, ◌*ℤ◌, Bool, true, false, cond, not, ◌&&◌, ◌||◌, Option, Some}
use Rattle.std.specs.Prelude.{None, nat_le}
use Rattle.std.specs.Option.{option_map}
use Rattle.std.specs.Int.RustNames.{int_le, unsigned_abs}
use Rattle.meaning_states.specs.State.{int_eq}
use Rattle.meaning_states.specs.Division.{floored, rest_of}
use Rattle.core_terms.specs.declared.trees.CTerm.{CTerm, fold-CTerm}
use Rattle.core_terms.specs.declared.trees.CTerm.TheVariants.{Const, Add, Sub, Scale, Div, Mod, Ite}
use Rattle.core_terms.specs.declared.trees.CForm.{CForm, fold-CForm}
use Rattle.core_terms.specs.declared.trees.CForm.TheVariants.{Top, Bottom, AtLeast, Zero, Not, And, Or}
use Rattle.core_terms.specs.declared.trees.CForm.TheOpen.{CTerm-F, CForm-F}

-- an operation on two values, where both are there
abbrev pub joined : {A : Type 0} → (A → A → A) → Option A → Option A → Option A
joined op None b = None
joined op (Some x) None = None
joined op (Some x) (Some y) = Some (op x y)

-- a choice of two numbers, where the condition and both numbers are there
abbrev pub chosen : Option Bool → Option ℤ → Option ℤ → Option ℤ
chosen None a b = None
chosen (Some c) a b = joined (λ x y. cond c x y) a b

-- the number of a term, from those of its parts; a slot and a parameter have none
abbrev pub number_step : CTerm-F (Option Bool) (Option ℤ) → Option ℤ
number_step (CTerm-F.Const c) = Some c
number_step (CTerm-F.Slot n) = None
number_step (CTerm-F.Param n) = None
number_step (CTerm-F.Add a b) = joined (λ x y. x +ℤ y) a b
number_step (CTerm-F.Sub a b) = joined (λ x y. x -ℤ y) a b
number_step (CTerm-F.Scale k a) = option_map (λ x. k *ℤ x) a
number_step (CTerm-F.Div a k) = option_map (λ x. floored x k) a
number_step (CTerm-F.Mod a k) = option_map (λ x. rest_of x k) a
number_step (CTerm-F.Ite c a b) = chosen c a b

-- the truth of a formula, from that of its parts
abbrev pub truth_step : CForm-F (Option Bool) (Option ℤ) → Option Bool
truth_step CForm-F.Top = Some true
truth_step CForm-F.Bottom = Some false
truth_step (CForm-F.AtLeast t) = option_map (λ x. int_le (pos 0) x) t
truth_step (CForm-F.Zero t) = option_map (λ x. int_eq x (pos 0)) t
truth_step (CForm-F.Not f) = option_map not f
truth_step (CForm-F.And f g) = joined (λ x y. x && y) f g
truth_step (CForm-F.Or f g) = joined (λ x y. x || y) f g

-- the value of a term that has no slot and no parameter
abbrev pub number_of : CTerm → Option ℤ
number_of = fold-CTerm (Option Bool) (Option ℤ) truth_step number_step

-- the truth of a formula that has no slot and no parameter
abbrev pub truth_of : CForm → Option Bool
truth_of = fold-CForm (Option Bool) (Option ℤ) truth_step number_step

-- a number within plus or minus 2^62 can stand in a constant
abbrev pub is_small : ℤ → Bool
is_small z = nat_le (unsigned_abs z) (2 ^ 62)

-- the constant of a small number, and else the term
abbrev pub constant_or : Option ℤ → CTerm → CTerm
constant_or None t = t
constant_or (Some z) t = cond (is_small z) (Const z) t

-- a term without slot and parameter becomes the constant of its value, where that is small
abbrev pub folded_term : CTerm → CTerm
folded_term t = constant_or (number_of t) t

-- `Top` or `Bottom` where the truth is known, and else the formula
abbrev pub truth_or : Option Bool → CForm → CForm
truth_or None f = f
truth_or (Some b) f = cond b Top Bottom

-- a formula without slot and parameter becomes `Top` or `Bottom`
abbrev pub folded_form : CForm → CForm
folded_form f = truth_or (truth_of f) f

-- a sum, folded
abbrev pub sum_term : CTerm → CTerm → CTerm
sum_term a b = folded_term (Add a b)

-- a difference, folded
abbrev pub difference_term : CTerm → CTerm → CTerm
difference_term a b = folded_term (Sub a b)

-- a multiple, folded
abbrev pub scaled_term : ℤ → CTerm → CTerm
scaled_term k a = folded_term (Scale k a)

-- a quotient, folded
abbrev pub quotient_term : ℤ → CTerm → CTerm
quotient_term k a = folded_term (Div a k)

-- a remainder, folded
abbrev pub remainder_term : ℤ → CTerm → CTerm
remainder_term k a = folded_term (Mod a k)

-- the branch where the condition is known, and else the whole choice
abbrev pub branch_or : Option Bool → CTerm → CTerm → CTerm → CTerm
branch_or None a b whole = whole
branch_or (Some c) a b whole = cond c a b

-- a choice whose condition has no slot and no parameter becomes its branch
abbrev pub choice_term : CForm → CTerm → CTerm → CTerm
choice_term c a b = branch_or (truth_of c) a b (Ite c a b)

-- that a term is at least 0, folded
abbrev pub at_least_form : CTerm → CForm
at_least_form t = folded_form (AtLeast t)

-- that a term is 0, folded
abbrev pub zero_form : CTerm → CForm
zero_form t = folded_form (Zero t)

-- that a formula does not hold, folded
abbrev pub not_form : CForm → CForm
not_form f = folded_form (Not f)

-- that two formulas hold, folded
abbrev pub and_form : CForm → CForm → CForm
and_form f g = folded_form (And f g)

-- that one of two formulas holds, folded
abbrev pub or_form : CForm → CForm → CForm
or_form f g = folded_form (Or f g)
