-- Replacing slots and parameters by terms, all at once; the result is folded.
use Rattle.std.specs.Prelude.{◌≡◌, ℕ, zero, suc, ℤ, pos, negsuc, ◌+ℤ◌, ◌^◌, ◌≤◌, List, map, Option, Some, None}
use Rattle.std.specs.Prelude.{slice_get}
use Rattle.std.specs.Int.RustNames.{unsigned_abs}
use Rattle.core_terms.specs.declared.trees.CTerm.{CTerm, fold-CTerm}
use Rattle.core_terms.specs.declared.trees.CTerm.TheVariants.{Const, Slot, Param, Add, Sub}
use Rattle.core_terms.specs.declared.trees.CForm.{CForm, fold-CForm}
use Rattle.core_terms.specs.declared.trees.CForm.TheVariants.{Top, Bottom}
use Rattle.core_terms.specs.declared.trees.CForm.TheOpen.{CTerm-F, CForm-F}
use Rattle.core_terms.specs.declared.documents.Arg.{Arg}
use Rattle.meaning_states.specs.State.{State}
use Rattle.core_terms.specs.Values.{number_at, form_value}
use Rattle.core_terms.specs.Weights.{Weights, one_weight, term_weights, form_weight}
use Rattle.core_terms.specs.Folding.{sum_term, difference_term, scaled_term, quotient_term, remainder_term, choice_term}
use Rattle.core_terms.specs.Folding.{at_least_form, zero_form, not_form, and_form, or_form}

-- a term from its replaced parts, where these terms stand for the slots and for the parameters
abbrev pub replace_term : (ℕ → CTerm) → (ℕ → CTerm) → CTerm-F CForm CTerm → CTerm
replace_term slots params (CTerm-F.Const c) = Const c
replace_term slots params (CTerm-F.Slot n) = slots n
replace_term slots params (CTerm-F.Param n) = params n
replace_term slots params (CTerm-F.Add a b) = sum_term a b
replace_term slots params (CTerm-F.Sub a b) = difference_term a b
replace_term slots params (CTerm-F.Scale k a) = scaled_term k a
replace_term slots params (CTerm-F.Div a k) = quotient_term k a
replace_term slots params (CTerm-F.Mod a k) = remainder_term k a
replace_term slots params (CTerm-F.Ite c a b) = choice_term c a b

-- a formula from its replaced parts
abbrev pub replace_form : CForm-F CForm CTerm → CForm
replace_form CForm-F.Top = Top
replace_form CForm-F.Bottom = Bottom
replace_form (CForm-F.AtLeast t) = at_least_form t
replace_form (CForm-F.Zero t) = zero_form t
replace_form (CForm-F.Not f) = not_form f
replace_form (CForm-F.And f g) = and_form f g
replace_form (CForm-F.Or f g) = or_form f g

-- a term with its slots and parameters replaced
abbrev pub term_with : (ℕ → CTerm) → (ℕ → CTerm) → CTerm → CTerm
term_with slots params = fold-CTerm CForm CTerm replace_form (replace_term slots params)

-- a formula with its slots and parameters replaced
abbrev pub form_with : (ℕ → CTerm) → (ℕ → CTerm) → CForm → CForm
form_with slots params = fold-CForm CForm CTerm replace_form (replace_term slots params)

-- a parameter with a number added
abbrev pub shifted : ℕ → ℤ → CTerm
shifted n (pos zero) = Param n
shifted n (pos (suc k)) = Add (Param n) (Const (pos (suc k)))
shifted n (negsuc k) = Sub (Param n) (Const (pos (suc k)))

-- the term of an argument; no call is handed a variable as an argument
abbrev pub arg_term : Option Arg → CTerm
arg_term None = Const (pos 0)
arg_term (Some (Arg.Number k)) = Const k
arg_term (Some (Arg.Param n add)) = shifted n add
arg_term (Some Arg.Slot) = Const (pos 0)

-- the term of the argument at a place
abbrev pub arg_at : List Arg → ℕ → CTerm
arg_at args n = arg_term (slice_get args n)

-- a formula with its parameters replaced by arguments
abbrev pub form_at : List Arg → CForm → CForm
form_at args = form_with (λ n. Slot n) (arg_at args)

-- a term with its parameters replaced by arguments
abbrev pub term_at : List Arg → CTerm → CTerm
term_at args = term_with (λ n. Slot n) (arg_at args)

-- the number of an argument
abbrev pub arg_value : List ℤ → Arg → ℤ
arg_value params (Arg.Number k) = k
arg_value params (Arg.Param n add) = number_at params n +ℤ add
arg_value params Arg.Slot = pos 0

-- the numbers of the arguments
abbrev pub arg_values : List ℤ → List Arg → List ℤ
arg_values params args = map (arg_value params) args

-- the argument is no variable, and its number is within plus or minus 2^62
abbrev pub IsSmallArg : Arg → Type 0
IsSmallArg (Arg.Number k) = unsigned_abs k ≤ 2 ^ 62
IsSmallArg (Arg.Param n add) = unsigned_abs add ≤ 2 ^ 62
IsSmallArg Arg.Slot = ⊥

-- a choice with its parameters replaced by arguments
abbrev pub choice_at : List Arg → CForm → CTerm → CTerm → CTerm
choice_at args c a b = choice_term (form_at args c) (term_at args a) (term_at args b)

-- at every state the formula g is worth what f is with the arguments' values as parameters
abbrev pub MeansAt : List Arg → CForm → CForm → Type 0
MeansAt args f g = (state : State) (params : List ℤ) →
    form_value state params g ≡ form_value state (arg_values params args) f

-- what an argument's term weighs at most, where slots and parameters weigh 1
abbrev pub arg_weight : ℕ → ℕ
arg_weight n = 2 ^ 63

-- what a tree weighs at most, where slots and parameters weigh 1, after arguments are put for its parameters
abbrev pub put_weights : CTerm → Weights
put_weights = term_weights one_weight arg_weight

abbrev pub put_weight : CForm → ℕ
put_weight = form_weight one_weight arg_weight
