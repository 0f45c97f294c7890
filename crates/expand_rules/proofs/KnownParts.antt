-- Which folded trees have a number or a truth: those whose parts have.
use Rattle.std.proofs.Common.{◌≡◌, ℤ, pos, ◌+ℤ◌, ◌-ℤ◌, ◌*ℤ◌, Bool, true, false, cond, not, ◌&&◌, ◌||◌, Option, Some}
use Rattle.std.proofs.Common.{None, refl, sym, ap, ◌∙◌}
use Rattle.std.specs.Option.{option_map, is_some}
use Rattle.std.specs.Int.RustNames.{int_le}
use Rattle.core_terms.specs.declared.trees.CTerm.{CTerm, fold-roll-CTerm}
use Rattle.core_terms.specs.declared.trees.CTerm.TheVariants.{Const, Add, Sub, Scale, Div, Mod, Ite, rolls-Const}
use Rattle.core_terms.specs.declared.trees.CTerm.TheVariants.{rolls-Add}
use Rattle.core_terms.specs.declared.trees.CTerm.TheVariants.{rolls-Sub, rolls-Scale, rolls-Div, rolls-Mod, rolls-Ite}
use Rattle.core_terms.specs.declared.trees.CForm.{CForm, fold-roll-CForm}
use Rattle.core_terms.specs.declared.trees.CForm.TheVariants.{Top, Bottom, AtLeast, Zero, Not, And, Or, rolls-Top}
use Rattle.core_terms.specs.declared.trees.CForm.TheVariants.{rolls-Bottom, rolls-AtLeast, rolls-Zero, rolls-Not}
use Rattle.core_terms.specs.declared.trees.CForm.TheVariants.{rolls-And, rolls-Or}
use Rattle.core_terms.specs.declared.trees.CForm.TheOpen.{CTerm-F, CForm-F}
use Rattle.core_terms.specs.from_meaning_states.Division.{floored, rest_of}
use Rattle.core_terms.specs.from_meaning_states.State.{int_eq}
use Rattle.core_terms.specs.Folding.{joined, chosen, number_step, truth_step, number_of, truth_of, is_small}
use Rattle.core_terms.specs.Folding.{constant_or, truth_or, branch_or, folded_term, folded_form, sum_term}
use Rattle.core_terms.specs.Folding.{difference_term, scaled_term, quotient_term, remainder_term, choice_term}
use Rattle.core_terms.specs.Folding.{at_least_form, zero_form, not_form}
use Rattle.core_terms.specs.Folding.{and_form, or_form}

pub number-Const : (c : ℤ) → number_of (Const c) ≡ Some c
number-Const c = ap number_of (sym (rolls-Const c)) ∙ fold-roll-CTerm (Option Bool) (Option ℤ) truth_step number_step
    (CTerm-F.Const c)

pub number-Add : (a b : CTerm) → number_of (Add a b) ≡ joined (λ x y. x +ℤ y) (number_of a) (number_of b)
number-Add a b = ap number_of (sym (rolls-Add a b)) ∙ fold-roll-CTerm (Option Bool) (Option ℤ) truth_step number_step
    (CTerm-F.Add a b)

pub number-Sub : (a b : CTerm) → number_of (Sub a b) ≡ joined (λ x y. x -ℤ y) (number_of a) (number_of b)
number-Sub a b = ap number_of (sym (rolls-Sub a b)) ∙ fold-roll-CTerm (Option Bool) (Option ℤ) truth_step number_step
    (CTerm-F.Sub a b)

pub number-Scale : (k : ℤ) (a : CTerm) → number_of (Scale k a) ≡ option_map (λ x. k *ℤ x) (number_of a)
number-Scale k a = ap number_of (sym (rolls-Scale k a)) ∙ fold-roll-CTerm (Option Bool) (Option ℤ) truth_step
    number_step (CTerm-F.Scale k a)

pub number-Div : (k : ℤ) (a : CTerm) → number_of (Div a k) ≡ option_map (λ x. floored x k) (number_of a)
number-Div k a = ap number_of (sym (rolls-Div a k)) ∙ fold-roll-CTerm (Option Bool) (Option ℤ) truth_step
    number_step (CTerm-F.Div a k)

pub number-Mod : (k : ℤ) (a : CTerm) → number_of (Mod a k) ≡ option_map (λ x. rest_of x k) (number_of a)
number-Mod k a = ap number_of (sym (rolls-Mod a k)) ∙ fold-roll-CTerm (Option Bool) (Option ℤ) truth_step
    number_step (CTerm-F.Mod a k)

pub number-Ite : (c : CForm) (a b : CTerm) → number_of (Ite c a b) ≡ chosen (truth_of c) (number_of a) (number_of b)
number-Ite c a b = ap number_of (sym (rolls-Ite c a b)) ∙ fold-roll-CTerm (Option Bool) (Option ℤ) truth_step
    number_step (CTerm-F.Ite c a b)

pub truth-Top : truth_of Top ≡ Some true
truth-Top = ap truth_of (sym rolls-Top) ∙ fold-roll-CForm (Option Bool) (Option ℤ) truth_step number_step CForm-F.Top

pub truth-Bottom : truth_of Bottom ≡ Some false
truth-Bottom = ap truth_of (sym rolls-Bottom) ∙ fold-roll-CForm (Option Bool) (Option ℤ) truth_step number_step
    CForm-F.Bottom

pub truth-AtLeast : (t : CTerm) → truth_of (AtLeast t) ≡ option_map (λ x. int_le (pos 0) x) (number_of t)
truth-AtLeast t = ap truth_of (sym (rolls-AtLeast t)) ∙ fold-roll-CForm (Option Bool) (Option ℤ) truth_step
    number_step
    (CForm-F.AtLeast t)

pub truth-Zero : (t : CTerm) → truth_of (Zero t) ≡ option_map (λ x. int_eq x (pos 0)) (number_of t)
truth-Zero t = ap truth_of (sym (rolls-Zero t)) ∙ fold-roll-CForm (Option Bool) (Option ℤ) truth_step number_step
    (CForm-F.Zero t)

pub truth-Not : (f : CForm) → truth_of (Not f) ≡ option_map not (truth_of f)
truth-Not f = ap truth_of (sym (rolls-Not f)) ∙ fold-roll-CForm (Option Bool) (Option ℤ) truth_step number_step
    (CForm-F.Not f)

pub truth-And : (f g : CForm) → truth_of (And f g) ≡ joined (λ x y. x && y) (truth_of f) (truth_of g)
truth-And f g = ap truth_of (sym (rolls-And f g)) ∙ fold-roll-CForm (Option Bool) (Option ℤ) truth_step number_step
    (CForm-F.And f g)

pub truth-Or : (f g : CForm) → truth_of (Or f g) ≡ joined (λ x y. x || y) (truth_of f) (truth_of g)
truth-Or f g = ap truth_of (sym (rolls-Or f g)) ∙ fold-roll-CForm (Option Bool) (Option ℤ) truth_step number_step
    (CForm-F.Or f g)

-- folding keeps the number and the truth
number_constant : (t : CTerm) (m : Option ℤ) → number_of t ≡ m → number_of (constant_or m t) ≡ number_of t
number_constant t None e = refl
number_constant t (Some z) e = elim (is_small z) as (λ v. number_of (cond v (Const z) t) ≡ number_of t) [
  | true ↦ number-Const z ∙ sym e
  | false ↦ refl
]

pub number-folded_term : (t : CTerm) → number_of (folded_term t) ≡ number_of t
number-folded_term t = number_constant t (number_of t) refl

truth_constant : (f : CForm) (m : Option Bool) → truth_of f ≡ m → truth_of (truth_or m f) ≡ truth_of f
truth_constant f None e = refl
truth_constant f (Some true) e = truth-Top ∙ sym e
truth_constant f (Some false) e = truth-Bottom ∙ sym e

pub truth-folded_form : (f : CForm) → truth_of (folded_form f) ≡ truth_of f
truth-folded_form f = truth_constant f (truth_of f) refl

pub some_joined : {A : Type 0} (op : A → A → A) (a b : Option A) → is_some (joined op a b) ≡ (is_some a && is_some b)
some_joined op None b = refl
some_joined op (Some x) None = refl
some_joined op (Some x) (Some y) = refl

pub some_mapped : {A B : Type 0} (f : A → B) (a : Option A) → is_some (option_map f a) ≡ is_some a
some_mapped f None = refl
some_mapped f (Some x) = refl

pub some-sum_term : (a b : CTerm) → is_some (number_of (sum_term a b)) ≡ (is_some (number_of a) && is_some
    (number_of b))
some-sum_term a b = ap is_some (number-folded_term (Add a b) ∙ number-Add a b) ∙ some_joined _ (number_of a)
    (number_of b)

pub some-difference_term : (a b : CTerm) → is_some (number_of (difference_term a b)) ≡
    (is_some (number_of a) && is_some (number_of b))
some-difference_term a b = ap is_some (number-folded_term (Sub a b) ∙ number-Sub a b) ∙ some_joined _ (number_of a)
    (number_of b)

pub some-scaled_term : (k : ℤ) (a : CTerm) → is_some (number_of (scaled_term k a)) ≡ is_some (number_of a)
some-scaled_term k a = ap is_some (number-folded_term (Scale k a) ∙ number-Scale k a) ∙ some_mapped _ (number_of a)

pub some-quotient_term : (k : ℤ) (a : CTerm) → is_some (number_of (quotient_term k a)) ≡ is_some (number_of a)
some-quotient_term k a = ap is_some (number-folded_term (Div a k) ∙ number-Div k a) ∙ some_mapped _ (number_of a)

pub some-remainder_term : (k : ℤ) (a : CTerm) → is_some (number_of (remainder_term k a)) ≡ is_some (number_of a)
some-remainder_term k a = ap is_some (number-folded_term (Mod a k) ∙ number-Mod k a) ∙ some_mapped _ (number_of a)

pub some-at_least_form : (t : CTerm) → is_some (truth_of (at_least_form t)) ≡ is_some (number_of t)
some-at_least_form t = ap is_some (truth-folded_form (AtLeast t) ∙ truth-AtLeast t) ∙ some_mapped _ (number_of t)

pub some-zero_form : (t : CTerm) → is_some (truth_of (zero_form t)) ≡ is_some (number_of t)
some-zero_form t = ap is_some (truth-folded_form (Zero t) ∙ truth-Zero t) ∙ some_mapped _ (number_of t)

pub some-not_form : (f : CForm) → is_some (truth_of (not_form f)) ≡ is_some (truth_of f)
some-not_form f = ap is_some (truth-folded_form (Not f) ∙ truth-Not f) ∙ some_mapped _ (truth_of f)

pub some-and_form : (f g : CForm) → is_some (truth_of (and_form f g)) ≡ (is_some (truth_of f) && is_some (truth_of g))
some-and_form f g = ap is_some (truth-folded_form (And f g) ∙ truth-And f g) ∙ some_joined _ (truth_of f) (truth_of g)

pub some-or_form : (f g : CForm) → is_some (truth_of (or_form f g)) ≡ (is_some (truth_of f) && is_some (truth_of g))
some-or_form f g = ap is_some (truth-folded_form (Or f g) ∙ truth-Or f g) ∙ some_joined _ (truth_of f) (truth_of g)

-- a choice between numbers has one where its condition has a truth
chosen_some : (c : CForm) (a b : CTerm) (x y : ℤ) (m : Option Bool) → truth_of c ≡ m → number_of a ≡ Some x →
    number_of b ≡ Some y →
    is_some (number_of (branch_or m a b (Ite c a b))) ≡ is_some m
chosen_some c a b x y None e h k = ap is_some (number-Ite c a b ∙ ap (λ v. chosen v (number_of a) (number_of b)) e)
chosen_some c a b x y (Some true) e h k = ap is_some h
chosen_some c a b x y (Some false) e h k = ap is_some k

pub some-choice_term : (c : CForm) (a b : CTerm) (x y : ℤ) → number_of a ≡ Some x → number_of b ≡ Some y →
    is_some (number_of (choice_term c a b)) ≡ is_some (truth_of c)
some-choice_term c a b x y h k = chosen_some c a b x y (truth_of c) refl h k
