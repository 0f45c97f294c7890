-- What is known of a tree is still known when it is folded, and is its value.
use Rattle.std.proofs.Common.{◌≡◌, ◌≤◌, ℤ, List, [], Bool, true, false, cond, Option, Some, None, refl, sym, subst}
use Rattle.core_terms.specs.declared.trees.CTerm.{CTerm}
use Rattle.core_terms.specs.declared.trees.CTerm.TheVariants.{Const, rolls-Const}
use Rattle.core_terms.specs.declared.trees.CForm.{CForm}
use Rattle.core_terms.specs.declared.trees.CForm.TheVariants.{Top, Bottom, rolls-Top, rolls-Bottom}
use Rattle.core_terms.specs.Values.{term_value, form_value}
use Rattle.std.specs.Prelude.{MatchOption}
use Rattle.std.specs.Int.RustNames.{unsigned_abs}
use Rattle.core_terms.specs.Weights.{one_weight, term_weights, plain_weights}
use Rattle.core_terms.specs.Folding.{number_of, truth_of, is_small, constant_or, truth_or}
use Rattle.core_terms.specs.Folding.{folded_term, folded_form}
use Rattle.core_terms.proofs.TreeFolds.{fold_form_is, fold_term_is}
use Rattle.core_terms.proofs.FoldingLaws.{known_steps, Right, True, form_right, term_right}

number-Const : (z : ℤ) → number_of (Const z) ≡ Some z
number-Const z = fold_term_is known_steps _ _ (rolls-Const z)

truth-Top : truth_of Top ≡ Some true
truth-Top = fold_form_is known_steps _ _ rolls-Top

truth-Bottom : truth_of Bottom ≡ Some false
truth-Bottom = fold_form_is known_steps _ _ rolls-Bottom

constant_known : (t : CTerm) (m : Option ℤ) → number_of t ≡ m → number_of (constant_or m t) ≡ m
constant_known t None e = e
constant_known t (Some z) e = elim (is_small z) as (λ v. number_of (cond v (Const z) t) ≡ Some z) [
  | true ↦ number-Const z
  | false ↦ e
]

pub known_folded_term : (t : CTerm) → number_of (folded_term t) ≡ number_of t
known_folded_term t = constant_known t (number_of t) refl

truth_known : (f : CForm) (m : Option Bool) → truth_of f ≡ m → truth_of (truth_or m f) ≡ m
truth_known f None e = e
truth_known f (Some true) e = truth-Top
truth_known f (Some false) e = truth-Bottom

pub known_folded_form : (f : CForm) → truth_of (folded_form f) ≡ truth_of f
known_folded_form f = truth_known f (truth_of f) refl

pub number_is_value : (s p : List ℤ) (t : CTerm) (z : ℤ) → number_of t ≡ Some z → term_value s p t ≡ z
number_is_value s p t z e =
    (subst (λ m. Right m (term_value s p t) (term_weights one_weight one_weight t).own) e
    (term_right s p one_weight one_weight t)).0

pub truth_is_value : (s p : List ℤ) (f : CForm) (b : Bool) → truth_of f ≡ Some b → form_value s p f ≡ b
truth_is_value s p f b e = subst (λ m. True m (form_value s p f)) e (form_right s p one_weight one_weight f)

-- a number lies within the weight
pub number_within : (t : CTerm) (z : ℤ) → number_of t ≡ Some z → unsigned_abs z ≤ (plain_weights t).own
number_within t z e =
    (subst (λ m. Right m (term_value [] [] t) (term_weights one_weight one_weight t).own) e
    (term_right [] [] one_weight one_weight t)).1

pub number_bound : (t : CTerm) (m : Option ℤ) → m ≡ number_of t →
    MatchOption m (Unit {0}) (λ z. unsigned_abs z ≤ (plain_weights t).own)
number_bound t None e = tt
number_bound t (Some z) e = number_within t z (sym e)
