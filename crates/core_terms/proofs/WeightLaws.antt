-- Folding raises no weight.
use Rattle.std.proofs.Common.{◌≡◌, ℕ, ◌≤◌, ℤ, [], Bool, true, false, cond, Option, Some, None, sym, ap, subst}
use Rattle.std.proofs.Common.{arith}
use Rattle.std.specs.Int.RustNames.{unsigned_abs}
use Rattle.meaning_states.specs.Division.{divisor}
use Rattle.core_terms.specs.declared.known.Dividing.{Dividing}
use Rattle.core_terms.specs.declared.trees.CTerm.{CTerm, out-CTerm, fold_out-CTerm}
use Rattle.core_terms.specs.declared.trees.CTerm.TheVariants.{Const, rolls-Const}
use Rattle.core_terms.specs.declared.trees.CForm.{CForm}
use Rattle.core_terms.specs.declared.trees.CForm.TheVariants.{Top, Bottom, rolls-Top, rolls-Bottom}
use Rattle.core_terms.specs.declared.trees.CForm.TheOpen.{CTerm-F}
use Rattle.core_terms.specs.Weights.{Weights, weighing, weigh_term, weigh_form, term_weights, form_weight, one_weight}
use Rattle.core_terms.specs.Weights.{plain_weights, plain_weight}
use Rattle.core_terms.specs.Folding.{number_of, truth_of, is_small, constant_or, truth_or, folded_term, folded_form}
use Rattle.core_terms.specs.Senses.{divided_weights}
use Rattle.core_terms.proofs.TreeFolds.{term_layer, fold_form_is, fold_term_is}
use Rattle.core_terms.proofs.HeavierLaws.{weight_steps}
use Rattle.core_terms.proofs.FoldingLaws.{Right, term_right}

layer_within : (slots params : ℕ → ℕ) (x : CTerm-F ℕ Weights) → (weigh_term slots params x).own ≤
    (weigh_term slots params x).most
layer_within slots params (CTerm-F.Const c) = omega arith
layer_within slots params (CTerm-F.Slot n) = omega arith
layer_within slots params (CTerm-F.Param n) = omega arith
layer_within slots params (CTerm-F.Add a b) = omega arith
layer_within slots params (CTerm-F.Sub a b) = omega arith
layer_within slots params (CTerm-F.Scale k a) = omega arith
layer_within slots params (CTerm-F.Div a k) = omega arith
layer_within slots params (CTerm-F.Mod a k) = omega arith
layer_within slots params (CTerm-F.Ite c a b) = omega arith

-- a term's own weight is among those of its parts
pub own_within : (slots params : ℕ → ℕ) (t : CTerm) → (term_weights slots params t).own ≤
    (term_weights slots params t).most
own_within slots params t =
    subst (λ (w : Weights). w.own ≤ w.most) (sym (fold_out-CTerm ℕ Weights weigh_form (weigh_term slots params) t))
    (layer_within slots params (term_layer (weight_steps slots params) (out-CTerm t)))

pub weights-Const : (slots params : ℕ → ℕ) (z : ℤ) → term_weights slots params (Const z) ≡ weighing (unsigned_abs z) 0
weights-Const slots params z = fold_term_is (weight_steps slots params) _ _ (rolls-Const z)

pub weight-Top : (slots params : ℕ → ℕ) → form_weight slots params Top ≡ 0
weight-Top slots params = fold_form_is (weight_steps slots params) _ _ rolls-Top

pub weight-Bottom : (slots params : ℕ → ℕ) → form_weight slots params Bottom ≡ 0
weight-Bottom slots params = fold_form_is (weight_steps slots params) _ _ rolls-Bottom

-- one term weighs at most as another, itself and with its parts
abbrev pub Lighter : Weights → Weights → Type 0
Lighter v w = (v.own ≤ w.own) × (v.most ≤ w.most)

-- a quotient or a remainder of a lighter term is lighter
pub divided_lighter : (which : Dividing) (k l : ℤ) (v w : Weights) → l ≡ k → Lighter v w →
    Lighter (divided_weights which l v) (divided_weights which k w)
divided_lighter Dividing.Quotient k l v w e h =
    let same = ap (λ z. unsigned_abs (divisor z)) e in (omega (arith, h.0), omega (arith, same, h.0, h.1))
divided_lighter Dividing.Remainder k l v w e h =
    let same = ap (λ z. unsigned_abs (divisor z)) e in (omega (arith, same, h.0), omega (arith, same, h.0, h.1))

constant_lighter : (slots params : ℕ → ℕ) (t : CTerm) (v : ℤ) (m : Option ℤ) → Right m v
    (term_weights slots params t).own →
    Lighter (term_weights slots params (constant_or m t)) (term_weights slots params t)
constant_lighter slots params t v None h = (omega arith, omega arith)
constant_lighter slots params t v (Some z) h =
    let within = own_within slots params t in
    elim (is_small z) as (λ b. Lighter (term_weights slots params (cond b (Const z) t)) (term_weights slots params t)) [
      | true ↦ subst (λ w. Lighter w (term_weights slots params t)) (sym (weights-Const slots params z))
          (omega (arith, h.1), omega (arith, h.1, within))
      | false ↦ (omega arith, omega arith)
    ]

pub folded_lighter : (slots params : ℕ → ℕ) (t : CTerm) → Lighter (term_weights slots params (folded_term t))
    (term_weights slots params t)
folded_lighter slots params t = constant_lighter slots params t _ (number_of t) (term_right [] [] slots params t)

truth_lighter : (slots params : ℕ → ℕ) (f : CForm) (m : Option Bool) → form_weight slots params (truth_or m f) ≤
    form_weight slots params f
truth_lighter slots params f None = omega arith
truth_lighter slots params f (Some true) = omega (arith, weight-Top slots params)
truth_lighter slots params f (Some false) = omega (arith, weight-Bottom slots params)

pub folded_form_lighter : (slots params : ℕ → ℕ) (f : CForm) → form_weight slots params (folded_form f) ≤ form_weight
    slots params f
folded_form_lighter slots params f = truth_lighter slots params f (truth_of f)

pub own_folded_term : (t : CTerm) → (plain_weights (folded_term t)).own ≤ (plain_weights t).own
own_folded_term t = (folded_lighter one_weight one_weight t).0

pub most_folded_term : (t : CTerm) → (plain_weights (folded_term t)).most ≤ (plain_weights t).most
most_folded_term t = (folded_lighter one_weight one_weight t).1

pub weight_folded_form : (f : CForm) → plain_weight (folded_form f) ≤ plain_weight f
weight_folded_form f = folded_form_lighter one_weight one_weight f
