-- A tree with its slots and parameters replaced weighs at most what it does where they weigh as the terms.
use Rattle.std.proofs.Common.{◌≡◌, ℕ, ◌*◌, ◌^◌, ◌≤◌, max, ℤ, Bool, true, false, Option, Some, None, sym, subst, arith}
use Rattle.std.proofs.Math.Nat.{mul-le-mul_left}
use Rattle.std.specs.Int.RustNames.{unsigned_abs}
use Rattle.core_terms.specs.declared.trees.CTerm.{CTerm}
use Rattle.core_terms.specs.declared.trees.CTerm.TheVariants.{Const, Add, Sub, Scale, Div, Mod, Ite, rolls-Add}
use Rattle.core_terms.specs.declared.trees.CTerm.TheVariants.{rolls-Sub, rolls-Scale, rolls-Div, rolls-Mod, rolls-Ite}
use Rattle.core_terms.specs.declared.trees.CForm.{CForm}
use Rattle.core_terms.specs.declared.trees.CForm.TheVariants.{AtLeast, Zero, Not, And, Or, rolls-AtLeast, rolls-Zero}
use Rattle.core_terms.specs.declared.trees.CForm.TheVariants.{rolls-Not, rolls-And, rolls-Or}
use Rattle.core_terms.specs.declared.trees.CForm.TheOpen.{CTerm-F, CForm-F}
use Rattle.core_terms.specs.Weights.{Weights, weighing, term_weights, form_weight, sum_weights, multiple_weights}
use Rattle.core_terms.specs.Weights.{quotient_weights, remainder_weights, choice_weights, one_weight, plain_weights}
use Rattle.core_terms.specs.Folding.{truth_of, branch_or, sum_term, difference_term, scaled_term, quotient_term}
use Rattle.core_terms.specs.Folding.{remainder_term, choice_term, at_least_form, zero_form, not_form, and_form, or_form}
use Rattle.core_terms.specs.Replacing.{term_with, form_with}
use Rattle.core_terms.proofs.TreeFolds.{fold_form_is, fold_term_is, FormsKeep, TermsKeep, forms_related, terms_related}
use Rattle.core_terms.proofs.HeavierLaws.{weight_steps}
use Rattle.core_terms.proofs.QuotientLaws.{divisor_within}
use Rattle.core_terms.proofs.ReplacingLaws.{replace_steps}
use Rattle.core_terms.proofs.WeightLaws.{Lighter, own_within, folded_lighter, folded_form_lighter, weights-Const}
use Rattle.core_terms.proofs.WeightLaws.{weight-Top, weight-Bottom}

module _ (slots params : ℕ → ℕ) where
  abbrev W : CTerm → Weights
  W t = term_weights slots params t

  abbrev V : CForm → ℕ
  V f = form_weight slots params f

  pub weights-Add : (a b : CTerm) → W (Add a b) ≡ sum_weights (W a) (W b)
  weights-Add a b = fold_term_is (weight_steps slots params) _ _ (rolls-Add a b)

  pub weights-Sub : (a b : CTerm) → W (Sub a b) ≡ sum_weights (W a) (W b)
  weights-Sub a b = fold_term_is (weight_steps slots params) _ _ (rolls-Sub a b)

  weights-Scale : (k : ℤ) (a : CTerm) → W (Scale k a) ≡ multiple_weights k (W a)
  weights-Scale k a = fold_term_is (weight_steps slots params) _ _ (rolls-Scale k a)

  weights-Div : (k : ℤ) (a : CTerm) → W (Div a k) ≡ quotient_weights k (W a)
  weights-Div k a = fold_term_is (weight_steps slots params) _ _ (rolls-Div a k)

  weights-Mod : (k : ℤ) (a : CTerm) → W (Mod a k) ≡ remainder_weights k (W a)
  weights-Mod k a = fold_term_is (weight_steps slots params) _ _ (rolls-Mod a k)

  weights-Ite : (c : CForm) (a b : CTerm) → W (Ite c a b) ≡ choice_weights (V c) (W a) (W b)
  weights-Ite c a b = fold_term_is (weight_steps slots params) _ _ (rolls-Ite c a b)

  weight-AtLeast : (t : CTerm) → V (AtLeast t) ≡ (W t).most
  weight-AtLeast t = fold_form_is (weight_steps slots params) _ _ (rolls-AtLeast t)

  weight-Zero : (t : CTerm) → V (Zero t) ≡ (W t).most
  weight-Zero t = fold_form_is (weight_steps slots params) _ _ (rolls-Zero t)

  weight-Not : (f : CForm) → V (Not f) ≡ V f
  weight-Not f = fold_form_is (weight_steps slots params) _ _ (rolls-Not f)

  weight-And : (f g : CForm) → V (And f g) ≡ max (V f) (V g)
  weight-And f g = fold_form_is (weight_steps slots params) _ _ (rolls-And f g)

  weight-Or : (f g : CForm) → V (Or f g) ≡ max (V f) (V g)
  weight-Or f g = fold_form_is (weight_steps slots params) _ _ (rolls-Or f g)

  constant_lighter : (c : ℤ) → Lighter (W (Const c)) (weighing (unsigned_abs c) 0)
  constant_lighter c = subst (λ w. Lighter w (weighing (unsigned_abs c) 0)) (sym (weights-Const slots params c))
      (omega arith, omega arith)

  -- what each constructor makes weighs at most what bounds of its parts give
  sum_lighter : (a b : CTerm) (v w : Weights) → Lighter (W a) v → Lighter (W b) w → Lighter (W (sum_term a b))
      (sum_weights v w)
  sum_lighter a b v w h k =
      let f = subst (λ x. Lighter (W (sum_term a b)) x) (weights-Add a b) (folded_lighter slots params (Add a b)) in
      (omega (arith, f.0, h.0, k.0), omega (arith, f.1, h.0, h.1, k.0, k.1))

  pub difference_lighter : (a b : CTerm) (v w : Weights) → Lighter (W a) v → Lighter (W b) w → Lighter
      (W (difference_term a b)) (sum_weights v w)
  difference_lighter a b v w h k =
      let f = subst (λ x. Lighter (W (difference_term a b)) x) (weights-Sub a b) (folded_lighter slots params (Sub a b))
      in
      (omega (arith, f.0, h.0, k.0), omega (arith, f.1, h.0, h.1, k.0, k.1))

  multiple_lighter : (k : ℤ) (a : CTerm) (v : Weights) → Lighter (W a) v → Lighter (W (scaled_term k a))
      (multiple_weights k v)
  multiple_lighter k a v h =
      let f = subst (λ x. Lighter (W (scaled_term k a)) x) (weights-Scale k a) (folded_lighter slots params (Scale k a))
      in
      let more : unsigned_abs k * (W a).own ≤ unsigned_abs k * v.own = mul-le-mul_left (unsigned_abs k) h.0 in
      (omega (arith, f.0, more), omega (arith, f.1, more, h.1))

  quotient_lighter : (k : ℤ) (a : CTerm) (v : Weights) → Lighter (W a) v → Lighter (W (quotient_term k a))
      (quotient_weights k v)
  quotient_lighter k a v h =
      let f = subst (λ x. Lighter (W (quotient_term k a)) x) (weights-Div k a) (folded_lighter slots params (Div a k))
      in
      (omega (arith, f.0, h.0), omega (arith, f.1, h.0, h.1))

  remainder_lighter : (k : ℤ) (a : CTerm) (v : Weights) → Lighter (W a) v → Lighter (W (remainder_term k a))
      (remainder_weights k v)
  remainder_lighter k a v h =
      let f = subst (λ x. Lighter (W (remainder_term k a)) x) (weights-Mod k a) (folded_lighter slots params (Mod a k))
      in
      (omega (arith, f.0, h.0), omega (arith, f.1, h.0, h.1))

  pub branch_lighter : (c : CForm) (a b : CTerm) (n : ℕ) (v w : Weights) (m : Option Bool) → V c ≤ n → Lighter (W a) v →
      Lighter (W b) w →
      Lighter (W (branch_or m a b (Ite c a b))) (choice_weights n v w)
  branch_lighter c a b n v w None g h k =
      subst (λ x. Lighter x (choice_weights n v w)) (sym (weights-Ite c a b))
      (omega (arith, h.0, k.0), omega (arith, g, h.0, h.1, k.0, k.1))
  branch_lighter c a b n v w (Some true) g h k = (omega (arith, h.0), omega (arith, h.1))
  branch_lighter c a b n v w (Some false) g h k = (omega (arith, k.0), omega (arith, k.1))

  pub choice_lighter : (c : CForm) (a b : CTerm) (n : ℕ) (v w : Weights) → V c ≤ n → Lighter (W a) v → Lighter (W b) w →
      Lighter (W (choice_term c a b)) (choice_weights n v w)
  choice_lighter c a b n v w g h k = branch_lighter c a b n v w (truth_of c) g h k

  pub at_least_lighter : (t : CTerm) (n : ℕ) → (W t).most ≤ n → V (at_least_form t) ≤ n
  at_least_lighter t n h = omega (arith, folded_form_lighter slots params (AtLeast t), weight-AtLeast t, h)

  pub zero_lighter : (t : CTerm) (n : ℕ) → (W t).most ≤ n → V (zero_form t) ≤ n
  zero_lighter t n h = omega (arith, folded_form_lighter slots params (Zero t), weight-Zero t, h)

  pub not_lighter : (f : CForm) (n : ℕ) → V f ≤ n → V (not_form f) ≤ n
  not_lighter f n h = omega (arith, folded_form_lighter slots params (Not f), weight-Not f, h)

  pub and_lighter : (f g : CForm) (m n : ℕ) → V f ≤ m → V g ≤ n → V (and_form f g) ≤ max m n
  and_lighter f g m n h k = omega (arith, folded_form_lighter slots params (And f g), weight-And f g, h, k)

  pub or_lighter : (f g : CForm) (m n : ℕ) → V f ≤ m → V g ≤ n → V (or_form f g) ≤ max m n
  or_lighter f g m n h k = omega (arith, folded_form_lighter slots params (Or f g), weight-Or f g, h, k)

-- a quotient weighs little where its part and the divisor do
pub quotient_little : (k : ℤ) (a : CTerm) → unsigned_abs k ≤ 2 ^ 63 → (plain_weights a).most ≤ 2 ^ 126 →
    (plain_weights (Div a k)).most ≤ 2 ^ 126
quotient_little k a h w =
    let within = own_within one_weight one_weight a in
    let divides = divisor_within k in
    subst (λ (v : Weights). v.most ≤ 2 ^ 126) (sym (weights-Div one_weight one_weight k a))
    (omega (arith, within, divides, h, w))

module _ (slots params after numbers : ℕ → ℕ) (terms names : ℕ → CTerm)
    (slot_is : (n : ℕ) → (term_weights slots params (terms n)).most ≤ after n)
    (param_is : (n : ℕ) → (term_weights slots params (names n)).most ≤ numbers n) where
  -- a replaced tree weighs at most so much
  abbrev FormLess : CForm → ℕ → Type 0
  FormLess f n = form_weight slots params f ≤ n

  abbrev TermLess : CTerm → Weights → Type 0
  TermLess t w = Lighter (term_weights slots params t) w

  -- also one that is put for a slot or a parameter
  place_less : (t : CTerm) (n : ℕ) → (term_weights slots params t).most ≤ n → TermLess t (weighing n 0)
  place_less t n h = (omega (arith, h, own_within slots params t), omega (arith, h))

  form_less : FormsKeep (replace_steps terms names) (weight_steps after numbers) FormLess TermLess
  form_less CForm-F.Top = omega (arith, weight-Top slots params)
  form_less CForm-F.Bottom = omega (arith, weight-Bottom slots params)
  form_less (CForm-F.AtLeast t) = at_least_lighter slots params _ _ t.1.1
  form_less (CForm-F.Zero t) = zero_lighter slots params _ _ t.1.1
  form_less (CForm-F.Not f) = not_lighter slots params _ _ f.1
  form_less (CForm-F.And f g) = and_lighter slots params _ _ _ _ f.1 g.1
  form_less (CForm-F.Or f g) = or_lighter slots params _ _ _ _ f.1 g.1

  term_less : TermsKeep (replace_steps terms names) (weight_steps after numbers) FormLess TermLess
  term_less (CTerm-F.Const c) = constant_lighter slots params c
  term_less (CTerm-F.Slot n) = place_less (terms n) (after n) (slot_is n)
  term_less (CTerm-F.Param n) = place_less (names n) (numbers n) (param_is n)
  term_less (CTerm-F.Add a b) = sum_lighter slots params _ _ _ _ a.1 b.1
  term_less (CTerm-F.Sub a b) = difference_lighter slots params _ _ _ _ a.1 b.1
  term_less (CTerm-F.Scale k a) = multiple_lighter slots params k _ _ a.1
  term_less (CTerm-F.Div a k) = quotient_lighter slots params k _ _ a.1
  term_less (CTerm-F.Mod a k) = remainder_lighter slots params k _ _ a.1
  term_less (CTerm-F.Ite c a b) = choice_lighter slots params _ _ _ _ _ _ c.1 a.1 b.1

  pub form_lighter : (f : CForm) → form_weight slots params (form_with terms names f) ≤ form_weight after numbers f
  form_lighter f =
      forms_related (replace_steps terms names) (weight_steps after numbers) FormLess TermLess form_less term_less f

  pub term_lighter : (t : CTerm) → Lighter (term_weights slots params (term_with terms names t))
      (term_weights after numbers t)
  term_lighter t =
      terms_related (replace_steps terms names) (weight_steps after numbers) FormLess TermLess form_less term_less t
