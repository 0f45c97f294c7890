-- The load of a formula is at most its weight.
use Rattle.std.proofs.Common.{ℕ, ◌^◌, ◌≤◌, List, All, slice_index_or, sym, subst, le_refl, arith}
use Rattle.std.proofs.Math.Nat.{mul-le-mul_left}
use Rattle.std.specs.Int.RustNames.{unsigned_abs}
use Rattle.core_terms.specs.declared.trees.CTerm.{CTerm, roll-CTerm, fold-roll-CTerm}
use Rattle.core_terms.specs.declared.trees.CForm.{CForm, roll-CForm, ind-CForm, fold-roll-CForm}
use Rattle.core_terms.specs.declared.trees.CForm.TheOpen.{CTerm-F, CForm-F}
use Rattle.core_terms.specs.declared.trees.CForm.TheFolds.{map-CForm, map-CTerm}
use Rattle.core_terms.specs.Weights.{Weights, one_weight, weigh_term, weigh_form, term_weights, form_weight}
use Rattle.core_terms.specs.Weights.{plain_weight}
use Rattle.obligations.specs.Load.{Load, term_load_step, form_load_step, term_load, form_load}

-- loads within weights
abbrev Light : Load → Weights → Type 0
Light l w = (l.own ≤ w.own) × (l.most ≤ w.most) × (w.own ≤ w.most)

-- for weights of slots and of parameters that are at least 1
module _ (slots params : ℕ → ℕ) (some_slot : (n : ℕ) → 1 ≤ slots n) (some_param : (n : ℕ) → 1 ≤ params n) where
  abbrev FormLight : CForm → Type 0
  FormLight f = form_load f ≤ form_weight slots params f

  abbrev TermLight : CTerm → Type 0
  TermLight t = Light (term_load t) (term_weights slots params t)

  abbrev LightForm : Type 0
  LightForm = (f : CForm) × FormLight f

  abbrev LightTerm : Type 0
  LightTerm = (t : CTerm) × TermLight t

  rolled_form : (x : CForm-F CForm CTerm) →
      form_load_step (map-CForm CForm CTerm ℕ Load form_load term_load x) ≤ weigh_form
      (map-CForm CForm CTerm ℕ Weights (form_weight slots params) (term_weights slots params) x) →
      FormLight (roll-CForm x)
  rolled_form x h =
      subst (λ n. n ≤ form_weight slots params (roll-CForm x))
      (sym (fold-roll-CForm ℕ Load form_load_step term_load_step x))
      (subst (λ n. form_load_step (map-CForm CForm CTerm ℕ Load form_load term_load x) ≤ n)
      (sym (fold-roll-CForm ℕ Weights weigh_form (weigh_term slots params) x)) h)

  rolled_term : (x : CTerm-F CForm CTerm) →
      Light (term_load_step (map-CTerm CForm CTerm ℕ Load form_load term_load x))
      (weigh_term slots params
      (map-CTerm CForm CTerm ℕ Weights (form_weight slots params) (term_weights slots params) x)) →
      TermLight (roll-CTerm x)
  rolled_term x h =
      subst (λ l. Light l (term_weights slots params (roll-CTerm x)))
      (sym (fold-roll-CTerm ℕ Load form_load_step term_load_step x))
      (subst (λ w. Light (term_load_step (map-CTerm CForm CTerm ℕ Load form_load term_load x)) w)
      (sym (fold-roll-CTerm ℕ Weights weigh_form (weigh_term slots params) x)) h)

  form_layer : (y : CForm-F LightForm LightTerm) →
      FormLight (roll-CForm (map-CForm LightForm LightTerm CForm CTerm (λ e. e.0) (λ e. e.0) y))
  form_layer CForm-F.Top = rolled_form CForm-F.Top (omega arith)
  form_layer CForm-F.Bottom = rolled_form CForm-F.Bottom (omega arith)
  form_layer (CForm-F.AtLeast t) = rolled_form (CForm-F.AtLeast t.0) (omega (arith, t.1.0, t.1.1, t.1.2))
  form_layer (CForm-F.Zero t) = rolled_form (CForm-F.Zero t.0) (omega (arith, t.1.0, t.1.1, t.1.2))
  form_layer (CForm-F.Not f) = rolled_form (CForm-F.Not f.0) f.1
  form_layer (CForm-F.And f g) = rolled_form (CForm-F.And f.0 g.0) (omega (arith, f.1, g.1))
  form_layer (CForm-F.Or f g) = rolled_form (CForm-F.Or f.0 g.0) (omega (arith, f.1, g.1))

  term_layer : (y : CTerm-F LightForm LightTerm) →
      TermLight (roll-CTerm (map-CTerm LightForm LightTerm CForm CTerm (λ e. e.0) (λ e. e.0) y))
  term_layer (CTerm-F.Const c) = rolled_term (CTerm-F.Const c) (omega arith, omega arith, omega arith)
  term_layer (CTerm-F.Slot n) = rolled_term (CTerm-F.Slot n) (some_slot n, omega arith, omega arith)
  term_layer (CTerm-F.Param n) = rolled_term (CTerm-F.Param n) (some_param n, omega arith, omega arith)
  term_layer (CTerm-F.Add a b) =
      rolled_term (CTerm-F.Add a.0 b.0) (omega (arith, a.1.0, b.1.0), omega (arith, a.1.1, b.1.1), omega arith)
  term_layer (CTerm-F.Sub a b) =
      rolled_term (CTerm-F.Sub a.0 b.0) (omega (arith, a.1.0, b.1.0), omega (arith, a.1.1, b.1.1), omega arith)
  term_layer (CTerm-F.Scale k a) =
      let part = mul-le-mul_left (unsigned_abs k) a.1.0 in
      rolled_term (CTerm-F.Scale k a.0) (part, omega (arith, a.1.1), omega arith)
  term_layer (CTerm-F.Ite c a b) =
      rolled_term (CTerm-F.Ite c.0 a.0 b.0)
      (omega (arith, a.1.0, b.1.0), omega (arith, c.1, a.1.1, b.1.1), omega arith)
  term_layer (CTerm-F.Div a k) =
      rolled_term (CTerm-F.Div a.0 k) (omega (arith, a.1.0), omega (arith, a.1.0, a.1.1, a.1.2), omega arith)
  term_layer (CTerm-F.Mod a k) =
      rolled_term (CTerm-F.Mod a.0 k) (omega (arith, a.1.0), omega (arith, a.1.0, a.1.1, a.1.2), omega arith)

  pub load_below_weight : (f : CForm) → form_load f ≤ form_weight slots params f
  load_below_weight f =
      ind-CForm FormLight TermLight (λ x y e. subst (λ z. FormLight (roll-CForm z)) e (form_layer y))
      (λ x y e. subst (λ z. TermLight (roll-CTerm z)) e (term_layer y)) f

-- formulas of small weights have small loads
pub all_light : (fs : List CForm) → All (λ f. plain_weight f ≤ 2 ^ 40) fs → All (λ f. form_load f ≤ 2 ^ 62) fs
all_light fs all k d h =
    let weight = all k d h in
    let light = load_below_weight one_weight one_weight (λ n. le_refl 1) (λ n. le_refl 1) (slice_index_or fs k d) in
    omega (arith, light, weight)
