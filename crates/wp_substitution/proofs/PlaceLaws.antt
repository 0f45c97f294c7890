-- What formulas name: folding and replacing bring in no slot and no parameter.
use Rattle.std.proofs.Common.{◌≡◌, ℕ, ◌≤◌, max, ℤ, Bool, true, false, cond, Option, Some, None, sym, ap, ◌∙◌, subst}
use Rattle.std.proofs.Common.{arith}
use Rattle.core_terms.specs.declared.trees.CTerm.{CTerm, roll-CTerm, fold-CTerm, fold-roll-CTerm}
use Rattle.core_terms.specs.declared.trees.CTerm.TheVariants.{Const, Slot, Param, Add, Sub, Scale, Div, Mod, Ite}
use Rattle.core_terms.specs.declared.trees.CTerm.TheVariants.{rolls-Const, rolls-Slot, rolls-Param, rolls-Add}
use Rattle.core_terms.specs.declared.trees.CTerm.TheVariants.{rolls-Sub, rolls-Scale, rolls-Div, rolls-Mod, rolls-Ite}
use Rattle.core_terms.specs.declared.trees.CForm.{CForm, roll-CForm, ind-CForm, fold-CForm, fold-roll-CForm}
use Rattle.core_terms.specs.declared.trees.CForm.TheVariants.{Top, Bottom, AtLeast, Zero, Not, And, Or, rolls-Top}
use Rattle.core_terms.specs.declared.trees.CForm.TheVariants.{rolls-Bottom, rolls-AtLeast, rolls-Zero, rolls-Not}
use Rattle.core_terms.specs.declared.trees.CForm.TheVariants.{rolls-And, rolls-Or}
use Rattle.core_terms.specs.declared.trees.CForm.TheOpen.{CTerm-F, CForm-F}
use Rattle.core_terms.specs.declared.trees.CForm.TheFolds.{map-CForm, map-CTerm}
use Rattle.core_terms.specs.Places.{greatest_part}
use Rattle.core_terms.specs.Folding.{number_of, truth_of, is_small, constant_or, truth_or, branch_or, sum_term}
use Rattle.core_terms.specs.Folding.{difference_term, scaled_term, quotient_term, remainder_term, choice_term}
use Rattle.core_terms.specs.Folding.{at_least_form, zero_form, not_form, and_form, or_form}
use Rattle.core_terms.specs.Replacing.{replace_term, replace_form, term_with, form_with}

-- what is counted of a term: nothing of a constant, and else the greatest of its parts
pub record Counts (step : CTerm-F ℕ ℕ → ℕ) : Type 0 where
  pub constant : (c : ℤ) → step (CTerm-F.Const c) ≡ 0
  pub sum : (a b : ℕ) → step (CTerm-F.Add a b) ≡ max a b
  pub difference : (a b : ℕ) → step (CTerm-F.Sub a b) ≡ max a b
  pub multiple : (k : ℤ) (a : ℕ) → step (CTerm-F.Scale k a) ≡ a
  pub quotient : (k : ℤ) (a : ℕ) → step (CTerm-F.Div a k) ≡ a
  pub remainder : (k : ℤ) (a : ℕ) → step (CTerm-F.Mod a k) ≡ a
  pub choice : (c a b : ℕ) → step (CTerm-F.Ite c a b) ≡ max c (max a b)

module _ (step : CTerm-F ℕ ℕ → ℕ) (counts : Counts step) where
  abbrev F : CForm → ℕ
  F = fold-CForm ℕ ℕ greatest_part step

  abbrev T : CTerm → ℕ
  T = fold-CTerm ℕ ℕ greatest_part step

  count-Const : (c : ℤ) → T (Const c) ≡ 0
  count-Const c =
      ap T (sym (rolls-Const c)) ∙ fold-roll-CTerm ℕ ℕ greatest_part step (CTerm-F.Const c) ∙ counts.constant c

  pub count-Slot : (n : ℕ) → T (Slot n) ≡ step (CTerm-F.Slot n)
  count-Slot n = ap T (sym (rolls-Slot n)) ∙ fold-roll-CTerm ℕ ℕ greatest_part step (CTerm-F.Slot n)

  pub count-Param : (n : ℕ) → T (Param n) ≡ step (CTerm-F.Param n)
  count-Param n = ap T (sym (rolls-Param n)) ∙ fold-roll-CTerm ℕ ℕ greatest_part step (CTerm-F.Param n)

  count-Add : (a b : CTerm) → T (Add a b) ≡ max (T a) (T b)
  count-Add a b =
      ap T (sym (rolls-Add a b)) ∙ fold-roll-CTerm ℕ ℕ greatest_part step (CTerm-F.Add a b) ∙ counts.sum (T a) (T b)

  count-Sub : (a b : CTerm) → T (Sub a b) ≡ max (T a) (T b)
  count-Sub a b =
      ap T (sym (rolls-Sub a b)) ∙ fold-roll-CTerm ℕ ℕ greatest_part step (CTerm-F.Sub a b)
      ∙ counts.difference (T a) (T b)

  count-Scale : (k : ℤ) (a : CTerm) → T (Scale k a) ≡ T a
  count-Scale k a =
      ap T (sym (rolls-Scale k a)) ∙ fold-roll-CTerm ℕ ℕ greatest_part step (CTerm-F.Scale k a)
      ∙ counts.multiple k (T a)

  count-Div : (k : ℤ) (a : CTerm) → T (Div a k) ≡ T a
  count-Div k a =
      ap T (sym (rolls-Div a k)) ∙ fold-roll-CTerm ℕ ℕ greatest_part step (CTerm-F.Div a k)
      ∙ counts.quotient k (T a)

  count-Mod : (k : ℤ) (a : CTerm) → T (Mod a k) ≡ T a
  count-Mod k a =
      ap T (sym (rolls-Mod a k)) ∙ fold-roll-CTerm ℕ ℕ greatest_part step (CTerm-F.Mod a k)
      ∙ counts.remainder k (T a)

  count-Ite : (c : CForm) (a b : CTerm) → T (Ite c a b) ≡ max (F c) (max (T a) (T b))
  count-Ite c a b =
      ap T (sym (rolls-Ite c a b)) ∙ fold-roll-CTerm ℕ ℕ greatest_part step (CTerm-F.Ite c a b)
      ∙ counts.choice (F c) (T a) (T b)

  count-Top : F Top ≡ 0
  count-Top = ap F (sym rolls-Top) ∙ fold-roll-CForm ℕ ℕ greatest_part step CForm-F.Top

  count-Bottom : F Bottom ≡ 0
  count-Bottom = ap F (sym rolls-Bottom) ∙ fold-roll-CForm ℕ ℕ greatest_part step CForm-F.Bottom

  count-AtLeast : (t : CTerm) → F (AtLeast t) ≡ T t
  count-AtLeast t = ap F (sym (rolls-AtLeast t)) ∙ fold-roll-CForm ℕ ℕ greatest_part step (CForm-F.AtLeast t)

  count-Zero : (t : CTerm) → F (Zero t) ≡ T t
  count-Zero t = ap F (sym (rolls-Zero t)) ∙ fold-roll-CForm ℕ ℕ greatest_part step (CForm-F.Zero t)

  count-Not : (f : CForm) → F (Not f) ≡ F f
  count-Not f = ap F (sym (rolls-Not f)) ∙ fold-roll-CForm ℕ ℕ greatest_part step (CForm-F.Not f)

  count-And : (f g : CForm) → F (And f g) ≡ max (F f) (F g)
  count-And f g = ap F (sym (rolls-And f g)) ∙ fold-roll-CForm ℕ ℕ greatest_part step (CForm-F.And f g)

  count-Or : (f g : CForm) → F (Or f g) ≡ max (F f) (F g)
  count-Or f g = ap F (sym (rolls-Or f g)) ∙ fold-roll-CForm ℕ ℕ greatest_part step (CForm-F.Or f g)

  constant_counts : (t : CTerm) (m : Option ℤ) → T (constant_or m t) ≤ T t
  constant_counts t None = omega arith
  constant_counts t (Some z) = elim (is_small z) as (λ b. T (cond b (Const z) t) ≤ T t) [
    | true ↦ omega (arith, count-Const z)
    | false ↦ omega arith
  ]

  truth_counts : (f : CForm) (m : Option Bool) → F (truth_or m f) ≤ F f
  truth_counts f None = omega arith
  truth_counts f (Some true) = omega (arith, count-Top)
  truth_counts f (Some false) = omega (arith, count-Bottom)

  branch_counts : (c : CForm) (a b : CTerm) (m : Option Bool) →
      T (branch_or m a b (Ite c a b)) ≤ max (F c) (max (T a) (T b))
  branch_counts c a b None = omega (arith, count-Ite c a b)
  branch_counts c a b (Some true) = omega arith
  branch_counts c a b (Some false) = omega arith

  module _ (limit : ℕ) where
    sum_within : (a b : CTerm) → T a ≤ limit → T b ≤ limit → T (sum_term a b) ≤ limit
    sum_within a b h k = omega (arith, constant_counts (Add a b) (number_of (Add a b)), count-Add a b, h, k)

    pub difference_within : (a b : CTerm) → T a ≤ limit → T b ≤ limit → T (difference_term a b) ≤ limit
    difference_within a b h k = omega (arith, constant_counts (Sub a b) (number_of (Sub a b)), count-Sub a b, h, k)

    pub constant_within : (c : ℤ) → T (Const c) ≤ limit
    constant_within c = omega (arith, count-Const c)

    multiple_within : (k : ℤ) (a : CTerm) → T a ≤ limit → T (scaled_term k a) ≤ limit
    multiple_within k a h = omega (arith, constant_counts (Scale k a) (number_of (Scale k a)), count-Scale k a, h)

    quotient_within : (k : ℤ) (a : CTerm) → T a ≤ limit → T (quotient_term k a) ≤ limit
    quotient_within k a h = omega (arith, constant_counts (Div a k) (number_of (Div a k)), count-Div k a, h)

    remainder_within : (k : ℤ) (a : CTerm) → T a ≤ limit → T (remainder_term k a) ≤ limit
    remainder_within k a h = omega (arith, constant_counts (Mod a k) (number_of (Mod a k)), count-Mod k a, h)

    pub choice_within : (c : CForm) (a b : CTerm) → F c ≤ limit → T a ≤ limit → T b ≤ limit →
        T (choice_term c a b) ≤ limit
    choice_within c a b g h k = omega (arith, branch_counts c a b (truth_of c), g, h, k)

    pub at_least_within : (t : CTerm) → T t ≤ limit → F (at_least_form t) ≤ limit
    at_least_within t h = omega (arith, truth_counts (AtLeast t) (truth_of (AtLeast t)), count-AtLeast t, h)

    pub zero_within : (t : CTerm) → T t ≤ limit → F (zero_form t) ≤ limit
    zero_within t h = omega (arith, truth_counts (Zero t) (truth_of (Zero t)), count-Zero t, h)

    pub not_within : (f : CForm) → F f ≤ limit → F (not_form f) ≤ limit
    not_within f h = omega (arith, truth_counts (Not f) (truth_of (Not f)), count-Not f, h)

    pub and_within : (f g : CForm) → F f ≤ limit → F g ≤ limit → F (and_form f g) ≤ limit
    and_within f g h k = omega (arith, truth_counts (And f g) (truth_of (And f g)), count-And f g, h, k)

    pub or_within : (f g : CForm) → F f ≤ limit → F g ≤ limit → F (or_form f g) ≤ limit
    or_within f g h k = omega (arith, truth_counts (Or f g) (truth_of (Or f g)), count-Or f g, h, k)

    pub top_within : F Top ≤ limit
    top_within = omega (arith, count-Top)

    pub bottom_within : F Bottom ≤ limit
    bottom_within = omega (arith, count-Bottom)

    module _ (slots names : ℕ → CTerm) (slot_is : (n : ℕ) → step (CTerm-F.Slot n) ≤ limit → T (slots n) ≤ limit)
        (name_is : (n : ℕ) → step (CTerm-F.Param n) ≤ limit → T (names n) ≤ limit) where
      abbrev FormKept : CForm → Type 0
      FormKept f = F f ≤ limit → F (form_with slots names f) ≤ limit

      abbrev TermKept : CTerm → Type 0
      TermKept t = T t ≤ limit → T (term_with slots names t) ≤ limit

      abbrev KeptForm : Type 0
      KeptForm = (f : CForm) × FormKept f

      abbrev KeptTerm : Type 0
      KeptTerm = (t : CTerm) × TermKept t

      rolled_form : (x : CForm-F CForm CTerm) → (greatest_part (map-CForm CForm CTerm ℕ ℕ F T x) ≤ limit →
          F (replace_form (map-CForm CForm CTerm CForm CTerm (form_with slots names)
          (term_with slots names) x)) ≤ limit) →
          FormKept (roll-CForm x)
      rolled_form x h k =
          subst (λ g. F g ≤ limit) (sym (fold-roll-CForm CForm CTerm replace_form (replace_term slots names) x))
          (h (subst (λ n. n ≤ limit) (fold-roll-CForm ℕ ℕ greatest_part step x) k))

      rolled_term : (x : CTerm-F CForm CTerm) → (step (map-CTerm CForm CTerm ℕ ℕ F T x) ≤ limit →
          T (replace_term slots names (map-CTerm CForm CTerm CForm CTerm (form_with slots names)
          (term_with slots names) x)) ≤ limit) →
          TermKept (roll-CTerm x)
      rolled_term x h k =
          subst (λ g. T g ≤ limit) (sym (fold-roll-CTerm CForm CTerm replace_form (replace_term slots names) x))
          (h (subst (λ n. n ≤ limit) (fold-roll-CTerm ℕ ℕ greatest_part step x) k))

      form_layer : (y : CForm-F KeptForm KeptTerm) →
          FormKept (roll-CForm (map-CForm KeptForm KeptTerm CForm CTerm (λ e. e.0) (λ e. e.0) y))
      form_layer CForm-F.Top = rolled_form CForm-F.Top (λ h. top_within)
      form_layer CForm-F.Bottom = rolled_form CForm-F.Bottom (λ h. bottom_within)
      form_layer (CForm-F.AtLeast t) = rolled_form (CForm-F.AtLeast t.0) (λ h. at_least_within _ (t.1 h))
      form_layer (CForm-F.Zero t) = rolled_form (CForm-F.Zero t.0) (λ h. zero_within _ (t.1 h))
      form_layer (CForm-F.Not f) = rolled_form (CForm-F.Not f.0) (λ h. not_within _ (f.1 h))
      form_layer (CForm-F.And f g) =
          rolled_form (CForm-F.And f.0 g.0)
          (λ h. and_within _ _ (f.1 (omega (arith, h))) (g.1 (omega (arith, h))))
      form_layer (CForm-F.Or f g) =
          rolled_form (CForm-F.Or f.0 g.0)
          (λ h. or_within _ _ (f.1 (omega (arith, h))) (g.1 (omega (arith, h))))

      term_layer : (y : CTerm-F KeptForm KeptTerm) →
          TermKept (roll-CTerm (map-CTerm KeptForm KeptTerm CForm CTerm (λ e. e.0) (λ e. e.0) y))
      term_layer (CTerm-F.Const c) = rolled_term (CTerm-F.Const c) (λ h. constant_within c)
      term_layer (CTerm-F.Slot n) = rolled_term (CTerm-F.Slot n) (λ h. slot_is n h)
      term_layer (CTerm-F.Param n) = rolled_term (CTerm-F.Param n) (λ h. name_is n h)
      term_layer (CTerm-F.Add a b) =
          rolled_term (CTerm-F.Add a.0 b.0)
          (λ h. let e = counts.sum (T a.0) (T b.0) in
          sum_within _ _ (a.1 (omega (arith, h, e))) (b.1 (omega (arith, h, e))))
      term_layer (CTerm-F.Sub a b) =
          rolled_term (CTerm-F.Sub a.0 b.0)
          (λ h. let e = counts.difference (T a.0) (T b.0) in
          difference_within _ _ (a.1 (omega (arith, h, e))) (b.1 (omega (arith, h, e))))
      term_layer (CTerm-F.Scale k a) =
          rolled_term (CTerm-F.Scale k a.0)
          (λ h. multiple_within k _ (a.1 (omega (arith, h, counts.multiple k (T a.0)))))
      term_layer (CTerm-F.Div a k) =
          rolled_term (CTerm-F.Div a.0 k)
          (λ h. quotient_within k _ (a.1 (omega (arith, h, counts.quotient k (T a.0)))))
      term_layer (CTerm-F.Mod a k) =
          rolled_term (CTerm-F.Mod a.0 k)
          (λ h. remainder_within k _ (a.1 (omega (arith, h, counts.remainder k (T a.0)))))
      term_layer (CTerm-F.Ite c a b) =
          rolled_term (CTerm-F.Ite c.0 a.0 b.0)
          (λ h. let e = counts.choice (F c.0) (T a.0) (T b.0) in
          choice_within _ _ _ (c.1 (omega (arith, h, e))) (a.1 (omega (arith, h, e))) (b.1 (omega (arith, h, e))))

      pub form_within : (f : CForm) → FormKept f
      form_within f =
          ind-CForm FormKept TermKept (λ x y e. subst (λ z. FormKept (roll-CForm z)) e (form_layer y))
          (λ x y e. subst (λ z. TermKept (roll-CTerm z)) e (term_layer y)) f
