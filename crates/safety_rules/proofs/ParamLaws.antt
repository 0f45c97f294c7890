-- Which parameters a formula names, with arguments put for its parameters.
use Rattle.std.proofs.Common.{◌≡◌, ℕ, ◌+◌, ◌≤◌, max, ℤ, true, false, cond, Option, Some, None, sym, ap, ◌∙◌, subst}
use Rattle.std.proofs.Common.{arith}
use Rattle.core_terms.specs.declared.trees.CTerm.{CTerm, roll-CTerm, fold-roll-CTerm}
use Rattle.core_terms.specs.declared.trees.CTerm.TheVariants.{Const, Add, Scale, Div, Mod, rolls-Add, rolls-Scale}
use Rattle.core_terms.specs.declared.trees.CTerm.TheVariants.{rolls-Div, rolls-Mod}
use Rattle.core_terms.specs.declared.trees.CForm.{CForm, roll-CForm, ind-CForm, fold-roll-CForm}
use Rattle.core_terms.specs.declared.trees.CForm.TheOpen.{CTerm-F, CForm-F}
use Rattle.core_terms.specs.declared.trees.CForm.TheFolds.{map-CForm, map-CTerm}
use Rattle.core_terms.specs.Places.{greatest_part, params_step, term_params, form_params}
use Rattle.core_terms.specs.Folding.{number_of, is_small, constant_or, sum_term, scaled_term, quotient_term}
use Rattle.core_terms.specs.Folding.{remainder_term}
use Rattle.core_terms.specs.Replacing.{replace_term, replace_form, term_with, form_with}
use Rattle.wp_substitution.proofs.PlaceLaws.{difference_within, constant_within, choice_within, at_least_within}
use Rattle.wp_substitution.proofs.PlaceLaws.{zero_within, not_within, and_within, or_within, top_within}
use Rattle.wp_substitution.proofs.PlaceLaws.{bottom_within}
use Rattle.wp_substitution.proofs.NamedLaws.{param_counts}

folded_less : (t : CTerm) (m : Option ℤ) → term_params (constant_or m t) ≤ term_params t
folded_less t None = omega arith
folded_less t (Some z) = elim (is_small z) as (λ b. term_params (cond b (Const z) t) ≤ term_params t) [
  | true ↦ let none = constant_within params_step param_counts 0 z in omega (arith, none)
  | false ↦ omega arith
]

count-Add : (a b : CTerm) → term_params (Add a b) ≡ max (term_params a) (term_params b)
count-Add a b = ap term_params (sym (rolls-Add a b)) ∙ fold-roll-CTerm ℕ ℕ greatest_part params_step (CTerm-F.Add a b)

count-Scale : (k : ℤ) (a : CTerm) → term_params (Scale k a) ≡ term_params a
count-Scale k a = ap term_params (sym (rolls-Scale k a))
    ∙ fold-roll-CTerm ℕ ℕ greatest_part params_step (CTerm-F.Scale k a)

count-Div : (k : ℤ) (a : CTerm) → term_params (Div a k) ≡ term_params a
count-Div k a = ap term_params (sym (rolls-Div a k))
    ∙ fold-roll-CTerm ℕ ℕ greatest_part params_step (CTerm-F.Div a k)

count-Mod : (k : ℤ) (a : CTerm) → term_params (Mod a k) ≡ term_params a
count-Mod k a = ap term_params (sym (rolls-Mod a k))
    ∙ fold-roll-CTerm ℕ ℕ greatest_part params_step (CTerm-F.Mod a k)

sum_kept : (limit : ℕ) (a b : CTerm) → term_params a ≤ limit → term_params b ≤ limit →
    term_params (sum_term a b) ≤ limit
sum_kept limit a b h k =
    let less = folded_less (Add a b) (number_of (Add a b)) in let is = count-Add a b in omega (arith, less, is, h, k)

scaled_kept : (limit : ℕ) (k : ℤ) (a : CTerm) → term_params a ≤ limit → term_params (scaled_term k a) ≤ limit
scaled_kept limit k a h =
    let less = folded_less (Scale k a) (number_of (Scale k a)) in let is = count-Scale k a in omega (arith, less, is, h)

quotient_kept : (limit : ℕ) (k : ℤ) (a : CTerm) → term_params a ≤ limit → term_params (quotient_term k a) ≤ limit
quotient_kept limit k a h =
    let less = folded_less (Div a k) (number_of (Div a k)) in let is = count-Div k a in omega (arith, less, is, h)

remainder_kept : (limit : ℕ) (k : ℤ) (a : CTerm) → term_params a ≤ limit → term_params (remainder_term k a) ≤ limit
remainder_kept limit k a h =
    let less = folded_less (Mod a k) (number_of (Mod a k)) in let is = count-Mod k a in omega (arith, less, is, h)

module _ (before after : ℕ) (slots names : ℕ → CTerm) (slot_is : (n : ℕ) → term_params (slots n) ≤ after)
    (name_is : (n : ℕ) → n + 1 ≤ before → term_params (names n) ≤ after) where
  abbrev FormKept : CForm → Type 0
  FormKept f = form_params f ≤ before → form_params (form_with slots names f) ≤ after

  abbrev TermKept : CTerm → Type 0
  TermKept t = term_params t ≤ before → term_params (term_with slots names t) ≤ after

  abbrev KeptForm : Type 0
  KeptForm = (f : CForm) × FormKept f

  abbrev KeptTerm : Type 0
  KeptTerm = (t : CTerm) × TermKept t

  rolled_form : (x : CForm-F CForm CTerm) →
      (greatest_part (map-CForm CForm CTerm ℕ ℕ form_params term_params x) ≤ before →
      form_params (replace_form (map-CForm CForm CTerm CForm CTerm (form_with slots names) (term_with slots names) x)) ≤
      after) → FormKept (roll-CForm x)
  rolled_form x h k =
      subst (λ g. form_params g ≤ after) (sym (fold-roll-CForm CForm CTerm replace_form (replace_term slots names) x))
      (h (subst (λ n. n ≤ before) (fold-roll-CForm ℕ ℕ greatest_part params_step x) k))

  rolled_term : (x : CTerm-F CForm CTerm) →
      (params_step (map-CTerm CForm CTerm ℕ ℕ form_params term_params x) ≤ before →
      term_params (replace_term slots names (map-CTerm CForm CTerm CForm CTerm (form_with slots names)
      (term_with slots names) x)) ≤ after) → TermKept (roll-CTerm x)
  rolled_term x h k =
      subst (λ g. term_params g ≤ after) (sym (fold-roll-CTerm CForm CTerm replace_form (replace_term slots names) x))
      (h (subst (λ n. n ≤ before) (fold-roll-CTerm ℕ ℕ greatest_part params_step x) k))

  form_layer : (y : CForm-F KeptForm KeptTerm) →
      FormKept (roll-CForm (map-CForm KeptForm KeptTerm CForm CTerm (λ e. e.0) (λ e. e.0) y))
  form_layer CForm-F.Top = rolled_form CForm-F.Top (λ h. top_within params_step param_counts after)
  form_layer CForm-F.Bottom = rolled_form CForm-F.Bottom (λ h. bottom_within params_step param_counts after)
  form_layer (CForm-F.AtLeast t) =
      rolled_form (CForm-F.AtLeast t.0) (λ h. at_least_within params_step param_counts after _ (t.1 h))
  form_layer (CForm-F.Zero t) =
      rolled_form (CForm-F.Zero t.0) (λ h. zero_within params_step param_counts after _ (t.1 h))
  form_layer (CForm-F.Not f) =
      rolled_form (CForm-F.Not f.0) (λ h. not_within params_step param_counts after _ (f.1 h))
  form_layer (CForm-F.And f g) =
      rolled_form (CForm-F.And f.0 g.0)
      (λ h. and_within params_step param_counts after _ _ (f.1 (omega (arith, h))) (g.1 (omega (arith, h))))
  form_layer (CForm-F.Or f g) =
      rolled_form (CForm-F.Or f.0 g.0)
      (λ h. or_within params_step param_counts after _ _ (f.1 (omega (arith, h))) (g.1 (omega (arith, h))))

  term_layer : (y : CTerm-F KeptForm KeptTerm) →
      TermKept (roll-CTerm (map-CTerm KeptForm KeptTerm CForm CTerm (λ e. e.0) (λ e. e.0) y))
  term_layer (CTerm-F.Const c) = rolled_term (CTerm-F.Const c) (λ h. constant_within params_step param_counts after c)
  term_layer (CTerm-F.Slot n) = rolled_term (CTerm-F.Slot n) (λ h. slot_is n)
  term_layer (CTerm-F.Param n) = rolled_term (CTerm-F.Param n) (λ h. name_is n h)
  term_layer (CTerm-F.Add a b) =
      rolled_term (CTerm-F.Add a.0 b.0)
      (λ h. sum_kept after _ _ (a.1 (omega (arith, h))) (b.1 (omega (arith, h))))
  term_layer (CTerm-F.Sub a b) =
      rolled_term (CTerm-F.Sub a.0 b.0)
      (λ h. difference_within params_step param_counts after _ _ (a.1 (omega (arith, h))) (b.1 (omega (arith, h))))
  term_layer (CTerm-F.Scale k a) =
      rolled_term (CTerm-F.Scale k a.0) (λ h. scaled_kept after k _ (a.1 h))
  term_layer (CTerm-F.Div a k) =
      rolled_term (CTerm-F.Div a.0 k) (λ h. quotient_kept after k _ (a.1 h))
  term_layer (CTerm-F.Mod a k) =
      rolled_term (CTerm-F.Mod a.0 k) (λ h. remainder_kept after k _ (a.1 h))
  term_layer (CTerm-F.Ite c a b) =
      rolled_term (CTerm-F.Ite c.0 a.0 b.0)
      (λ h. choice_within params_step param_counts after _ _ _ (c.1 (omega (arith, h))) (a.1 (omega (arith, h)))
      (b.1 (omega (arith, h))))

  pub params_kept : (f : CForm) → FormKept f
  params_kept f =
      ind-CForm FormKept TermKept (λ x y e. subst (λ z. FormKept (roll-CForm z)) e (form_layer y))
      (λ x y e. subst (λ z. TermKept (roll-CTerm z)) e (term_layer y)) f
