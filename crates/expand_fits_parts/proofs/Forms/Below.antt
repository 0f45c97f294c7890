-- Where only numbers below a count are named, no more of them are counted.
use Rattle.std.proofs.Common.{◌≡◌, ℕ, ◌≤◌, ◌<◌, max, Bool, true, sym, ◌∙◌, subst, arith}
use Rattle.std.specs.Prelude.{nat_lt, ◌&&◌}
use Rattle.std.proofs.lemmas.Bool.{ltb-true}
use Rattle.names_laws.proofs.AttributeTheorems.{and_first, and_second}
use Rattle.core_terms.specs.declared.trees.CTerm.{CTerm, roll-CTerm, ind-CTerm, fold-roll-CTerm}
use Rattle.core_terms.specs.declared.trees.CForm.{CForm, roll-CForm, ind-CForm, fold-roll-CForm}
use Rattle.core_terms.specs.declared.trees.CForm.TheOpen.{CTerm-F, CForm-F}
use Rattle.core_terms.specs.declared.trees.CForm.TheFolds.{map-CForm, map-CTerm}
use Rattle.core_terms.specs.Conditions.{is_below}
use Rattle.core_terms.specs.Places.{slots_step, params_step, greatest_part, term_slots, form_slots, term_params}
use Rattle.core_terms.specs.Places.{form_params, only_step, all_parts, term_names_only, form_names_only}
use Rattle.expand_fits_parts.specs.Forms.NamingLaws.{FormsBelow, TermsBelow}

pub lt_true : (a b : ℕ) → nat_lt a b ≡ true → a < b
lt_true a b h = ltb-true a b h

module _ (m n : ℕ) where
  abbrev F : CForm → Bool
  F f = form_names_only (is_below m) (is_below n) f

  abbrev T : CTerm → Bool
  T t = term_names_only (is_below m) (is_below n) t

  abbrev FormLow : CForm → Type 0
  FormLow f = F f ≡ true → (form_slots f ≤ m) × (form_params f ≤ n)

  abbrev TermLow : CTerm → Type 0
  TermLow t = T t ≡ true → (term_slots t ≤ m) × (term_params t ≤ n)

  abbrev LowForm : Type 0
  LowForm = (f : CForm) × FormLow f

  abbrev LowTerm : Type 0
  LowTerm = (t : CTerm) × TermLow t

  -- from the layer to the whole
  rolled_form : (x : CForm-F CForm CTerm) →
      (all_parts (map-CForm CForm CTerm Bool Bool (λ f. F f) (λ t. T t) x) ≡ true →
      (greatest_part (map-CForm CForm CTerm ℕ ℕ form_slots term_slots x) ≤ m) ×
      (greatest_part (map-CForm CForm CTerm ℕ ℕ form_params term_params x) ≤ n)) → FormLow (roll-CForm x)
  rolled_form x h p =
      let k = h (sym (fold-roll-CForm Bool Bool all_parts (only_step (is_below m) (is_below n)) x) ∙ p) in (
        subst (λ z. z ≤ m) (sym (fold-roll-CForm ℕ ℕ greatest_part slots_step x)) k.0,
        subst (λ z. z ≤ n) (sym (fold-roll-CForm ℕ ℕ greatest_part params_step x)) k.1,
      )

  rolled_term : (x : CTerm-F CForm CTerm) →
      (only_step (is_below m) (is_below n) (map-CTerm CForm CTerm Bool Bool (λ f. F f) (λ t. T t) x) ≡ true →
      (slots_step (map-CTerm CForm CTerm ℕ ℕ form_slots term_slots x) ≤ m) ×
      (params_step (map-CTerm CForm CTerm ℕ ℕ form_params term_params x) ≤ n)) → TermLow (roll-CTerm x)
  rolled_term x h p =
      let k = h (sym (fold-roll-CTerm Bool Bool all_parts (only_step (is_below m) (is_below n)) x) ∙ p) in (
        subst (λ z. z ≤ m) (sym (fold-roll-CTerm ℕ ℕ greatest_part slots_step x)) k.0,
        subst (λ z. z ≤ n) (sym (fold-roll-CTerm ℕ ℕ greatest_part params_step x)) k.1,
      )

  both_low : (a b c d : ℕ) → (a ≤ m) × (b ≤ n) → (c ≤ m) × (d ≤ n) → (max a c ≤ m) × (max b d ≤ n)
  both_low a b c d h i = (omega (arith, h.0, i.0), omega (arith, h.1, i.1))

  form_layer : (y : CForm-F LowForm LowTerm) → FormLow (roll-CForm
      (map-CForm LowForm LowTerm CForm CTerm (λ e. e.0) (λ e. e.0) y))
  form_layer CForm-F.Top = rolled_form CForm-F.Top (λ p. (omega arith, omega arith))
  form_layer CForm-F.Bottom = rolled_form CForm-F.Bottom (λ p. (omega arith, omega arith))
  form_layer (CForm-F.AtLeast t) = rolled_form (CForm-F.AtLeast t.0) t.1
  form_layer (CForm-F.Zero t) = rolled_form (CForm-F.Zero t.0) t.1
  form_layer (CForm-F.Not f) = rolled_form (CForm-F.Not f.0) f.1
  form_layer (CForm-F.And f g) = rolled_form (CForm-F.And f.0 g.0) (λ p. both_low _ _ _ _
      (f.1 (and_first (F f.0) (F g.0) p)) (g.1 (and_second (F f.0) (F g.0) p)))
  form_layer (CForm-F.Or f g) = rolled_form (CForm-F.Or f.0 g.0) (λ p. both_low _ _ _ _
      (f.1 (and_first (F f.0) (F g.0) p)) (g.1 (and_second (F f.0) (F g.0) p)))

  term_layer : (y : CTerm-F LowForm LowTerm) → TermLow (roll-CTerm
      (map-CTerm LowForm LowTerm CForm CTerm (λ e. e.0) (λ e. e.0) y))
  term_layer (CTerm-F.Const c) = rolled_term (CTerm-F.Const c) (λ p. (omega arith, omega arith))
  term_layer (CTerm-F.Slot k) = rolled_term (CTerm-F.Slot k) (λ p. let l = lt_true k m p in
      (omega (arith, l), omega arith))
  term_layer (CTerm-F.Param k) = rolled_term (CTerm-F.Param k) (λ p. let l = lt_true k n p in
      (omega arith, omega (arith, l)))
  term_layer (CTerm-F.Add a b) = rolled_term (CTerm-F.Add a.0 b.0) (λ p. both_low _ _ _ _
      (a.1 (and_first (T a.0) (T b.0) p)) (b.1 (and_second (T a.0) (T b.0) p)))
  term_layer (CTerm-F.Sub a b) = rolled_term (CTerm-F.Sub a.0 b.0) (λ p. both_low _ _ _ _
      (a.1 (and_first (T a.0) (T b.0) p)) (b.1 (and_second (T a.0) (T b.0) p)))
  term_layer (CTerm-F.Scale k a) = rolled_term (CTerm-F.Scale k a.0) a.1
  term_layer (CTerm-F.Div a k) = rolled_term (CTerm-F.Div a.0 k) a.1
  term_layer (CTerm-F.Mod a k) = rolled_term (CTerm-F.Mod a.0 k) a.1
  term_layer (CTerm-F.Ite c a b) = rolled_term (CTerm-F.Ite c.0 a.0 b.0) (λ p.
      let rest = and_second (F c.0) (T a.0 && T b.0) p in
      both_low _ _ _ _ (c.1 (and_first (F c.0) (T a.0 && T b.0) p))
      (both_low _ _ _ _ (a.1 (and_first (T a.0) (T b.0) rest)) (b.1 (and_second (T a.0) (T b.0) rest))))

  pub form_low : (f : CForm) → FormLow f
  form_low f =
      ind-CForm FormLow TermLow (λ x y e. subst (λ z. FormLow (roll-CForm z)) e (form_layer y))
      (λ x y e. subst (λ z. TermLow (roll-CTerm z)) e (term_layer y)) f

  pub term_low : (t : CTerm) → TermLow t
  term_low t =
      ind-CTerm FormLow TermLow (λ x y e. subst (λ z. FormLow (roll-CForm z)) e (form_layer y))
      (λ x y e. subst (λ z. TermLow (roll-CTerm z)) e (term_layer y)) t

pub forms_below : FormsBelow
forms_below = form_low

pub terms_below : TermsBelow
terms_below = term_low
