-- What names only slots and parameters that pass tests names only those that pass wider tests.
use Rattle.std.proofs.Common.{◌≡◌, ℕ, Bool, true, sym, ◌∙◌, subst}
use Rattle.std.specs.Prelude.{◌&&◌}
use Rattle.names_laws.proofs.AttributeTheorems.{and_first, and_second, and_both}
use Rattle.core_terms.specs.declared.trees.CTerm.{CTerm, roll-CTerm, ind-CTerm, fold-roll-CTerm}
use Rattle.core_terms.specs.declared.trees.CForm.{CForm, roll-CForm, ind-CForm, fold-roll-CForm}
use Rattle.core_terms.specs.declared.trees.CForm.TheOpen.{CTerm-F, CForm-F}
use Rattle.core_terms.specs.declared.trees.CForm.TheFolds.{map-CForm, map-CTerm}
use Rattle.core_terms.specs.Places.{only_step, all_parts, term_names_only, form_names_only}

module _ (slots params more others : ℕ → Bool) (slot_wider : (n : ℕ) → slots n ≡ true → more n ≡ true)
    (param_wider : (n : ℕ) → params n ≡ true → others n ≡ true) where
  abbrev F : CForm → Bool
  F f = form_names_only slots params f

  abbrev T : CTerm → Bool
  T t = term_names_only slots params t

  abbrev G : CForm → Bool
  G f = form_names_only more others f

  abbrev U : CTerm → Bool
  U t = term_names_only more others t

  abbrev FormWider : CForm → Type 0
  FormWider f = F f ≡ true → G f ≡ true

  abbrev TermWider : CTerm → Type 0
  TermWider t = T t ≡ true → U t ≡ true

  abbrev WiderForm : Type 0
  WiderForm = (f : CForm) × FormWider f

  abbrev WiderTerm : Type 0
  WiderTerm = (t : CTerm) × TermWider t

  rolled_form : (x : CForm-F CForm CTerm) →
      (all_parts (map-CForm CForm CTerm Bool Bool (λ f. F f) (λ t. T t) x) ≡ true →
      all_parts (map-CForm CForm CTerm Bool Bool (λ f. G f) (λ t. U t) x) ≡ true) → FormWider (roll-CForm x)
  rolled_form x h p = fold-roll-CForm Bool Bool all_parts (only_step more others) x
      ∙ h (sym (fold-roll-CForm Bool Bool all_parts (only_step slots params) x) ∙ p)

  rolled_term : (x : CTerm-F CForm CTerm) →
      (only_step slots params (map-CTerm CForm CTerm Bool Bool (λ f. F f) (λ t. T t) x) ≡ true →
      only_step more others (map-CTerm CForm CTerm Bool Bool (λ f. G f) (λ t. U t) x) ≡ true) →
      TermWider (roll-CTerm x)
  rolled_term x h p = fold-roll-CTerm Bool Bool all_parts (only_step more others) x
      ∙ h (sym (fold-roll-CTerm Bool Bool all_parts (only_step slots params) x) ∙ p)

  both_wider : (a b c d : Bool) → (a ≡ true → c ≡ true) → (b ≡ true → d ≡ true) → (a && b) ≡ true → (c && d) ≡ true
  both_wider a b c d h k p = and_both c d (h (and_first a b p)) (k (and_second a b p))

  form_layer : (y : CForm-F WiderForm WiderTerm) → FormWider (roll-CForm
      (map-CForm WiderForm WiderTerm CForm CTerm (λ e. e.0) (λ e. e.0) y))
  form_layer CForm-F.Top = rolled_form CForm-F.Top (λ p. p)
  form_layer CForm-F.Bottom = rolled_form CForm-F.Bottom (λ p. p)
  form_layer (CForm-F.AtLeast t) = rolled_form (CForm-F.AtLeast t.0) t.1
  form_layer (CForm-F.Zero t) = rolled_form (CForm-F.Zero t.0) t.1
  form_layer (CForm-F.Not f) = rolled_form (CForm-F.Not f.0) f.1
  form_layer (CForm-F.And f g) = rolled_form (CForm-F.And f.0 g.0) (both_wider (F f.0) (F g.0) (G f.0) (G g.0) f.1 g.1)
  form_layer (CForm-F.Or f g) = rolled_form (CForm-F.Or f.0 g.0) (both_wider (F f.0) (F g.0) (G f.0) (G g.0) f.1 g.1)

  term_layer : (y : CTerm-F WiderForm WiderTerm) → TermWider (roll-CTerm
      (map-CTerm WiderForm WiderTerm CForm CTerm (λ e. e.0) (λ e. e.0) y))
  term_layer (CTerm-F.Const c) = rolled_term (CTerm-F.Const c) (λ p. p)
  term_layer (CTerm-F.Slot k) = rolled_term (CTerm-F.Slot k) (slot_wider k)
  term_layer (CTerm-F.Param k) = rolled_term (CTerm-F.Param k) (param_wider k)
  term_layer (CTerm-F.Add a b) = rolled_term (CTerm-F.Add a.0 b.0) (both_wider (T a.0) (T b.0) (U a.0) (U b.0) a.1 b.1)
  term_layer (CTerm-F.Sub a b) = rolled_term (CTerm-F.Sub a.0 b.0) (both_wider (T a.0) (T b.0) (U a.0) (U b.0) a.1 b.1)
  term_layer (CTerm-F.Scale k a) = rolled_term (CTerm-F.Scale k a.0) a.1
  term_layer (CTerm-F.Div a k) = rolled_term (CTerm-F.Div a.0 k) a.1
  term_layer (CTerm-F.Mod a k) = rolled_term (CTerm-F.Mod a.0 k) a.1
  term_layer (CTerm-F.Ite c a b) = rolled_term (CTerm-F.Ite c.0 a.0 b.0)
      (both_wider (F c.0) (T a.0 && T b.0) (G c.0) (U a.0 && U b.0) c.1
      (both_wider (T a.0) (T b.0) (U a.0) (U b.0) a.1 b.1))

  pub form_wider : (f : CForm) → FormWider f
  form_wider f =
      ind-CForm FormWider TermWider (λ x y e. subst (λ z. FormWider (roll-CForm z)) e (form_layer y))
      (λ x y e. subst (λ z. TermWider (roll-CTerm z)) e (term_layer y)) f

  pub term_wider : (t : CTerm) → TermWider t
  term_wider t =
      ind-CTerm FormWider TermWider (λ x y e. subst (λ z. FormWider (roll-CForm z)) e (form_layer y))
      (λ x y e. subst (λ z. TermWider (roll-CTerm z)) e (term_layer y)) t
