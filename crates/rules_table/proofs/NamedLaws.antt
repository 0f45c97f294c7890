-- A parameter that is named is below the count of a formula's parameters, and passes a test that all named ones pass.
use Rattle.std.proofs.Common.{◌≡◌, ℕ, nat_eq, ◌+◌, ◌<◌, max, Bool, true, false, ◌&&◌, ◌||◌, IsTrue, refl, sym, ◌∙◌}
use Rattle.std.proofs.Common.{subst, arith, List, [], length}
use Rattle.std.proofs.lemmas.Bool.{eqb-true}
use Rattle.meaning_states.proofs.StepTheorems.{and_left, and_right}
use Rattle.core_terms.specs.declared.trees.CTerm.{CTerm, roll-CTerm, ind-CTerm, fold-roll-CTerm}
use Rattle.core_terms.specs.declared.trees.CForm.{CForm, roll-CForm, ind-CForm, fold-roll-CForm}
use Rattle.core_terms.specs.declared.trees.CForm.TheOpen.{CTerm-F, CForm-F}
use Rattle.core_terms.specs.declared.trees.CForm.TheFolds.{map-CForm, map-CTerm}
use Rattle.core_terms.specs.Places.{params_step, greatest_part, term_params, form_params, only_step, all_parts}
use Rattle.core_terms.specs.Places.{term_names_only, form_names_only, param_step, some_part, names_param}
use Rattle.core_terms.specs.Places.{term_names_param}
use Rattle.core_terms.specs.Conditions.{any_place, FormFits}
use Rattle.core_terms.specs.declared.programs.CSlot.{CSlot}
use Rattle.core_terms.specs.declared.trees.Range.{Range}
use Rattle.rules_table.specs.Sound.{NamesNoParameter, NamesBelow}

module _ (n : ℕ) (v : ℕ → Bool) where
  -- of whether n is named, one more than the greatest parameter, and whether all pass the test
  abbrev Shown : Bool → ℕ → Bool → Type 0
  Shown named count only = IsTrue named → (n < count) × (IsTrue only → IsTrue (v n))

  none : (count : ℕ) (only : Bool) → Shown false count only
  none count only t = cc

  two : (a b : Bool) (j k : ℕ) (x y : Bool) → Shown a j x → Shown b k y → Shown (a || b) (max j k) (x && y)
  two true b j k x y f g t = let one = f refl in (omega (arith, one.0), λ o. one.1 (and_left x y o))
  two false b j k x y f g t = let one = g t in (omega (arith, one.0), λ o. one.1 (and_right x y o))

  cast : (a b : Bool) (j k : ℕ) (x y : Bool) → a ≡ b → j ≡ k → x ≡ y → Shown b k y → Shown a j x
  cast a b j k x y e f g shown t =
      let one = shown (sym e ∙ t) in (subst (λ i. n < i) (sym f) one.0, λ o. one.1 (sym g ∙ o))

  abbrev FormShown : CForm → Type 0
  FormShown f = Shown (names_param n f) (form_params f) (form_names_only any_place v f)

  abbrev TermShown : CTerm → Type 0
  TermShown t = Shown (term_names_param n t) (term_params t) (term_names_only any_place v t)

  abbrev ShownForm : Type 0
  ShownForm = (f : CForm) × FormShown f

  abbrev ShownTerm : Type 0
  ShownTerm = (t : CTerm) × TermShown t

  abbrev LayerShown : CForm-F CForm CTerm → Type 0
  LayerShown x =
      Shown (some_part (map-CForm CForm CTerm Bool Bool (names_param n) (term_names_param n) x))
      (greatest_part (map-CForm CForm CTerm ℕ ℕ form_params term_params x))
      (all_parts (map-CForm CForm CTerm Bool Bool (form_names_only any_place v) (term_names_only any_place v) x))

  abbrev TermLayerShown : CTerm-F CForm CTerm → Type 0
  TermLayerShown x =
      Shown (param_step n (map-CTerm CForm CTerm Bool Bool (names_param n) (term_names_param n) x))
      (params_step (map-CTerm CForm CTerm ℕ ℕ form_params term_params x))
      (only_step any_place v
      (map-CTerm CForm CTerm Bool Bool (form_names_only any_place v) (term_names_only any_place v) x))

  rolled : (x : CForm-F CForm CTerm) → LayerShown x → FormShown (roll-CForm x)
  rolled x shown =
      cast _ _ _ _ _ _ (fold-roll-CForm Bool Bool some_part (param_step n) x)
      (fold-roll-CForm ℕ ℕ greatest_part params_step x)
      (fold-roll-CForm Bool Bool all_parts (only_step any_place v) x) shown

  rolled_term : (x : CTerm-F CForm CTerm) → TermLayerShown x → TermShown (roll-CTerm x)
  rolled_term x shown =
      cast _ _ _ _ _ _ (fold-roll-CTerm Bool Bool some_part (param_step n) x)
      (fold-roll-CTerm ℕ ℕ greatest_part params_step x)
      (fold-roll-CTerm Bool Bool all_parts (only_step any_place v) x) shown

  form_layer : (y : CForm-F ShownForm ShownTerm) →
      LayerShown (map-CForm ShownForm ShownTerm CForm CTerm (λ e. e.0) (λ e. e.0) y)
  form_layer CForm-F.Top = none 0 true
  form_layer CForm-F.Bottom = none 0 true
  form_layer (CForm-F.AtLeast t) = t.1
  form_layer (CForm-F.Zero t) = t.1
  form_layer (CForm-F.Not f) = f.1
  form_layer (CForm-F.And f g) = two _ _ _ _ _ _ f.1 g.1
  form_layer (CForm-F.Or f g) = two _ _ _ _ _ _ f.1 g.1

  one_param : (m : ℕ) → Shown (nat_eq m n) (m + 1) (v m)
  one_param m t = let same = eqb-true m n t in (omega (arith, same), λ o. subst (λ k. IsTrue (v k)) same o)

  term_layer : (y : CTerm-F ShownForm ShownTerm) →
      TermLayerShown (map-CTerm ShownForm ShownTerm CForm CTerm (λ e. e.0) (λ e. e.0) y)
  term_layer (CTerm-F.Const c) = none 0 true
  term_layer (CTerm-F.Slot m) = none 0 (any_place m)
  term_layer (CTerm-F.Param m) = one_param m
  term_layer (CTerm-F.Add a b) = two _ _ _ _ _ _ a.1 b.1
  term_layer (CTerm-F.Sub a b) = two _ _ _ _ _ _ a.1 b.1
  term_layer (CTerm-F.Scale k a) = a.1
  term_layer (CTerm-F.Div a k) = a.1
  term_layer (CTerm-F.Mod a k) = a.1
  term_layer (CTerm-F.Ite c a b) = two _ _ _ _ _ _ c.1 (two _ _ _ _ _ _ a.1 b.1)

  pub form_shown : (f : CForm) → FormShown f
  form_shown f =
      ind-CForm FormShown TermShown (λ x y e. subst (λ z. FormShown (roll-CForm z)) e (rolled _ (form_layer y)))
      (λ x y e. subst (λ z. TermShown (roll-CTerm z)) e (rolled_term _ (term_layer y))) f

  pub term_shown : (t : CTerm) → TermShown t
  term_shown t =
      ind-CTerm FormShown TermShown (λ x y e. subst (λ z. FormShown (roll-CForm z)) e (rolled _ (form_layer y)))
      (λ x y e. subst (λ z. TermShown (roll-CTerm z)) e (rolled_term _ (term_layer y))) t

-- a formula that names none of 0 parameters names none
pub below_none : (f : CForm) → NamesBelow 0 f → NamesNoParameter f
below_none f few n = go (names_param n f) (few n)
  where
    go : (b : Bool) → (IsTrue b → n < 0) → b ≡ false
    go true h = let less = h refl in absurd (omega arith)
    go false h = refl

-- a formula that fits names none but its own parameters
pub fitting : (slots : List CSlot) (params : List Range) (f : CForm) → FormFits slots params f →
    NamesBelow (length params) f
fitting slots params f fits n t =
    let less = (form_shown n any_place f t).0 in let few = fits.params_exist in omega arith

pub closed_form : (slots : List CSlot) (f : CForm) → FormFits slots [] f → NamesNoParameter f
closed_form slots f fits = below_none f (fitting slots [] f fits)
