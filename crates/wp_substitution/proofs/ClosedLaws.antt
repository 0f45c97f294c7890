-- A tree that names no parameter is worth the same whatever the parameters are.
use Rattle.std.proofs.Common.{◌≡◌, ℕ, ◌+◌, ◌≤◌, max, ℤ, pos, ◌+ℤ◌, ◌-ℤ◌, ◌*ℤ◌, List, Bool, cond, not, ◌&&◌, ◌||◌, sym}
use Rattle.std.proofs.Common.{ap, ◌∙◌, subst, arith}
use Rattle.std.specs.Int.RustNames.{int_le}
use Rattle.meaning_states.specs.State.{int_eq}
use Rattle.meaning_states.specs.Division.{floored, rest_of}
use Rattle.core_terms.specs.declared.trees.CTerm.{CTerm, roll-CTerm, ind-CTerm, fold-roll-CTerm}
use Rattle.core_terms.specs.declared.trees.CForm.{CForm, roll-CForm, ind-CForm, fold-roll-CForm}
use Rattle.core_terms.specs.declared.trees.CForm.TheOpen.{CTerm-F, CForm-F}
use Rattle.core_terms.specs.declared.trees.CForm.TheFolds.{map-CForm, map-CTerm}
use Rattle.core_terms.specs.Values.{term_step, form_step, term_value, form_value}
use Rattle.core_terms.specs.Places.{greatest_part, params_step, form_params, term_params}

module _ (s d e : List ℤ) where
  abbrev FormSame : CForm → Type 0
  FormSame f = form_params f ≤ 0 → form_value s d f ≡ form_value s e f

  abbrev TermSame : CTerm → Type 0
  TermSame t = term_params t ≤ 0 → term_value s d t ≡ term_value s e t

  abbrev SameForm : Type 0
  SameForm = (f : CForm) × FormSame f

  abbrev SameTerm : Type 0
  SameTerm = (t : CTerm) × TermSame t

  from : (a : List ℤ) (x : CForm-F CForm CTerm) →
      form_value s a (roll-CForm x) ≡ form_step (map-CForm CForm CTerm Bool ℤ (form_value s a) (term_value s a) x)
  from a x = fold-roll-CForm Bool ℤ form_step (term_step s a) x

  from_term : (a : List ℤ) (x : CTerm-F CForm CTerm) →
      term_value s a (roll-CTerm x) ≡ term_step s a (map-CTerm CForm CTerm Bool ℤ (form_value s a) (term_value s a) x)
  from_term a x = fold-roll-CTerm Bool ℤ form_step (term_step s a) x

  none : (x : CForm-F CForm CTerm) → form_params (roll-CForm x) ≤ 0 →
      greatest_part (map-CForm CForm CTerm ℕ ℕ form_params term_params x) ≤ 0
  none x h = subst (λ n. n ≤ 0) (fold-roll-CForm ℕ ℕ greatest_part params_step x) h

  none_term : (x : CTerm-F CForm CTerm) → term_params (roll-CTerm x) ≤ 0 →
      params_step (map-CTerm CForm CTerm ℕ ℕ form_params term_params x) ≤ 0
  none_term x h = subst (λ n. n ≤ 0) (fold-roll-CTerm ℕ ℕ greatest_part params_step x) h

  form_layer : (y : CForm-F SameForm SameTerm) →
      FormSame (roll-CForm (map-CForm SameForm SameTerm CForm CTerm (λ e. e.0) (λ e. e.0) y))
  form_layer CForm-F.Top h = from d CForm-F.Top ∙ sym (from e CForm-F.Top)
  form_layer CForm-F.Bottom h = from d CForm-F.Bottom ∙ sym (from e CForm-F.Bottom)
  form_layer (CForm-F.AtLeast t) h =
      let x : CForm-F CForm CTerm = CForm-F.AtLeast t.0 in
      from d x ∙ ap (λ z. int_le (pos 0) z) (t.1 (none x h)) ∙ sym (from e x)
  form_layer (CForm-F.Zero t) h =
      let x : CForm-F CForm CTerm = CForm-F.Zero t.0 in
      from d x ∙ ap (λ z. int_eq z (pos 0)) (t.1 (none x h)) ∙ sym (from e x)
  form_layer (CForm-F.Not f) h =
      let x : CForm-F CForm CTerm = CForm-F.Not f.0 in from d x ∙ ap not (f.1 (none x h)) ∙ sym (from e x)
  form_layer (CForm-F.And f g) h =
      let x : CForm-F CForm CTerm = CForm-F.And f.0 g.0 in
      let n : max (form_params f.0) (form_params g.0) ≤ 0 = none x h in
      from d x ∙ ap (λ b. b && form_value s d g.0) (f.1 (omega (arith, n)))
      ∙ ap (λ b. form_value s e f.0 && b) (g.1 (omega (arith, n))) ∙ sym (from e x)
  form_layer (CForm-F.Or f g) h =
      let x : CForm-F CForm CTerm = CForm-F.Or f.0 g.0 in
      let n : max (form_params f.0) (form_params g.0) ≤ 0 = none x h in
      from d x ∙ ap (λ b. b || form_value s d g.0) (f.1 (omega (arith, n)))
      ∙ ap (λ b. form_value s e f.0 || b) (g.1 (omega (arith, n))) ∙ sym (from e x)

  term_layer : (y : CTerm-F SameForm SameTerm) →
      TermSame (roll-CTerm (map-CTerm SameForm SameTerm CForm CTerm (λ e. e.0) (λ e. e.0) y))
  term_layer (CTerm-F.Const c) h = from_term d (CTerm-F.Const c) ∙ sym (from_term e (CTerm-F.Const c))
  term_layer (CTerm-F.Slot n) h = from_term d (CTerm-F.Slot n) ∙ sym (from_term e (CTerm-F.Slot n))
  term_layer (CTerm-F.Param m) h =
      let n : m + 1 ≤ 0 = none_term (CTerm-F.Param m) h in absurd (omega (arith, n))
  term_layer (CTerm-F.Add a b) h =
      let x : CTerm-F CForm CTerm = CTerm-F.Add a.0 b.0 in
      let n : max (term_params a.0) (term_params b.0) ≤ 0 = none_term x h in
      from_term d x ∙ ap (λ z. z +ℤ term_value s d b.0) (a.1 (omega (arith, n)))
      ∙ ap (λ z. term_value s e a.0 +ℤ z) (b.1 (omega (arith, n))) ∙ sym (from_term e x)
  term_layer (CTerm-F.Sub a b) h =
      let x : CTerm-F CForm CTerm = CTerm-F.Sub a.0 b.0 in
      let n : max (term_params a.0) (term_params b.0) ≤ 0 = none_term x h in
      from_term d x ∙ ap (λ z. z -ℤ term_value s d b.0) (a.1 (omega (arith, n)))
      ∙ ap (λ z. term_value s e a.0 -ℤ z) (b.1 (omega (arith, n))) ∙ sym (from_term e x)
  term_layer (CTerm-F.Scale k a) h =
      let x : CTerm-F CForm CTerm = CTerm-F.Scale k a.0 in
      from_term d x ∙ ap (λ z. k *ℤ z) (a.1 (none_term x h)) ∙ sym (from_term e x)
  term_layer (CTerm-F.Div a k) h =
      let x : CTerm-F CForm CTerm = CTerm-F.Div a.0 k in
      from_term d x ∙ ap (λ z. floored z k) (a.1 (none_term x h)) ∙ sym (from_term e x)
  term_layer (CTerm-F.Mod a k) h =
      let x : CTerm-F CForm CTerm = CTerm-F.Mod a.0 k in
      from_term d x ∙ ap (λ z. rest_of z k) (a.1 (none_term x h)) ∙ sym (from_term e x)
  term_layer (CTerm-F.Ite c a b) h =
      let x : CTerm-F CForm CTerm = CTerm-F.Ite c.0 a.0 b.0 in
      let n : max (form_params c.0) (max (term_params a.0) (term_params b.0)) ≤ 0 = none_term x h in
      from_term d x ∙ ap (λ v. cond v (term_value s d a.0) (term_value s d b.0)) (c.1 (omega (arith, n)))
      ∙ ap (λ z. cond (form_value s e c.0) z (term_value s d b.0)) (a.1 (omega (arith, n)))
      ∙ ap (λ z. cond (form_value s e c.0) (term_value s e a.0) z) (b.1 (omega (arith, n))) ∙ sym (from_term e x)

  pub form_closed : (f : CForm) → FormSame f
  form_closed f =
      ind-CForm FormSame TermSame (λ x y e. subst (λ z. FormSame (roll-CForm z)) e (form_layer y))
      (λ x y e. subst (λ z. TermSame (roll-CTerm z)) e (term_layer y)) f

  pub term_closed : (t : CTerm) → TermSame t
  term_closed t =
      ind-CTerm FormSame TermSame (λ x y e. subst (λ z. FormSame (roll-CForm z)) e (form_layer y))
      (λ x y e. subst (λ z. TermSame (roll-CTerm z)) e (term_layer y)) t
