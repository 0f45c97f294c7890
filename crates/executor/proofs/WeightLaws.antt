-- A tree weighs no more where slots and parameters weigh no more.
use Rattle.std.proofs.Common.{◌≡◌, ℕ, ◌≤◌, max, le_refl, ap, subst, arith}
use Rattle.std.proofs.Math.Nat.{mul-le-mul_left}
use Rattle.std.specs.Int.RustNames.{unsigned_abs}
use Rattle.core_terms.specs.declared.trees.CTerm.{CTerm, roll-CTerm, ind-CTerm, fold-roll-CTerm}
use Rattle.core_terms.specs.declared.trees.CForm.{CForm, roll-CForm, ind-CForm, fold-roll-CForm}
use Rattle.core_terms.specs.declared.trees.CForm.TheOpen.{CTerm-F, CForm-F}
use Rattle.core_terms.specs.declared.trees.CForm.TheFolds.{map-CForm, map-CTerm}
use Rattle.core_terms.specs.Weights.{Weights, weigh_term, weigh_form, term_weights, form_weight}

le_along : (a b c d : ℕ) → a ≡ b → c ≡ d → b ≤ d → a ≤ c
le_along a b c d e f h = omega arith

module _ (slots params others names : ℕ → ℕ) (h : (n : ℕ) → slots n ≤ others n) (k : (n : ℕ) → params n ≤ names n)
  where
    abbrev Lighter : Weights → Weights → Type 0
    Lighter v w = (v.own ≤ w.own) × (v.most ≤ w.most)

    abbrev FormLess : CForm → Type 0
    FormLess f = form_weight slots params f ≤ form_weight others names f

    abbrev TermLess : CTerm → Type 0
    TermLess t = Lighter (term_weights slots params t) (term_weights others names t)

    abbrev LessForm : Type 0
    LessForm = (f : CForm) × FormLess f

    abbrev LessTerm : Type 0
    LessTerm = (t : CTerm) × TermLess t

    abbrev forms : CForm-F LessForm LessTerm → CForm-F CForm CTerm
    forms y = map-CForm LessForm LessTerm CForm CTerm (λ e. e.0) (λ e. e.0) y

    abbrev terms : CTerm-F LessForm LessTerm → CTerm-F CForm CTerm
    terms y = map-CTerm LessForm LessTerm CForm CTerm (λ e. e.0) (λ e. e.0) y

    abbrev weighed : (ℕ → ℕ) → (ℕ → ℕ) → CForm-F CForm CTerm → ℕ
    weighed s p x = weigh_form (map-CForm CForm CTerm ℕ Weights (form_weight s p) (term_weights s p) x)

    abbrev weighed_term : (ℕ → ℕ) → (ℕ → ℕ) → CTerm-F CForm CTerm → Weights
    weighed_term s p x = weigh_term s p (map-CTerm CForm CTerm ℕ Weights (form_weight s p) (term_weights s p) x)

    form_case : (y : CForm-F LessForm LessTerm) → weighed slots params (forms y) ≤ weighed others names (forms y)
    form_case CForm-F.Top = le_refl 0
    form_case CForm-F.Bottom = le_refl 0
    form_case (CForm-F.AtLeast t) = t.1.1
    form_case (CForm-F.Zero t) = t.1.1
    form_case (CForm-F.Not f) = f.1
    form_case (CForm-F.And f g) = omega (arith, f.1, g.1)
    form_case (CForm-F.Or f g) = omega (arith, f.1, g.1)

    term_case : (y : CTerm-F LessForm LessTerm) →
        Lighter (weighed_term slots params (terms y)) (weighed_term others names (terms y))
    term_case (CTerm-F.Const c) = (le_refl (unsigned_abs c), le_refl (max (unsigned_abs c) 0))
    term_case (CTerm-F.Slot n) = (h n, omega (arith, h n))
    term_case (CTerm-F.Param n) = (k n, omega (arith, k n))
    term_case (CTerm-F.Add a b) = (omega (arith, a.1.0, b.1.0), omega (arith, a.1.0, b.1.0, a.1.1, b.1.1))
    term_case (CTerm-F.Sub a b) = (omega (arith, a.1.0, b.1.0), omega (arith, a.1.0, b.1.0, a.1.1, b.1.1))
    term_case (CTerm-F.Scale z a) =
        let more = mul-le-mul_left (unsigned_abs z) a.1.0 in (more, omega (arith, more, a.1.1))
    term_case (CTerm-F.Div a z) = (omega (arith, a.1.0), omega (arith, a.1.0, a.1.1))
    term_case (CTerm-F.Mod a z) = (omega (arith, a.1.0), omega (arith, a.1.0, a.1.1))
    term_case (CTerm-F.Ite c a b) =
        (omega (arith, a.1.0, b.1.0), omega (arith, c.1, a.1.0, b.1.0, a.1.1, b.1.1))

    form_layer : (y : CForm-F LessForm LessTerm) → FormLess (roll-CForm (forms y))
    form_layer y =
        le_along _ _ _ _ (fold-roll-CForm ℕ Weights weigh_form (weigh_term slots params) (forms y))
        (fold-roll-CForm ℕ Weights weigh_form (weigh_term others names) (forms y)) (form_case y)

    term_layer : (y : CTerm-F LessForm LessTerm) → TermLess (roll-CTerm (terms y))
    term_layer y =
        let one = fold-roll-CTerm ℕ Weights weigh_form (weigh_term slots params) (terms y) in
        let two = fold-roll-CTerm ℕ Weights weigh_form (weigh_term others names) (terms y) in (
          le_along _ _ _ _ (ap (λ (w : Weights). w.own) one) (ap (λ (w : Weights). w.own) two) (term_case y).0,
          le_along _ _ _ _ (ap (λ (w : Weights). w.most) one) (ap (λ (w : Weights). w.most) two) (term_case y).1,
        )

    pub form_less : (f : CForm) → FormLess f
    form_less f = ind-CForm FormLess TermLess (λ x y e. subst (λ z. FormLess (roll-CForm z)) e (form_layer y))
        (λ x y e. subst (λ z. TermLess (roll-CTerm z)) e (term_layer y)) f

    pub term_less : (t : CTerm) → TermLess t
    term_less t = ind-CTerm FormLess TermLess (λ x y e. subst (λ z. FormLess (roll-CForm z)) e (form_layer y))
        (λ x y e. subst (λ z. TermLess (roll-CTerm z)) e (term_layer y)) t
