-- Whether two trees are equal, as a test.
use Rattle.std.specs.Prelude.{nat_eq, Bool, true, false, ◌&&◌}
use Rattle.meaning_states.specs.State.{int_eq}
use Rattle.core_terms.specs.declared.trees.CTerm.{CTerm, out-CTerm, fold-CTerm}
use Rattle.core_terms.specs.declared.trees.CForm.{CForm, out-CForm, fold-CForm}
use Rattle.core_terms.specs.declared.trees.CForm.TheOpen.{CTerm-F, CForm-F}

-- a term of tested parts, held against a term
abbrev pub same_terms : CTerm-F (CForm → Bool) (CTerm → Bool) → CTerm-F CForm CTerm → Bool
same_terms (CTerm-F.Const c) (CTerm-F.Const d) = int_eq c d
same_terms (CTerm-F.Slot m) (CTerm-F.Slot n) = nat_eq m n
same_terms (CTerm-F.Param m) (CTerm-F.Param n) = nat_eq m n
same_terms (CTerm-F.Add a b) (CTerm-F.Add c d) = a c && b d
same_terms (CTerm-F.Sub a b) (CTerm-F.Sub c d) = a c && b d
same_terms (CTerm-F.Scale k a) (CTerm-F.Scale l b) = int_eq k l && a b
same_terms (CTerm-F.Div a k) (CTerm-F.Div b l) = int_eq k l && a b
same_terms (CTerm-F.Mod a k) (CTerm-F.Mod b l) = int_eq k l && a b
same_terms (CTerm-F.Ite c a b) (CTerm-F.Ite d e f) = c d && (a e && b f)
same_terms _ _ = false

-- a formula of tested parts, held against a formula
abbrev pub same_forms : CForm-F (CForm → Bool) (CTerm → Bool) → CForm-F CForm CTerm → Bool
same_forms CForm-F.Top CForm-F.Top = true
same_forms CForm-F.Bottom CForm-F.Bottom = true
same_forms (CForm-F.AtLeast t) (CForm-F.AtLeast u) = t u
same_forms (CForm-F.Zero t) (CForm-F.Zero u) = t u
same_forms (CForm-F.Not f) (CForm-F.Not g) = f g
same_forms (CForm-F.And a b) (CForm-F.And c d) = a c && b d
same_forms (CForm-F.Or a b) (CForm-F.Or c d) = a c && b d
same_forms _ _ = false

-- whether two formulas are equal trees
abbrev pub same_form : CForm → CForm → Bool
same_form =
    fold-CForm (CForm → Bool) (CTerm → Bool) (λ x f. same_forms x (out-CForm f)) (λ x t. same_terms x (out-CTerm t))

-- whether two terms are equal trees
abbrev pub same_term : CTerm → CTerm → Bool
same_term =
    fold-CTerm (CForm → Bool) (CTerm → Bool) (λ x f. same_forms x (out-CForm f)) (λ x t. same_terms x (out-CTerm t))
