-- The test of equal terms passes at equal terms alone.
use Rattle.std.proofs.Common.{◌≡◌, Bool, IsTrue, sym, ap, ◌∙◌}
use Rattle.core_terms.specs.declared.trees.CTerm.{CTerm}
use Rattle.core_terms.specs.declared.trees.CForm.{CForm, roll-CForm, out-CForm, out-roll-CForm}
use Rattle.core_terms.specs.declared.trees.CForm.TheOpen.{CForm-F}
use Rattle.core_terms.specs.Trees.{same_forms, same_terms, same_form, same_term}
use Rattle.core_terms.specs.declared.trees.CTerm.{out-CTerm}
use Rattle.core_terms.proofs.TreeFolds.{Steps, fold_form_at}
use Rattle.core_terms.proofs.SameLaws.{same_form_is, same_form_self}

abbrev same_steps : Steps (CForm → Bool) (CTerm → Bool)
same_steps = record { form = λ x f. same_forms x (out-CForm f); term = λ x t. same_terms x (out-CTerm t) }

abbrev zero : CTerm → CForm
zero t = roll-CForm (CForm-F.Zero t)

-- two terms are tested as the formulas are that they are zero
as_forms : (t u : CTerm) → same_form (zero t) (zero u) ≡ same_term t u
as_forms t u =
    ap (λ (h : CForm → Bool). h (zero u)) (fold_form_at same_steps (CForm-F.Zero t))
    ∙ ap (λ z. same_forms (CForm-F.Zero (same_term t)) z) (out-roll-CForm (CForm-F.Zero u))

abbrev zero_of : CTerm → CForm-F CForm CTerm → CTerm
zero_of t (CForm-F.Zero u) = u
zero_of t _ = t

pub same_term_is : (t u : CTerm) → IsTrue (same_term t u) → t ≡ u
same_term_is t u h =
    let forms : zero t ≡ zero u = same_form_is (zero t) (zero u) (as_forms t u ∙ h) in
    let nodes : CForm-F.Zero t ≡ CForm-F.Zero u =
    sym (out-roll-CForm (CForm-F.Zero t)) ∙ ap (λ f. out-CForm f) forms ∙ out-roll-CForm (CForm-F.Zero u) in
    ap (zero_of t) nodes

pub same_term_self : (t : CTerm) → IsTrue (same_term t t)
same_term_self t = sym (as_forms t t) ∙ same_form_self (zero t)
