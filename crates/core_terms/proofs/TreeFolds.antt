-- Folds over trees. What a node has once its parts have it, each tree has; and where the steps of two folds keep a
-- relation, the folds are in it.
use Rattle.std.proofs.Common.{◌≡◌, sym, ap, ◌∙◌, subst}
use Rattle.core_terms.specs.declared.trees.CTerm.{CTerm, roll-CTerm, ind-CTerm, fold-CTerm, fold-roll-CTerm}
use Rattle.core_terms.specs.declared.trees.CForm.{CForm, roll-CForm, ind-CForm, fold-CForm, fold-roll-CForm}
use Rattle.core_terms.specs.declared.trees.CForm.TheOpen.{CTerm-F, CForm-F}
use Rattle.core_terms.specs.declared.trees.CForm.TheFolds.{map-CForm, map-CTerm}

-- what a fold makes of a node, from what it makes of the node's parts
pub record Steps (A B : Type 0) : Type 0 where
  pub form : CForm-F A B → A
  pub term : CTerm-F A B → B

module _ {A B : Type 0} (steps : Steps A B) where
  abbrev pub fold_form : CForm → A
  fold_form f = fold-CForm A B steps.form steps.term f

  abbrev pub fold_term : CTerm → B
  fold_term t = fold-CTerm A B steps.form steps.term t

  -- a node, with what the fold makes of each part
  abbrev pub form_layer : CForm-F CForm CTerm → CForm-F A B
  form_layer x = map-CForm CForm CTerm A B fold_form fold_term x

  abbrev pub term_layer : CTerm-F CForm CTerm → CTerm-F A B
  term_layer x = map-CTerm CForm CTerm A B fold_form fold_term x

  pub fold_form_at : (x : CForm-F CForm CTerm) → fold_form (roll-CForm x) ≡ steps.form (form_layer x)
  fold_form_at x = fold-roll-CForm A B steps.form steps.term x

  pub fold_term_at : (x : CTerm-F CForm CTerm) → fold_term (roll-CTerm x) ≡ steps.term (term_layer x)
  fold_term_at x = fold-roll-CTerm A B steps.form steps.term x

  -- the same of a tree that is the node
  pub fold_form_is : (x : CForm-F CForm CTerm) (f : CForm) → roll-CForm x ≡ f → fold_form f ≡ steps.form (form_layer x)
  fold_form_is x f e = ap fold_form (sym e) ∙ fold_form_at x

  pub fold_term_is : (x : CTerm-F CForm CTerm) (t : CTerm) → roll-CTerm x ≡ t → fold_term t ≡ steps.term (term_layer x)
  fold_term_is x t e = ap fold_term (sym e) ∙ fold_term_at x

-- nodes of trees that have a property
module _ (P : CForm → Type 0) (Q : CTerm → Type 0) where
  abbrev pub FormWith : Type 0
  FormWith = (f : CForm) × P f

  abbrev pub TermWith : Type 0
  TermWith = (t : CTerm) × Q t

  abbrev pub form_of : CForm-F FormWith TermWith → CForm-F CForm CTerm
  form_of y = map-CForm FormWith TermWith CForm CTerm (λ e. e.0) (λ e. e.0) y

  abbrev pub term_of : CTerm-F FormWith TermWith → CTerm-F CForm CTerm
  term_of y = map-CTerm FormWith TermWith CForm CTerm (λ e. e.0) (λ e. e.0) y

  -- a node has the property once its parts have it
  abbrev pub FormsHave : Type 0
  FormsHave = (y : CForm-F FormWith TermWith) → P (roll-CForm (form_of y))

  abbrev pub TermsHave : Type 0
  TermsHave = (y : CTerm-F FormWith TermWith) → Q (roll-CTerm (term_of y))

  pub each_form : FormsHave → TermsHave → (f : CForm) → P f
  each_form form term f =
      ind-CForm P Q (λ x y e. subst (λ z. P (roll-CForm z)) e (form y))
      (λ x y e. subst (λ z. Q (roll-CTerm z)) e (term y)) f

  pub each_term : FormsHave → TermsHave → (t : CTerm) → Q t
  each_term form term t =
      ind-CTerm P Q (λ x y e. subst (λ z. P (roll-CForm z)) e (form y))
      (λ x y e. subst (λ z. Q (roll-CTerm z)) e (term y)) t

-- two folds, and what relates their results
module _ {A B C D : Type 0} (one : Steps A B) (other : Steps C D) (R : A → C → Type 0) (S : B → D → Type 0) where
  abbrev pub FormRelated : CForm → Type 0
  FormRelated f = R (fold_form one f) (fold_form other f)

  abbrev pub TermRelated : CTerm → Type 0
  TermRelated t = S (fold_term one t) (fold_term other t)

  abbrev pub RelatedForms : Type 0
  RelatedForms = CForm-F (FormWith FormRelated TermRelated) (TermWith FormRelated TermRelated)

  abbrev pub RelatedTerms : Type 0
  RelatedTerms = CTerm-F (FormWith FormRelated TermRelated) (TermWith FormRelated TermRelated)

  -- at a node of related parts the two steps have related results
  abbrev pub FormsKeep : Type 0
  FormsKeep = (y : RelatedForms) →
      R (one.form (form_layer one (form_of FormRelated TermRelated y)))
      (other.form (form_layer other (form_of FormRelated TermRelated y)))

  abbrev pub TermsKeep : Type 0
  TermsKeep = (y : RelatedTerms) →
      S (one.term (term_layer one (term_of FormRelated TermRelated y)))
      (other.term (term_layer other (term_of FormRelated TermRelated y)))

  related_node : FormsKeep → FormsHave FormRelated TermRelated
  related_node forms y =
      let x = form_of FormRelated TermRelated y in
      subst (λ c. R (fold_form one (roll-CForm x)) c) (sym (fold_form_at other x))
      (subst (λ a. R a (other.form (form_layer other x))) (sym (fold_form_at one x)) (forms y))

  related_term_node : TermsKeep → TermsHave FormRelated TermRelated
  related_term_node terms y =
      let x = term_of FormRelated TermRelated y in
      subst (λ c. S (fold_term one (roll-CTerm x)) c) (sym (fold_term_at other x))
      (subst (λ a. S a (other.term (term_layer other x))) (sym (fold_term_at one x)) (terms y))

  pub forms_related : FormsKeep → TermsKeep → (f : CForm) → FormRelated f
  forms_related forms terms f =
      each_form FormRelated TermRelated (related_node forms) (related_term_node terms) f

  pub terms_related : FormsKeep → TermsKeep → (t : CTerm) → TermRelated t
  terms_related forms terms t =
      each_term FormRelated TermRelated (related_node forms) (related_term_node terms) t
