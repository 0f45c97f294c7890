-- The value of a tree depends on the slots and the parameters that it names, and on nothing else.
use Rattle.std.proofs.Common.{◌≡◌, ℕ, ℤ, List, Bool, ◌||◌, IsTrue, refl, sym, ap, ◌∙◌}
use Rattle.core_terms.specs.declared.trees.CTerm.{CTerm}
use Rattle.core_terms.specs.declared.trees.CForm.{CForm}
use Rattle.core_terms.specs.declared.trees.CForm.TheOpen.{CTerm-F, CForm-F}
use Rattle.core_terms.specs.Values.{number_at, term_step, form_step, term_value, form_value}
use Rattle.core_terms.specs.Places.{only_step, all_parts, form_names_only, term_names_only, param_step, some_part}
use Rattle.core_terms.specs.Places.{names_param, term_names_param}
use Rattle.core_terms.specs.Conditions.{any_place}
use Rattle.core_terms.proofs.BoolLaws.{and_left, and_right, both_true, or_first, or_second, self_equal}
use Rattle.core_terms.proofs.TreeFolds.{Steps, FormWith, TermWith, form_of, term_of, form_layer, term_layer}
use Rattle.core_terms.proofs.TreeFolds.{fold_form_at, fold_term_at, FormsHave, TermsHave, each_form, each_term}
use Rattle.core_terms.proofs.PartLaws.{value_steps}

-- the steps of whether all that is named passes tests
abbrev only : (ℕ → Bool) → (ℕ → Bool) → Steps Bool Bool
only slots params = record { form = all_parts; term = only_step slots params }

module _ (s t d e : List ℤ) (slots params : ℕ → Bool)
    (on_slots : (n : ℕ) → IsTrue (slots n) → number_at s n ≡ number_at t n)
    (on_params : (n : ℕ) → IsTrue (params n) → number_at d n ≡ number_at e n) where
  abbrev FormSame : CForm → Type 0
  FormSame f = IsTrue (form_names_only slots params f) → form_value s d f ≡ form_value t e f

  abbrev TermSame : CTerm → Type 0
  TermSame u = IsTrue (term_names_only slots params u) → term_value s d u ≡ term_value t e u

  abbrev SameForms : Type 0
  SameForms = CForm-F (FormWith FormSame TermSame) (TermWith FormSame TermSame)

  abbrev SameTerms : Type 0
  SameTerms = CTerm-F (FormWith FormSame TermSame) (TermWith FormSame TermSame)

  abbrev parts : SameForms → CForm-F CForm CTerm
  parts y = form_of FormSame TermSame y

  abbrev term_parts : SameTerms → CTerm-F CForm CTerm
  term_parts y = term_of FormSame TermSame y

  form_same : (y : SameForms) → IsTrue (all_parts (form_layer (only slots params) (parts y))) →
      form_step (form_layer (value_steps s d) (parts y)) ≡ form_step (form_layer (value_steps t e) (parts y))
  form_same CForm-F.Top h = refl
  form_same CForm-F.Bottom h = refl
  form_same (CForm-F.AtLeast u) h = ap (λ z. form_step (CForm-F.AtLeast z)) (u.1 h)
  form_same (CForm-F.Zero u) h = ap (λ z. form_step (CForm-F.Zero z)) (u.1 h)
  form_same (CForm-F.Not f) h = ap (λ b. form_step (CForm-F.Not b)) (f.1 h)
  form_same (CForm-F.And f g) h =
      λ i. form_step (CForm-F.And (f.1 (and_left _ _ h) i)
      (g.1 (and_right (form_names_only slots params f.0) _ h) i))
  form_same (CForm-F.Or f g) h =
      λ i. form_step (CForm-F.Or (f.1 (and_left _ _ h) i)
      (g.1 (and_right (form_names_only slots params f.0) _ h) i))

  term_same : (y : SameTerms) → IsTrue (only_step slots params (term_layer (only slots params) (term_parts y))) →
      term_step s d (term_layer (value_steps s d) (term_parts y)) ≡
      term_step t e (term_layer (value_steps t e) (term_parts y))
  term_same (CTerm-F.Const c) h = refl
  term_same (CTerm-F.Slot n) h = on_slots n h
  term_same (CTerm-F.Param n) h = on_params n h
  term_same (CTerm-F.Add a b) h =
      λ i. term_step s d (CTerm-F.Add (a.1 (and_left _ _ h) i)
      (b.1 (and_right (term_names_only slots params a.0) _ h) i))
  term_same (CTerm-F.Sub a b) h =
      λ i. term_step s d (CTerm-F.Sub (a.1 (and_left _ _ h) i)
      (b.1 (and_right (term_names_only slots params a.0) _ h) i))
  term_same (CTerm-F.Scale k a) h = ap (λ z. term_step s d (CTerm-F.Scale k z)) (a.1 h)
  term_same (CTerm-F.Div a k) h = ap (λ z. term_step s d (CTerm-F.Div z k)) (a.1 h)
  term_same (CTerm-F.Mod a k) h = ap (λ z. term_step s d (CTerm-F.Mod z k)) (a.1 h)
  term_same (CTerm-F.Ite c a b) h =
      let rest = and_right (form_names_only slots params c.0) _ h in
      λ i. term_step s d (CTerm-F.Ite (c.1 (and_left _ _ h) i) (a.1 (and_left _ _ rest) i)
      (b.1 (and_right (term_names_only slots params a.0) _ rest) i))

  form_node : FormsHave FormSame TermSame
  form_node y h =
      fold_form_at (value_steps s d) (parts y)
      ∙ form_same y (sym (fold_form_at (only slots params) (parts y)) ∙ h)
      ∙ sym (fold_form_at (value_steps t e) (parts y))

  term_node : TermsHave FormSame TermSame
  term_node y h =
      fold_term_at (value_steps s d) (term_parts y)
      ∙ term_same y (sym (fold_term_at (only slots params) (term_parts y)) ∙ h)
      ∙ sym (fold_term_at (value_steps t e) (term_parts y))

  pub named_form : (f : CForm) → FormSame f
  named_form f = each_form FormSame TermSame form_node term_node f

  pub named_term : (u : CTerm) → TermSame u
  named_term u = each_term FormSame TermSame form_node term_node u

-- the steps of whether a parameter is named
abbrev name_steps : ℕ → Steps Bool Bool
name_steps n = record { form = some_part; term = param_step n }

-- where each named parameter passes a test, the tree names only such
module _ (v : ℕ → Bool) where
  abbrev AllPass : (ℕ → Bool) → Type 0
  AllPass named = (n : ℕ) → IsTrue (named n) → IsTrue (v n)

  abbrev FormOnly : CForm → Type 0
  FormOnly f = AllPass (λ n. names_param n f) → IsTrue (form_names_only any_place v f)

  abbrev TermOnly : CTerm → Type 0
  TermOnly t = AllPass (λ n. term_names_param n t) → IsTrue (term_names_only any_place v t)

  abbrev OnlyForms : Type 0
  OnlyForms = CForm-F (FormWith FormOnly TermOnly) (TermWith FormOnly TermOnly)

  abbrev OnlyTerms : Type 0
  OnlyTerms = CTerm-F (FormWith FormOnly TermOnly) (TermWith FormOnly TermOnly)

  abbrev nodes : OnlyForms → CForm-F CForm CTerm
  nodes y = form_of FormOnly TermOnly y

  abbrev term_nodes : OnlyTerms → CTerm-F CForm CTerm
  term_nodes y = term_of FormOnly TermOnly y

  first : (named others : ℕ → Bool) → AllPass (λ n. named n || others n) → AllPass named
  first named others h n k = h n (or_first (named n) (others n) k)

  second : (named others : ℕ → Bool) → AllPass (λ n. named n || others n) → AllPass others
  second named others h n k = h n (or_second (named n) (others n) k)

  form_only : (y : OnlyForms) → AllPass (λ n. some_part (form_layer (name_steps n) (nodes y))) →
      IsTrue (all_parts (form_layer (only any_place v) (nodes y)))
  form_only CForm-F.Top h = refl
  form_only CForm-F.Bottom h = refl
  form_only (CForm-F.AtLeast t) h = t.1 h
  form_only (CForm-F.Zero t) h = t.1 h
  form_only (CForm-F.Not f) h = f.1 h
  form_only (CForm-F.And f g) h =
      both_true _ _ (f.1 (first _ _ h)) (g.1 (second (λ n. names_param n f.0) _ h))
  form_only (CForm-F.Or f g) h =
      both_true _ _ (f.1 (first _ _ h)) (g.1 (second (λ n. names_param n f.0) _ h))

  term_only : (y : OnlyTerms) → AllPass (λ n. param_step n (term_layer (name_steps n) (term_nodes y))) →
      IsTrue (only_step any_place v (term_layer (only any_place v) (term_nodes y)))
  term_only (CTerm-F.Const c) h = refl
  term_only (CTerm-F.Slot n) h = refl
  term_only (CTerm-F.Param n) h = h n (self_equal n)
  term_only (CTerm-F.Add a b) h =
      both_true _ _ (a.1 (first _ _ h)) (b.1 (second (λ n. term_names_param n a.0) _ h))
  term_only (CTerm-F.Sub a b) h =
      both_true _ _ (a.1 (first _ _ h)) (b.1 (second (λ n. term_names_param n a.0) _ h))
  term_only (CTerm-F.Scale k a) h = a.1 h
  term_only (CTerm-F.Div a k) h = a.1 h
  term_only (CTerm-F.Mod a k) h = a.1 h
  term_only (CTerm-F.Ite c a b) h =
      let rest = second (λ n. names_param n c.0) _ h in
      both_true _ _ (c.1 (first _ _ h)) (both_true _ _ (a.1 (first _ _ rest))
      (b.1 (second (λ n. term_names_param n a.0) _ rest)))

  only_node : FormsHave FormOnly TermOnly
  only_node y h =
      fold_form_at (only any_place v) (nodes y)
      ∙ form_only y (λ n k. h n (fold_form_at (name_steps n) (nodes y) ∙ k))

  only_term_node : TermsHave FormOnly TermOnly
  only_term_node y h =
      fold_term_at (only any_place v) (term_nodes y)
      ∙ term_only y (λ n k. h n (fold_term_at (name_steps n) (term_nodes y) ∙ k))

-- so numbers that agree on the named parameters give the same value
pub form_frame : (s d e : List ℤ) (f : CForm) → ((n : ℕ) → IsTrue (names_param n f) → number_at d n ≡ number_at e n) →
    form_value s d f ≡ form_value s e f
form_frame s d e f agree =
    let v : ℕ → Bool = λ n. names_param n f in
    named_form s s d e any_place v (λ n any. refl) agree f
    (each_form (FormOnly v) (TermOnly v) (only_node v) (only_term_node v) f (λ n t. t))

pub term_frame : (s d e : List ℤ) (t : CTerm) →
    ((n : ℕ) → IsTrue (term_names_param n t) → number_at d n ≡ number_at e n) → term_value s d t ≡ term_value s e t
term_frame s d e t agree =
    let v : ℕ → Bool = λ n. term_names_param n t in
    named_term s s d e any_place v (λ n any. refl) agree t
    (each_term (FormOnly v) (TermOnly v) (only_node v) (only_term_node v) t (λ n t. t))
