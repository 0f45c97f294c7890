-- What a fold makes of a tree depends on the slots and parameters that occur in it; so a formula is as true with a
-- variable more, where it names the variables before.
use Rattle.std.proofs.Common.{◌≡◌, ℕ, zero, suc, ◌<◌, ℤ, List, [], ◌∷◌, ◌++◌, Bool, true, false, cond, ◌||◌}
use Rattle.std.proofs.Common.{refl, sym, ap, ◌∙◌, length, eq-eqb, arith}
use Rattle.core_terms.specs.declared.trees.CTerm.{CTerm}
use Rattle.core_terms.specs.declared.trees.CForm.{CForm}
use Rattle.core_terms.specs.declared.trees.CForm.TheOpen.{CTerm-F, CForm-F}
use Rattle.core_terms.specs.declared.trees.CForm.TheFolds.{map-CTerm}
use Rattle.core_terms.specs.Values.{number_at, form_step}
use Rattle.core_terms.proofs.TreeFolds.{Steps, FormWith, TermWith, form_of, term_of, fold_form, fold_term}
use Rattle.core_terms.proofs.TreeFolds.{form_layer, term_layer, fold_form_at, fold_term_at, FormsHave, TermsHave}
use Rattle.core_terms.proofs.TreeFolds.{each_form, each_term}
use Rattle.obligations.specs.declared.branches.Variable.{Variable}
use Rattle.obligations.specs.LinearForms.{is_named, place_of}
use Rattle.obligations.specs.Settling.{term_at_step, term_at, form_at}
use Rattle.obligations.specs.Variables.{has_step, part_has, term_has, form_has}

or_left : (a b : Bool) → a ≡ true → (a || b) ≡ true
or_left a b e = ap (λ z. z || b) e

pub or_right : (a b : Bool) → b ≡ true → (a || b) ≡ true
or_right true b e = refl
or_right false b e = e

-- the steps of whether the slot or parameter of this number occurs
abbrev has_steps : Bool → ℕ → Steps Bool Bool
has_steps param n = record { form = part_has; term = has_step param n }

-- whether a node itself is that slot or parameter
abbrev pub is_here : {A B : Type 0} → Bool → ℕ → CTerm-F A B → Bool
is_here {A} {B} param n x = has_step param n (map-CTerm A B Bool Bool (λ a. false) (λ b. false) x)

-- two folds whose steps agree, where what a node itself is has the same worth in both
module _ {A B : Type 0} (one other : Steps A B) (Same : Bool → ℕ → Type 0)
    (forms : (x : CForm-F A B) → one.form x ≡ other.form x)
    (terms : (x : CTerm-F A B) → ((param : Bool) (n : ℕ) → is_here param n x ≡ true → Same param n) →
    one.term x ≡ other.term x) where
  abbrev FormSame : CForm → Type 0
  FormSame f =
      ((param : Bool) (n : ℕ) → form_has param n f ≡ true → Same param n) → fold_form one f ≡ fold_form other f

  abbrev TermSame : CTerm → Type 0
  TermSame t =
      ((param : Bool) (n : ℕ) → term_has param n t ≡ true → Same param n) → fold_term one t ≡ fold_term other t

  abbrev Forms : Type 0
  Forms = CForm-F (FormWith FormSame TermSame) (TermWith FormSame TermSame)

  abbrev Terms : Type 0
  Terms = CTerm-F (FormWith FormSame TermSame) (TermWith FormSame TermSame)

  abbrev form_parts : Forms → CForm-F CForm CTerm
  form_parts y = form_of FormSame TermSame y

  abbrev term_parts : Terms → CTerm-F CForm CTerm
  term_parts y = term_of FormSame TermSame y

  -- of a node, that each slot and parameter that occurs in its parts has the same worth
  abbrev AllIn : CForm-F CForm CTerm → Type 0
  AllIn x = (param : Bool) (n : ℕ) → part_has (form_layer (has_steps param n) x) ≡ true → Same param n

  abbrev AllInTerm : CTerm-F CForm CTerm → Type 0
  AllInTerm x = (param : Bool) (n : ℕ) → has_step param n (term_layer (has_steps param n) x) ≡ true → Same param n

  same_forms : (y : Forms) → AllIn (form_parts y) → form_layer one (form_parts y) ≡ form_layer other (form_parts y)
  same_forms CForm-F.Top all = refl
  same_forms CForm-F.Bottom all = refl
  same_forms (CForm-F.AtLeast t) all = ap CForm-F.AtLeast (t.1 all)
  same_forms (CForm-F.Zero t) all = ap CForm-F.Zero (t.1 all)
  same_forms (CForm-F.Not f) all = ap CForm-F.Not (f.1 all)
  same_forms (CForm-F.And f g) all =
      λ i. CForm-F.And (f.1 (λ param n e. all param n (or_left _ (form_has param n g.0) e)) i)
      (g.1 (λ param n e. all param n (or_right (form_has param n f.0) _ e)) i)
  same_forms (CForm-F.Or f g) all =
      λ i. CForm-F.Or (f.1 (λ param n e. all param n (or_left _ (form_has param n g.0) e)) i)
      (g.1 (λ param n e. all param n (or_right (form_has param n f.0) _ e)) i)

  same_terms : (y : Terms) → AllInTerm (term_parts y) →
      term_layer one (term_parts y) ≡ term_layer other (term_parts y)
  same_terms (CTerm-F.Const c) all = refl
  same_terms (CTerm-F.Slot n) all = refl
  same_terms (CTerm-F.Param n) all = refl
  same_terms (CTerm-F.Add a b) all =
      λ i. CTerm-F.Add (a.1 (λ param n e. all param n (or_left _ (term_has param n b.0) e)) i)
      (b.1 (λ param n e. all param n (or_right (term_has param n a.0) _ e)) i)
  same_terms (CTerm-F.Sub a b) all =
      λ i. CTerm-F.Sub (a.1 (λ param n e. all param n (or_left _ (term_has param n b.0) e)) i)
      (b.1 (λ param n e. all param n (or_right (term_has param n a.0) _ e)) i)
  same_terms (CTerm-F.Scale k a) all = ap (CTerm-F.Scale k) (a.1 all)
  same_terms (CTerm-F.Div a k) all = ap (λ t. CTerm-F.Div t k) (a.1 all)
  same_terms (CTerm-F.Mod a k) all = ap (λ t. CTerm-F.Mod t k) (a.1 all)
  same_terms (CTerm-F.Ite c a b) all =
      λ i. CTerm-F.Ite
      (c.1 (λ param n e. all param n (or_left _ (term_has param n a.0 || term_has param n b.0) e)) i)
      (a.1 (λ param n e. all param n (or_right (form_has param n c.0) _ (or_left _ (term_has param n b.0) e))) i)
      (b.1 (λ param n e. all param n (or_right (form_has param n c.0) _ (or_right (term_has param n a.0) _ e))) i)

  -- what a node itself is occurs in it
  here_occurs : (x : CTerm-F CForm CTerm) (param : Bool) (n : ℕ) → is_here param n (term_layer other x) ≡ true →
      has_step param n (term_layer (has_steps param n) x) ≡ true
  here_occurs (CTerm-F.Const c) param n e = e
  here_occurs (CTerm-F.Slot m) param n e = e
  here_occurs (CTerm-F.Param m) param n e = e
  here_occurs (CTerm-F.Add a b) param n e = cc e
  here_occurs (CTerm-F.Sub a b) param n e = cc e
  here_occurs (CTerm-F.Scale k a) param n e = cc e
  here_occurs (CTerm-F.Div a k) param n e = cc e
  here_occurs (CTerm-F.Mod a k) param n e = cc e
  here_occurs (CTerm-F.Ite c a b) param n e = cc e

  form_node : FormsHave FormSame TermSame
  form_node y all =
      let x = form_parts y in
      let inside : AllIn x = λ param n e. all param n (fold_form_at (has_steps param n) x ∙ e) in
      fold_form_at one x ∙ ap one.form (same_forms y inside) ∙ forms (form_layer other x) ∙ sym (fold_form_at other x)

  term_node : TermsHave FormSame TermSame
  term_node y all =
      let x = term_parts y in
      let inside : AllInTerm x = λ param n e. all param n (fold_term_at (has_steps param n) x ∙ e) in
      fold_term_at one x ∙ ap one.term (same_terms y inside)
      ∙ terms (term_layer other x) (λ param n e. inside param n (here_occurs x param n e)) ∙ sym (fold_term_at other x)

  pub form_same : (f : CForm) → FormSame f
  form_same f = each_form FormSame TermSame form_node term_node f

  pub term_same : (t : CTerm) → TermSame t
  term_same t = each_term FormSame TermSame form_node term_node t

-- the steps of the values at values of the variables
abbrev pub value_steps_at : List Variable → List ℤ → Steps Bool ℤ
value_steps_at vs values = record { form = form_step; term = term_at_step vs values }

-- a tree's value, where each slot and parameter that occurs has the same value
module _ (vs us : List Variable) (values worths : List ℤ) where
  abbrev Found : Bool → ℕ → Type 0
  Found param n = number_at values (place_of vs param n) ≡ number_at worths (place_of us param n)

  values_agree : (x : CTerm-F Bool ℤ) → ((param : Bool) (n : ℕ) → is_here param n x ≡ true → Found param n) →
      term_at_step vs values x ≡ term_at_step us worths x
  values_agree (CTerm-F.Const c) all = refl
  values_agree (CTerm-F.Slot n) all = all false n (eq-eqb n n refl)
  values_agree (CTerm-F.Param n) all = all true n (eq-eqb n n refl)
  values_agree (CTerm-F.Add a b) all = refl
  values_agree (CTerm-F.Sub a b) all = refl
  values_agree (CTerm-F.Scale k a) all = refl
  values_agree (CTerm-F.Div a k) all = refl
  values_agree (CTerm-F.Mod a k) all = refl
  values_agree (CTerm-F.Ite c a b) all = refl

  pub form-same : (f : CForm) → ((param : Bool) (n : ℕ) → form_has param n f ≡ true → Found param n) →
      form_at vs values f ≡ form_at us worths f
  form-same f all =
      form_same (value_steps_at vs values) (value_steps_at us worths) Found (λ x. refl) values_agree f all

  pub term-same : (t : CTerm) → ((param : Bool) (n : ℕ) → term_has param n t ≡ true → Found param n) →
      term_at vs values t ≡ term_at us worths t
  term-same t all =
      term_same (value_steps_at vs values) (value_steps_at us worths) Found (λ x. refl) values_agree t all

-- Places and numbers of a list that grows at its end.
here-grows : (b : Bool) (m n l : ℕ) → cond b zero (suc n) < suc l → (n < l → m ≡ n) →
    cond b zero (suc m) ≡ cond b zero (suc n)
here-grows true m n l h k = refl
here-grows false m n l h k = ap suc (k (omega (arith, h)))

pub place-grows : (vs : List Variable) (w : Variable) (param : Bool) (n : ℕ) → place_of vs param n < length vs →
    place_of (vs ++ w ∷ []) param n ≡ place_of vs param n
place-grows [] w param n h = absurd (omega (arith, h))
place-grows (v ∷ vs) w param n h =
    here-grows (is_named v param n) (place_of (vs ++ w ∷ []) param n) (place_of vs param n) (length vs) h
    (place-grows vs w param n)

pub number-grows : (values more : List ℤ) (n : ℕ) → n < length values →
    number_at (values ++ more) n ≡ number_at values n
number-grows [] more n h = absurd (omega (arith, h))
number-grows (x ∷ values) more zero h = refl
number-grows (x ∷ values) more (suc n) h = number-grows values more n (omega (arith, h))

-- a formula that names the variables is as true with one more
pub form-grows : (vs : List Variable) (w : Variable) (values : List ℤ) (z : ℤ) (f : CForm) →
    length values ≡ length vs →
    ((param : Bool) (n : ℕ) → form_has param n f ≡ true → place_of vs param n < length vs) →
    form_at (vs ++ w ∷ []) (values ++ z ∷ []) f ≡ form_at vs values f
form-grows vs w values z f long names =
    form-same (vs ++ w ∷ []) vs (values ++ z ∷ []) values f (λ param n e.
    let h = names param n e in
    ap (number_at (values ++ z ∷ [])) (place-grows vs w param n h)
    ∙ number-grows values (z ∷ []) (place_of vs param n) (omega (arith, h, long)))

pub term-grows : (vs : List Variable) (w : Variable) (values : List ℤ) (z : ℤ) (t : CTerm) →
    length values ≡ length vs →
    ((param : Bool) (n : ℕ) → term_has param n t ≡ true → place_of vs param n < length vs) →
    term_at (vs ++ w ∷ []) (values ++ z ∷ []) t ≡ term_at vs values t
term-grows vs w values z t long names =
    term-same (vs ++ w ∷ []) vs (values ++ z ∷ []) values t (λ param n e.
    let h = names param n e in
    ap (number_at (values ++ z ∷ [])) (place-grows vs w param n h)
    ∙ number-grows values (z ∷ []) (place_of vs param n) (omega (arith, h, long)))
