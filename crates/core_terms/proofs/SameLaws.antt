-- The test of equal trees passes at equal trees alone.
use Rattle.std.proofs.Common.{◌≡◌, ℕ, nat_eq, ℤ, Bool, true, false, ◌&&◌, IsTrue, refl, sym, ap, ◌∙◌, subst, arith, inl}
use Rattle.std.proofs.Common.{inr}
use Rattle.std.specs.Prelude.{◌↔◌}
use Rattle.std.proofs.lemmas.Int.{ints}
use Rattle.std.proofs.lemmas.Bool.Decides.{eqb_tells}
use borrow.Author.Differences.{le-true}
use Rattle.std.specs.Int.RustNames.{int_le}
use Rattle.core_terms.proofs.BoolLaws.{and_left, and_right, both_true, le_passes, self_equal}
use Rattle.meaning_states.specs.State.{int_eq}
use Rattle.core_terms.specs.declared.trees.CTerm.{CTerm, out-CTerm, out-roll-CTerm, roll-out-CTerm, roll-CTerm}
use Rattle.core_terms.specs.declared.trees.CForm.{CForm, out-CForm, out-roll-CForm, roll-out-CForm, roll-CForm}
use Rattle.core_terms.specs.declared.trees.CForm.TheOpen.{CTerm-F, CForm-F}
use Rattle.core_terms.proofs.TreeFolds.{Steps, FormWith, TermWith, form_of, term_of, form_layer, term_layer}
use Rattle.core_terms.proofs.TreeFolds.{fold_form_at, fold_term_at, FormsHave, TermsHave, each_form, each_term}
use Rattle.core_terms.specs.Trees.{same_forms, same_terms, same_form, same_term}

ints_same : (a b : ℤ) → IsTrue (int_eq a b) → a ≡ b
ints_same a b t =
    let low = le-true a b (and_left (int_le a b) (int_le b a) t) in
    let high = le-true b a (and_right (int_le a b) (int_le b a) t) in omega (arith, ints)

le_self : (a : ℤ) → IsTrue (int_le a a)
le_self a = le_passes a a (omega (arith, ints))

int_self : (a : ℤ) → IsTrue (int_eq a a)
int_self a = both_true (int_le a a) (int_le a a) (le_self a) (le_self a)

nats_same : (m n : ℕ) → IsTrue (nat_eq m n) → m ≡ n
nats_same m n t = elim (eqb_tells m n) [
  | inl w ↦ w.1
  | inr w ↦ let no = w.0 in cc
]

abbrev Tests : Type 0
Tests = CForm → Bool

abbrev TermTests : Type 0
TermTests = CTerm → Bool

-- the steps of the test of equal trees
abbrev same_steps : Steps Tests TermTests
same_steps = record { form = λ x f. same_forms x (out-CForm f); term = λ x t. same_terms x (out-CTerm t) }

module _ where
  abbrev FormIs : CForm → Type 0
  FormIs f = ((g : CForm) → IsTrue (same_form f g) → f ≡ g) × IsTrue (same_form f f)

  abbrev TermIs : CTerm → Type 0
  TermIs t = ((u : CTerm) → IsTrue (same_term t u) → t ≡ u) × IsTrue (same_term t t)

  abbrev Forms : Type 0
  Forms = CForm-F (FormWith FormIs TermIs) (TermWith FormIs TermIs)

  abbrev Terms : Type 0
  Terms = CTerm-F (FormWith FormIs TermIs) (TermWith FormIs TermIs)

  abbrev trees : Forms → CForm-F CForm CTerm
  trees y = form_of FormIs TermIs y

  abbrev term_trees : Terms → CTerm-F CForm CTerm
  term_trees y = term_of FormIs TermIs y

  -- a node of tests, from a node of trees
  abbrev tests : CForm-F CForm CTerm → CForm-F Tests TermTests
  tests x = form_layer same_steps x

  abbrev term_tests : CTerm-F CForm CTerm → CTerm-F Tests TermTests
  term_tests x = term_layer same_steps x

  same_roll : (x : CForm-F CForm CTerm) (g : CForm) → same_form (roll-CForm x) g ≡ same_forms (tests x) (out-CForm g)
  same_roll x g = ap (λ (h : Tests). h g) (fold_form_at same_steps x)

  same_roll_term : (x : CTerm-F CForm CTerm) (u : CTerm) → same_term (roll-CTerm x) u ≡ same_terms (term_tests x)
      (out-CTerm u)
  same_roll_term x u = ap (λ (h : TermTests). h u) (fold_term_at same_steps x)

  -- parts that pass both tests are equal
  forms_are : (e : FormWith FormIs TermIs) (g : CForm) (b : Bool) → IsTrue (same_form e.0 g && b) → e.0 ≡ g
  forms_are e g b t = e.1.0 g (and_left (same_form e.0 g) b t)

  terms_are : (e : TermWith FormIs TermIs) (u : CTerm) (b : Bool) → IsTrue (same_term e.0 u && b) → e.0 ≡ u
  terms_are e u b t = e.1.0 u (and_left (same_term e.0 u) b t)

  form_case : (y : Forms) (z : CForm-F CForm CTerm) → IsTrue (same_forms (tests (trees y)) z) → trees y ≡ z
  form_case CForm-F.Top CForm-F.Top t = refl
  form_case CForm-F.Bottom CForm-F.Bottom t = refl
  form_case (CForm-F.AtLeast a) (CForm-F.AtLeast b) t = ap CForm-F.AtLeast (a.1.0 b t)
  form_case (CForm-F.Zero a) (CForm-F.Zero b) t = ap CForm-F.Zero (a.1.0 b t)
  form_case (CForm-F.Not a) (CForm-F.Not b) t = ap CForm-F.Not (a.1.0 b t)
  form_case (CForm-F.And a b) (CForm-F.And c d) t =
      let two = b.1.0 d (and_right (same_form a.0 c) (same_form b.0 d) t) in
      λ i. CForm-F.And (forms_are a c _ t i) (two i)
  form_case (CForm-F.Or a b) (CForm-F.Or c d) t =
      let two = b.1.0 d (and_right (same_form a.0 c) (same_form b.0 d) t) in
      λ i. CForm-F.Or (forms_are a c _ t i) (two i)
  form_case _ _ t = cc

  term_case : (y : Terms) (z : CTerm-F CForm CTerm) → IsTrue (same_terms (term_tests (term_trees y)) z) → term_trees y ≡
      z
  term_case (CTerm-F.Const c) (CTerm-F.Const d) t = ap CTerm-F.Const (ints_same c d t)
  term_case (CTerm-F.Slot m) (CTerm-F.Slot n) t = ap CTerm-F.Slot (nats_same m n t)
  term_case (CTerm-F.Param m) (CTerm-F.Param n) t = ap CTerm-F.Param (nats_same m n t)
  term_case (CTerm-F.Add a b) (CTerm-F.Add c d) t =
      let two = b.1.0 d (and_right (same_term a.0 c) (same_term b.0 d) t) in
      λ i. CTerm-F.Add (terms_are a c _ t i) (two i)
  term_case (CTerm-F.Sub a b) (CTerm-F.Sub c d) t =
      let two = b.1.0 d (and_right (same_term a.0 c) (same_term b.0 d) t) in
      λ i. CTerm-F.Sub (terms_are a c _ t i) (two i)
  term_case (CTerm-F.Scale k a) (CTerm-F.Scale l b) t =
      let number = ints_same k l (and_left (int_eq k l) (same_term a.0 b) t) in
      let part = a.1.0 b (and_right (int_eq k l) (same_term a.0 b) t) in
      λ i. CTerm-F.Scale (number i) (part i)
  term_case (CTerm-F.Div a k) (CTerm-F.Div b l) t =
      let number = ints_same k l (and_left (int_eq k l) (same_term a.0 b) t) in
      let part = a.1.0 b (and_right (int_eq k l) (same_term a.0 b) t) in
      λ i. CTerm-F.Div (part i) (number i)
  term_case (CTerm-F.Mod a k) (CTerm-F.Mod b l) t =
      let number = ints_same k l (and_left (int_eq k l) (same_term a.0 b) t) in
      let part = a.1.0 b (and_right (int_eq k l) (same_term a.0 b) t) in
      λ i. CTerm-F.Mod (part i) (number i)
  term_case (CTerm-F.Ite c a b) (CTerm-F.Ite d p q) t =
      let rest = and_right (same_form c.0 d) (same_term a.0 p && same_term b.0 q) t in
      let two = b.1.0 q (and_right (same_term a.0 p) (same_term b.0 q) rest) in
      λ i. CTerm-F.Ite (forms_are c d _ t i) (terms_are a p _ rest i) (two i)
  term_case _ _ t = cc

  form_self : (y : Forms) → IsTrue (same_forms (tests (trees y)) (trees y))
  form_self CForm-F.Top = refl
  form_self CForm-F.Bottom = refl
  form_self (CForm-F.AtLeast a) = a.1.1
  form_self (CForm-F.Zero a) = a.1.1
  form_self (CForm-F.Not a) = a.1.1
  form_self (CForm-F.And a b) = both_true (same_form a.0 a.0) (same_form b.0 b.0) a.1.1 b.1.1
  form_self (CForm-F.Or a b) = both_true (same_form a.0 a.0) (same_form b.0 b.0) a.1.1 b.1.1

  term_self : (y : Terms) → IsTrue (same_terms (term_tests (term_trees y)) (term_trees y))
  term_self (CTerm-F.Const c) = int_self c
  term_self (CTerm-F.Slot m) = self_equal m
  term_self (CTerm-F.Param m) = self_equal m
  term_self (CTerm-F.Add a b) = both_true (same_term a.0 a.0) (same_term b.0 b.0) a.1.1 b.1.1
  term_self (CTerm-F.Sub a b) = both_true (same_term a.0 a.0) (same_term b.0 b.0) a.1.1 b.1.1
  term_self (CTerm-F.Scale k a) = both_true (int_eq k k) (same_term a.0 a.0) (int_self k) a.1.1
  term_self (CTerm-F.Div a k) = both_true (int_eq k k) (same_term a.0 a.0) (int_self k) a.1.1
  term_self (CTerm-F.Mod a k) = both_true (int_eq k k) (same_term a.0 a.0) (int_self k) a.1.1
  term_self (CTerm-F.Ite c a b) = both_true (same_form c.0 c.0) (same_term a.0 a.0 && same_term b.0 b.0) c.1.1
      (both_true (same_term a.0 a.0) (same_term b.0 b.0) a.1.1 b.1.1)

  form_node : FormsHave FormIs TermIs
  form_node y = (
    λ g t. ap roll-CForm (form_case y (out-CForm g) (sym (same_roll (trees y) g) ∙ t)) ∙ roll-out-CForm g,
    same_roll (trees y) (roll-CForm (trees y)) ∙ ap (λ z. same_forms (tests (trees y)) z) (out-roll-CForm (trees y)) ∙
        form_self y,
  )

  term_node : TermsHave FormIs TermIs
  term_node y = (
    λ u t. ap roll-CTerm (term_case y (out-CTerm u) (sym (same_roll_term (term_trees y) u) ∙ t)) ∙ roll-out-CTerm u,
    same_roll_term (term_trees y) (roll-CTerm (term_trees y)) ∙ ap (λ z. same_terms (term_tests (term_trees y)) z)
        (out-roll-CTerm (term_trees y)) ∙ term_self y,
  )

  form_is : (f : CForm) → FormIs f
  form_is f = each_form FormIs TermIs form_node term_node f

  term_is : (t : CTerm) → TermIs t
  term_is t = each_term FormIs TermIs form_node term_node t

pub same_form_is : (f g : CForm) → IsTrue (same_form f g) → f ≡ g
same_form_is f g t = (form_is f).0 g t

pub same_form_self : (f : CForm) → IsTrue (same_form f f)
same_form_self f = (form_is f).1

pub same_term_is : (t u : CTerm) → IsTrue (same_term t u) → t ≡ u
same_term_is t u h = (term_is t).0 u h

pub same_term_self : (t : CTerm) → IsTrue (same_term t t)
same_term_self t = (term_is t).1

-- a test that passes exactly at equal trees is the test of equal trees
pub same_is : (b : Bool) (f g : CForm) → IsTrue b ↔ (f ≡ g) → b ≡ same_form f g
same_is true f g iff = sym (subst (λ h. IsTrue (same_form f h)) (iff.0 refl) (same_form_self f))
same_is false f g iff = go (same_form f g) refl
  where
    go : (c : Bool) → same_form f g ≡ c → false ≡ c
    go true e = let yes = iff.1 (same_form_is f g e) in cc
    go false e = refl
