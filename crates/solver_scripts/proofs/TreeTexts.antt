-- The texts of terms and formulas, kind by kind, as they are put.
use Rattle.std.proofs.Common.{◌≡◌, ℕ, ℤ, pos, negsuc, List, ◌++◌, codes, decimal, true, false, refl, sym, ap, ◌∙◌}
use Rattle.std.proofs.Common.{arith, append_assoc}
use Rattle.std.specs.Int.RustNames.{int_lt, unsigned_abs}
use Rattle.std.proofs.lemmas.Fmt.{decimal_digit}
use borrow.Author.Differences.{lt-true, lt-false}
use Rattle.meaning_states.specs.Division.{divisor}
use Rattle.core_terms.specs.declared.trees.CTerm.{CTerm}
use Rattle.core_terms.specs.declared.trees.CTerm.TheVariants.{Const, Slot, Param, Add, Sub, Scale, Div, Mod, Ite}
use Rattle.core_terms.specs.declared.trees.CTerm.TheVariants.{rolls-Const, rolls-Slot, rolls-Param, rolls-Add}
use Rattle.core_terms.specs.declared.trees.CTerm.TheVariants.{rolls-Sub, rolls-Scale, rolls-Div, rolls-Mod, rolls-Ite}
use Rattle.core_terms.specs.declared.trees.CForm.{CForm}
use Rattle.core_terms.specs.declared.trees.CForm.TheVariants.{Top, Bottom, AtLeast, Zero, Not, And, Or, rolls-Top}
use Rattle.core_terms.specs.declared.trees.CForm.TheVariants.{rolls-Bottom, rolls-AtLeast, rolls-Zero, rolls-Not}
use Rattle.core_terms.specs.declared.trees.CForm.TheVariants.{rolls-And, rolls-Or}
use Rattle.core_terms.proofs.TreeFolds.{Steps, fold_form_is, fold_term_is}
use Rattle.solver_scripts.specs.Naming.{Naming}
use Rattle.solver_scripts.specs.Terms.{IntTerm, BoolTerm, symbol_text, pair_text, int_text, bool_text}
use Rattle.solver_scripts.specs.Forms.{constant, int_step, bool_step, int_term, bool_term}

-- a number below 0, and one that is not
pub negative_constant : (z : ℤ) → int_lt z (pos 0) ≡ true →
    codes "(- " ++ decimal (unsigned_abs z) ++ codes ")" ≡ int_text (constant z)
negative_constant (pos n) h = absurd (omega (arith, lt-true (pos n) (pos 0) h))
negative_constant (negsuc n) h = refl

pub positive_constant : (z : ℤ) → int_lt z (pos 0) ≡ false → decimal (unsigned_abs z) ≡ int_text (constant z)
positive_constant (pos n) h = refl
positive_constant (negsuc n) h = absurd (omega (arith, lt-false (negsuc n) (pos 0) h))

zero_digit : decimal 0 ≡ codes "0"
zero_digit = decimal_digit 0 (omega arith)

-- that a term is 0
zero_text : (t : List ℕ) → t ++ codes " 0)" ≡ pair_text t (decimal 0)
zero_text t =
    sym (append_assoc (t ++ codes " ") (codes "0") (codes ")") ∙ append_assoc t (codes " ") (codes "0)"))
    ∙ ap (pair_text t) (sym zero_digit)

-- the steps of what trees become
abbrev pub steps : Naming → Steps BoolTerm IntTerm
steps name = record { form = bool_step; term = int_step name }

module _ (name : Naming) where
  abbrev T : CTerm → List ℕ
  T t = int_text (int_term name t)

  abbrev F : CForm → List ℕ
  F f = bool_text (bool_term name f)

  pub const_is : (t : CTerm) (z : ℤ) → t ≡ Const z → int_text (constant z) ≡ T t
  const_is t z e = ap int_text (sym (ap (int_term name) e ∙ fold_term_is (steps name) _ _ (rolls-Const z)))

  pub slot_is : (t : CTerm) (n : ℕ) → t ≡ Slot n → symbol_text (name false n) ≡ T t
  slot_is t n e = ap int_text (sym (ap (int_term name) e ∙ fold_term_is (steps name) _ _ (rolls-Slot n)))

  pub param_is : (t : CTerm) (n : ℕ) → t ≡ Param n → symbol_text (name true n) ≡ T t
  param_is t n e = ap int_text (sym (ap (int_term name) e ∙ fold_term_is (steps name) _ _ (rolls-Param n)))

  pub sum_is : (t a b : CTerm) → t ≡ Add a b → codes "(+ " ++ pair_text (T a) (T b) ≡ T t
  sum_is t a b e = ap int_text (sym (ap (int_term name) e ∙ fold_term_is (steps name) _ _ (rolls-Add a b)))

  pub difference_is : (t a b : CTerm) → t ≡ Sub a b → codes "(- " ++ pair_text (T a) (T b) ≡ T t
  difference_is t a b e = ap int_text (sym (ap (int_term name) e ∙ fold_term_is (steps name) _ _ (rolls-Sub a b)))

  pub product_is : (t a : CTerm) (k : ℤ) → t ≡ Scale k a → codes "(* " ++ pair_text (int_text (constant k)) (T a) ≡ T t
  product_is t a k e = ap int_text (sym (ap (int_term name) e ∙ fold_term_is (steps name) _ _ (rolls-Scale k a)))

  pub quotient_is : (t a : CTerm) (k : ℤ) → t ≡ Div a k →
      codes "(div " ++ pair_text (T a) (int_text (constant (divisor k))) ≡ T t
  quotient_is t a k e = ap int_text (sym (ap (int_term name) e ∙ fold_term_is (steps name) _ _ (rolls-Div a k)))

  pub remainder_is : (t a : CTerm) (k : ℤ) → t ≡ Mod a k →
      codes "(mod " ++ pair_text (T a) (int_text (constant (divisor k))) ≡ T t
  remainder_is t a k e = ap int_text (sym (ap (int_term name) e ∙ fold_term_is (steps name) _ _ (rolls-Mod a k)))

  pub choice_is : (t a b : CTerm) (c : CForm) → t ≡ Ite c a b →
      codes "(ite " ++ F c ++ codes " " ++ pair_text (T a) (T b) ≡ T t
  choice_is t a b c e = ap int_text (sym (ap (int_term name) e ∙ fold_term_is (steps name) _ _ (rolls-Ite c a b)))

  pub top_is : (f : CForm) → f ≡ Top → codes "true" ≡ F f
  top_is f e = ap bool_text (sym (ap (bool_term name) e ∙ fold_form_is (steps name) _ _ rolls-Top))

  pub bottom_is : (f : CForm) → f ≡ Bottom → codes "false" ≡ F f
  bottom_is f e = ap bool_text (sym (ap (bool_term name) e ∙ fold_form_is (steps name) _ _ rolls-Bottom))

  pub least_is : (f : CForm) (t : CTerm) → f ≡ AtLeast t → codes "(<= 0 " ++ T t ++ codes ")" ≡ F f
  least_is f t e =
      ap (λ d. codes "(<= " ++ pair_text d (T t)) (sym zero_digit)
      ∙ ap bool_text (sym (ap (bool_term name) e ∙ fold_form_is (steps name) _ _ (rolls-AtLeast t)))

  pub zero_is : (f : CForm) (t : CTerm) → f ≡ Zero t → codes "(= " ++ T t ++ codes " 0)" ≡ F f
  zero_is f t e =
      ap (λ s. codes "(= " ++ s) (zero_text (T t))
      ∙ ap bool_text (sym (ap (bool_term name) e ∙ fold_form_is (steps name) _ _ (rolls-Zero t)))

  pub not_is : (f g : CForm) → f ≡ Not g → bool_text (BoolTerm.negation (bool_term name g)) ≡ F f
  not_is f g e = ap bool_text (sym (ap (bool_term name) e ∙ fold_form_is (steps name) _ _ (rolls-Not g)))

  pub and_is : (f g h : CForm) → f ≡ And g h → codes "(and " ++ pair_text (F g) (F h) ≡ F f
  and_is f g h e = ap bool_text (sym (ap (bool_term name) e ∙ fold_form_is (steps name) _ _ (rolls-And g h)))

  pub or_is : (f g h : CForm) → f ≡ Or g h → codes "(or " ++ pair_text (F g) (F h) ≡ F f
  or_is f g h e = ap bool_text (sym (ap (bool_term name) e ∙ fold_form_is (steps name) _ _ (rolls-Or g h)))
