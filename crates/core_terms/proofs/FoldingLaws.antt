-- What is known of a tree is its value, and a folded tree is worth what the tree is.
use Rattle.std.proofs.Common.{◌≡◌, ℕ, ◌+◌, ◌*◌, ◌≤◌, max, ℤ, pos, ◌+ℤ◌, ◌-ℤ◌, ◌*ℤ◌, List, Bool, true, false, cond, not}
use Rattle.std.proofs.Common.{◌&&◌, ◌||◌, Option, Some, None, refl, sym, ap, ◌∙◌, subst, arith}
use Rattle.std.proofs.lemmas.Int.{ints, unsigned_abs-mul}
use Rattle.std.proofs.Math.Nat.{mul-le-mul_left}
use Rattle.std.specs.Option.{option_map}
use Rattle.std.specs.Int.RustNames.{int_le, unsigned_abs}
use Rattle.meaning_states.specs.State.{int_eq}
use Rattle.meaning_states.specs.Division.{divisor, floored, rest_of}
use Rattle.core_terms.specs.declared.trees.CTerm.{CTerm}
use Rattle.core_terms.specs.declared.trees.CTerm.TheVariants.{Const, Add, Sub, Scale, Div, Mod, Ite}
use Rattle.core_terms.specs.declared.trees.CForm.{CForm}
use Rattle.core_terms.specs.declared.trees.CForm.TheVariants.{AtLeast, Zero, Not, And, Or}
use Rattle.core_terms.specs.declared.trees.CForm.TheOpen.{CTerm-F, CForm-F}
use Rattle.core_terms.specs.Values.{term_step, form_step, term_value, form_value}
use Rattle.core_terms.specs.Weights.{Weights, weigh_term, term_weights}
use Rattle.core_terms.specs.Folding.{joined, chosen, number_step, truth_step, number_of, truth_of, is_small}
use Rattle.core_terms.specs.Folding.{constant_or, truth_or, branch_or, folded_term, folded_form, sum_term}
use Rattle.core_terms.specs.Folding.{difference_term, scaled_term, quotient_term, remainder_term, choice_term}
use Rattle.core_terms.specs.Folding.{at_least_form, zero_form, not_form, and_form, or_form}
use Rattle.core_terms.proofs.TreeFolds.{Steps, FormWith, TermWith, form_of, term_of, form_layer, term_layer}
use Rattle.core_terms.proofs.TreeFolds.{fold_form_at, fold_term_at, FormsHave, TermsHave, each_form, each_term}
use Rattle.core_terms.proofs.HeavierLaws.{weight_steps}
use Rattle.core_terms.proofs.QuotientLaws.{floored_within, rest_of_within}
use Rattle.core_terms.proofs.PartLaws.{value_steps, value-Const, value-Add, value-Sub, value-Scale, value-Div}
use Rattle.core_terms.proofs.PartLaws.{value-Mod, value-Ite, value-Top}
use Rattle.core_terms.proofs.PartLaws.{value-Bottom, value-AtLeast, value-Zero, value-Not, value-And, value-Or}

-- the steps of what is known
abbrev pub known_steps : Steps (Option Bool) (Option ℤ)
known_steps = record { form = truth_step; term = number_step }

-- a number, where there is one, is the value, and lies within the weight
abbrev pub Right : Option ℤ → ℤ → ℕ → Type 0
Right None v b = Unit {0}
Right (Some z) v b = (v ≡ z) × (unsigned_abs z ≤ b)

-- a truth, where there is one, is the formula's
abbrev pub True : Option Bool → Bool → Type 0
True None v = Unit {0}
True (Some t) v = v ≡ t

right_along : (m n : Option ℤ) (v w : ℤ) (a b : ℕ) → m ≡ n → v ≡ w → a ≡ b → Right n w b → Right m v a
right_along m n v w a b e f g h =
    subst (λ x. Right x v a) (sym e) (subst (λ x. Right n x a) (sym f) (subst (λ x. Right n w x) (sym g) h))

true_along : (m n : Option Bool) (v w : Bool) → m ≡ n → v ≡ w → True n w → True m v
true_along m n v w e f h = subst (λ x. True x v) (sym e) (subst (λ x. True n x) (sym f) h)

right_sum : (m n : Option ℤ) (v w : ℤ) (a b : ℕ) → Right m v a → Right n w b → Right (joined (λ x y. x +ℤ y) m n)
    (v +ℤ w) (a + b)
right_sum None n v w a b h k = tt
right_sum (Some x) None v w a b h k = tt
right_sum (Some x) (Some y) v w a b h k = (ap (λ z. z +ℤ w) h.0 ∙ ap (λ z. x +ℤ z) k.0, omega (arith, ints, h.1, k.1))

right_difference : (m n : Option ℤ) (v w : ℤ) (a b : ℕ) → Right m v a → Right n w b →
    Right (joined (λ x y. x -ℤ y) m n) (v -ℤ w) (a + b)
right_difference None n v w a b h k = tt
right_difference (Some x) None v w a b h k = tt
right_difference (Some x) (Some y) v w a b h k = (
  ap (λ z. z -ℤ w) h.0 ∙ ap (λ z. x -ℤ z) k.0,
  omega
      (arith, ints, h.1, k.1),
)

right_scaled : (k : ℤ) (m : Option ℤ) (v : ℤ) (a : ℕ) → Right m v a →
    Right (option_map (λ x. k *ℤ x) m) (k *ℤ v) (unsigned_abs k * a)
right_scaled k None v a h = tt
right_scaled k (Some x) v a h =
    let within : unsigned_abs k * unsigned_abs x ≤ unsigned_abs k * a = mul-le-mul_left (unsigned_abs k) h.1 in
    (ap (λ z. k *ℤ z) h.0, omega (arith, unsigned_abs-mul k x, within))

right_quotient : (k : ℤ) (m : Option ℤ) (v : ℤ) (a : ℕ) → Right m v a →
    Right (option_map (λ x. floored x k) m) (floored v k) (max 1 a)
right_quotient k None v a h = tt
right_quotient k (Some x) v a h =
    let within = floored_within x k in (ap (λ z. floored z k) h.0, omega (arith, within, h.1))

right_remainder : (k : ℤ) (m : Option ℤ) (v : ℤ) (a : ℕ) → Right m v a →
    Right (option_map (λ x. rest_of x k) m) (rest_of v k) (2 * a + unsigned_abs (divisor k))
right_remainder k None v a h = tt
right_remainder k (Some x) v a h = let within = rest_of_within x k in (ap (λ z. rest_of z k) h.0, omega (arith, within))

right_chosen : (c : Option Bool) (m n : Option ℤ) (t : Bool) (v w : ℤ) (a b : ℕ) → True c t → Right m v a → Right n w b
    →
    Right (chosen c m n) (cond t v w) (max a b)
right_chosen None m n t v w a b g h k = tt
right_chosen (Some c) None n t v w a b g h k = tt
right_chosen (Some c) (Some x) None t v w a b g h k = tt
right_chosen (Some true) (Some x) (Some y) t v w a b g h k = (ap (λ z. cond z v w) g ∙ h.0, omega (arith, h.1, k.1))
right_chosen (Some false) (Some x) (Some y) t v w a b g h k = (ap (λ z. cond z v w) g ∙ k.0, omega (arith, h.1, k.1))

true_tested : (test : ℤ → Bool) (m : Option ℤ) (v : ℤ) (a : ℕ) → Right m v a → True (option_map test m) (test v)
true_tested test None v a h = tt
true_tested test (Some x) v a h = ap test h.0

true_not : (c : Option Bool) (t : Bool) → True c t → True (option_map not c) (not t)
true_not None t h = tt
true_not (Some c) t h = ap not h

true_joined : (op : Bool → Bool → Bool) (c d : Option Bool) (t u : Bool) → True c t → True d u → True (joined op c d)
    (op t u)
true_joined op None d t u h k = tt
true_joined op (Some x) None t u h k = tt
true_joined op (Some x) (Some y) t u h k = ap (λ z. op z u) h ∙ ap (λ z. op x z) k

module _ (s p : List ℤ) (slots params : ℕ → ℕ) where
  abbrev pub FormRight : CForm → Type 0
  FormRight f = True (truth_of f) (form_value s p f)

  abbrev pub TermRight : CTerm → Type 0
  TermRight t = Right (number_of t) (term_value s p t) (term_weights slots params t).own

  abbrev RightForms : Type 0
  RightForms = CForm-F (FormWith FormRight TermRight) (TermWith FormRight TermRight)

  abbrev RightTerms : Type 0
  RightTerms = CTerm-F (FormWith FormRight TermRight) (TermWith FormRight TermRight)

  abbrev parts : RightForms → CForm-F CForm CTerm
  parts y = form_of FormRight TermRight y

  abbrev term_parts : RightTerms → CTerm-F CForm CTerm
  term_parts y = term_of FormRight TermRight y

  form_keeps : (y : RightForms) → True (truth_step (form_layer known_steps (parts y)))
      (form_step (form_layer (value_steps s p) (parts y)))
  form_keeps CForm-F.Top = refl
  form_keeps CForm-F.Bottom = refl
  form_keeps (CForm-F.AtLeast t) = true_tested (λ z. int_le (pos 0) z) _ _ _ t.1
  form_keeps (CForm-F.Zero t) = true_tested (λ z. int_eq z (pos 0)) _ _ _ t.1
  form_keeps (CForm-F.Not f) = true_not _ _ f.1
  form_keeps (CForm-F.And f g) = true_joined (λ x y. x && y) _ _ _ _ f.1 g.1
  form_keeps (CForm-F.Or f g) = true_joined (λ x y. x || y) _ _ _ _ f.1 g.1

  term_keeps : (y : RightTerms) → Right (number_step (term_layer known_steps (term_parts y)))
      (term_step s p (term_layer (value_steps s p) (term_parts y)))
      (weigh_term slots params (term_layer (weight_steps slots params) (term_parts y))).own
  term_keeps (CTerm-F.Const c) = (refl, omega arith)
  term_keeps (CTerm-F.Slot n) = tt
  term_keeps (CTerm-F.Param n) = tt
  term_keeps (CTerm-F.Add a b) = right_sum _ _ _ _ _ _ a.1 b.1
  term_keeps (CTerm-F.Sub a b) = right_difference _ _ _ _ _ _ a.1 b.1
  term_keeps (CTerm-F.Scale k a) = right_scaled k _ _ _ a.1
  term_keeps (CTerm-F.Div a k) = right_quotient k _ _ _ a.1
  term_keeps (CTerm-F.Mod a k) = right_remainder k _ _ _ a.1
  term_keeps (CTerm-F.Ite c a b) = right_chosen _ _ _ _ _ _ _ _ c.1 a.1 b.1

  form_node : FormsHave FormRight TermRight
  form_node y =
      true_along _ _ _ _ (fold_form_at known_steps (parts y)) (fold_form_at (value_steps s p) (parts y)) (form_keeps y)

  term_node : TermsHave FormRight TermRight
  term_node y =
      right_along _ _ _ _ _ _ (fold_term_at known_steps (term_parts y)) (fold_term_at (value_steps s p) (term_parts y))
      (ap (λ (w : Weights). w.own) (fold_term_at (weight_steps slots params) (term_parts y))) (term_keeps y)

  pub form_right : (f : CForm) → FormRight f
  form_right f = each_form FormRight TermRight form_node term_node f

  pub term_right : (t : CTerm) → TermRight t
  term_right t = each_term FormRight TermRight form_node term_node t

-- where weights do not matter
abbrev none : ℕ → ℕ
none n = 0

constant_value : (s p : List ℤ) (t : CTerm) (m : Option ℤ) (b : ℕ) → Right m (term_value s p t) b → term_value s p
    (constant_or m t) ≡ term_value s p t
constant_value s p t None b h = refl
constant_value s p t (Some z) b h = elim (is_small z) as (λ v. term_value s p (cond v (Const z) t) ≡ term_value s p t) [
  | true ↦ value-Const s p z ∙ sym h.0
  | false ↦ refl
]

truth_value : (s p : List ℤ) (f : CForm) (m : Option Bool) → True m (form_value s p f) → form_value s p (truth_or m f) ≡
    form_value s p f
truth_value s p f None h = refl
truth_value s p f (Some true) h = value-Top s p ∙ sym h
truth_value s p f (Some false) h = value-Bottom s p ∙ sym h

pub value-folded_term : (s p : List ℤ) (t : CTerm) → term_value s p (folded_term t) ≡ term_value s p t
value-folded_term s p t = constant_value s p t (number_of t) _ (term_right s p none none t)

pub value-folded_form : (s p : List ℤ) (f : CForm) → form_value s p (folded_form f) ≡ form_value s p f
value-folded_form s p f = truth_value s p f (truth_of f) (form_right s p none none f)

-- the value of what each constructor makes
pub value-sum_term : (s p : List ℤ) (a b : CTerm) → term_value s p (sum_term a b) ≡ term_value s p a +ℤ term_value s p b
value-sum_term s p a b = value-folded_term s p (Add a b) ∙ value-Add s p a b

pub value-difference_term : (s p : List ℤ) (a b : CTerm) → term_value s p (difference_term a b) ≡ term_value s p a -ℤ
    term_value s p b
value-difference_term s p a b = value-folded_term s p (Sub a b) ∙ value-Sub s p a b

pub value-scaled_term : (s p : List ℤ) (k : ℤ) (a : CTerm) → term_value s p (scaled_term k a) ≡ k *ℤ term_value s p a
value-scaled_term s p k a = value-folded_term s p (Scale k a) ∙ value-Scale s p k a

pub value-quotient_term : (s p : List ℤ) (k : ℤ) (a : CTerm) → term_value s p (quotient_term k a) ≡ floored
    (term_value s p a) k
value-quotient_term s p k a = value-folded_term s p (Div a k) ∙ value-Div s p a k

pub value-remainder_term : (s p : List ℤ) (k : ℤ) (a : CTerm) → term_value s p (remainder_term k a) ≡ rest_of
    (term_value s p a) k
value-remainder_term s p k a = value-folded_term s p (Mod a k) ∙ value-Mod s p a k

branch_value : (s p : List ℤ) (c : CForm) (a b : CTerm) (m : Option Bool) → True m (form_value s p c) →
    term_value s p (branch_or m a b (Ite c a b)) ≡ cond (form_value s p c) (term_value s p a) (term_value s p b)
branch_value s p c a b None h = value-Ite s p c a b
branch_value s p c a b (Some true) h = ap (λ v. cond v (term_value s p a) (term_value s p b)) (sym h)
branch_value s p c a b (Some false) h = ap (λ v. cond v (term_value s p a) (term_value s p b)) (sym h)

pub value-choice_term : (s p : List ℤ) (c : CForm) (a b : CTerm) →
    term_value s p (choice_term c a b) ≡ cond (form_value s p c) (term_value s p a) (term_value s p b)
value-choice_term s p c a b = branch_value s p c a b (truth_of c) (form_right s p none none c)

pub value-at_least_form : (s p : List ℤ) (t : CTerm) → form_value s p (at_least_form t) ≡ int_le (pos 0)
    (term_value s p t)
value-at_least_form s p t = value-folded_form s p (AtLeast t) ∙ value-AtLeast s p t

pub value-zero_form : (s p : List ℤ) (t : CTerm) → form_value s p (zero_form t) ≡ int_eq (term_value s p t) (pos 0)
value-zero_form s p t = value-folded_form s p (Zero t) ∙ value-Zero s p t

pub value-not_form : (s p : List ℤ) (f : CForm) → form_value s p (not_form f) ≡ not (form_value s p f)
value-not_form s p f = value-folded_form s p (Not f) ∙ value-Not s p f

pub value-and_form : (s p : List ℤ) (f g : CForm) → form_value s p (and_form f g) ≡
    (form_value s p f && form_value s p g)
value-and_form s p f g = value-folded_form s p (And f g) ∙ value-And s p f g

pub value-or_form : (s p : List ℤ) (f g : CForm) → form_value s p (or_form f g) ≡ (form_value s p f || form_value s p g)
value-or_form s p f g = value-folded_form s p (Or f g) ∙ value-Or s p f g
