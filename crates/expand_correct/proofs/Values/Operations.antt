-- What the operations on cores are worth, and which of their results are known.
use Rattle.std.proofs.Common.{◌≡◌, ℤ, pos, negsuc, ◌+ℤ◌, ◌-ℤ◌, ◌*ℤ◌, List, Bool, true, false, cond, not, ◌&&◌, ◌||◌}
use Rattle.std.proofs.Common.{Option, Some, None, refl, sym, ap, ◌∙◌, arith}
use Rattle.std.proofs.lemmas.Int.{ints}
use Rattle.std.specs.Option.{is_some}
use Rattle.std.specs.Int.RustNames.{int_le}
use Rattle.std.specs.Prelude.{neg_ℤ}
use Rattle.meaning_states.specs.State.{int_eq}
use Rattle.meaning_documents.specs.Names.{or_zero}
use Rattle.meaning_documents.specs.Value.{truth, holds}
use Rattle.std.specs.Int.{int_div_euclid, int_rem_euclid}
use Rattle.meaning_states.specs.Division.{divisor, floored, rest_of}
use Rattle.core_terms.specs.declared.trees.CTerm.{CTerm}
use Rattle.core_terms.specs.declared.trees.CTerm.TheVariants.{Const}
use Rattle.core_terms.specs.Values.{term_value, form_value}
use Rattle.core_terms.specs.Folding.{number_of, truth_of, sum_term, difference_term, scaled_term, at_least_form}
use Rattle.core_terms.specs.Folding.{zero_form, not_form, and_form, or_form}
use Rattle.core_terms.proofs.PartLaws.{value-Const}
use Rattle.core_terms.proofs.FoldingLaws.{value-sum_term, value-difference_term, value-scaled_term, value-choice_term}
use Rattle.core_terms.proofs.FoldingLaws.{value-at_least_form, value-zero_form, value-not_form, value-and_form}
use Rattle.core_terms.proofs.FoldingLaws.{value-or_form}
use Rattle.core_terms.proofs.KnownLaws.{number_is_value}
use Rattle.expand_rules.specs.declared.cores.Core.{Core}
use Rattle.expand_rules.specs.Forming.{number_core, truth_core, term_of, form_of, factor_of, sum_core}
use Rattle.expand_rules.specs.Forming.{difference_core, negated_core, multiple_core, at_least_core, zero_core}
use Rattle.expand_rules.specs.Forming.{not_core, and_core, or_core}
use Rattle.expand_correct.specs.Values.Worth.{core_value}
use Rattle.core_terms.proofs.IntTests.{least_tests}
use Rattle.expand_rules.proofs.Differences.{divisor_steady}
use Rattle.expand_rules.proofs.KnownParts.{number-Const, some-sum_term, some-difference_term, some-scaled_term}
use Rattle.expand_rules.proofs.KnownParts.{some-at_least_form, some-zero_form, some-not_form, some-and_form}
use Rattle.expand_rules.proofs.KnownParts.{some-or_form, some-choice_term}

pub two : {A B C : Type 0} (op : A → B → C) (a x : A) (b y : B) → a ≡ x → b ≡ y → op a b ≡ op x y
two op a x b y e f = ap (λ v. op v b) e ∙ ap (λ v. op x v) f

-- whether a core names no slot and no parameter
abbrev pub is_known : Core → Bool
is_known (Core.Number t known) = is_some (number_of t)
is_known (Core.Truth f known) = is_some (truth_of f)

pub known-term_of : (c : Core) → is_some (number_of (term_of c)) ≡ is_known c
known-term_of (Core.Number t known) = refl
known-term_of (Core.Truth f known) =
    some-choice_term f _ _ (pos 1) (pos 0) (number-Const (pos 1)) (number-Const (pos 0))

and_true : (b : Bool) → (b && true) ≡ b
and_true true = refl
and_true false = refl

pub known-form_of : (c : Core) → is_some (truth_of (form_of c)) ≡ is_known c
known-form_of (Core.Number t known) =
    some-at_least_form (difference_term t (Const (pos 1))) ∙ some-difference_term t (Const (pos 1))
    ∙ ap (λ v. is_some (number_of t) && is_some v) (number-Const (pos 1)) ∙ and_true (is_some (number_of t))
known-form_of (Core.Truth f known) = refl

both_known : (a b x y : Bool) → x ≡ a → y ≡ b → a ≡ true → b ≡ true → (x && y) ≡ true
both_known a b x y e f h i = two (λ v w. v && w) x true y true (e ∙ h) (f ∙ i)

-- an operation makes of known cores a known one
abbrev pub KeepsKnown : (Core → Core) → Type 0
KeepsKnown op = (a : Core) → is_known a ≡ true → is_known (op a) ≡ true

abbrev pub KeepBothKnown : (Core → Core → Core) → Type 0
KeepBothKnown op = (a b : Core) → is_known a ≡ true → is_known b ≡ true → is_known (op a b) ≡ true

pub known-sum : KeepBothKnown sum_core
known-sum a b h i = some-sum_term (term_of a) (term_of b) ∙ both_known _ _ _ _ (known-term_of a) (known-term_of b) h i

pub known-difference : KeepBothKnown difference_core
known-difference a b h i =
    some-difference_term (term_of a) (term_of b) ∙ both_known _ _ _ _ (known-term_of a) (known-term_of b) h i

pub known-negation : KeepsKnown negated_core
known-negation a h = some-scaled_term (negsuc 0) (term_of a) ∙ known-term_of a ∙ h

pub known-multiple : KeepBothKnown multiple_core
known-multiple a b h i = some-scaled_term (factor_of a) (term_of b) ∙ known-term_of b ∙ i

pub known-at_least : KeepsKnown at_least_core
known-at_least a h = some-at_least_form (term_of a) ∙ known-term_of a ∙ h

pub known-zero : KeepsKnown zero_core
known-zero a h = some-zero_form (term_of a) ∙ known-term_of a ∙ h

pub known-denial : KeepsKnown not_core
known-denial a h = some-not_form (form_of a) ∙ known-form_of a ∙ h

pub known-conjunction : KeepBothKnown and_core
known-conjunction a b h i =
    some-and_form (form_of a) (form_of b) ∙ both_known _ _ _ _ (known-form_of a) (known-form_of b) h i

pub known-disjunction : KeepBothKnown or_core
known-disjunction a b h i =
    some-or_form (form_of a) (form_of b) ∙ both_known _ _ _ _ (known-form_of a) (known-form_of b) h i

pub known-as_number : KeepsKnown (λ x. number_core (term_of x))
known-as_number a h = known-term_of a ∙ h

pub known-as_truth : KeepsKnown (λ x. truth_core (form_of x))
known-as_truth a h = known-form_of a ∙ h

pub holds_truth : (b : Bool) → holds (truth b) ≡ b
holds_truth true = refl
holds_truth false = refl

-- dividing by a divisor
pub floored_steady : (z k : ℤ) → floored z (divisor k) ≡ floored z k
floored_steady z k = ap (int_div_euclid z) (divisor_steady k)

pub rest_steady : (z k : ℤ) → rest_of z (divisor k) ≡ rest_of z k
rest_steady z k = ap (int_rem_euclid z) (divisor_steady k)

-- the factor of a known core is what it is worth
factor_by : (s p : List ℤ) (t : CTerm) (m : Option ℤ) → number_of t ≡ m → is_some m ≡ true → or_zero m ≡
    term_value s p t
factor_by s p t None e h = cc
factor_by s p t (Some k) e h = sym (number_is_value s p t k e)

module _ (s p : List ℤ) where
  pub value-term_of : (c : Core) → term_value s p (term_of c) ≡ core_value s p c
  value-term_of (Core.Number t known) = refl
  value-term_of (Core.Truth f known) = value-choice_term s p f (Const (pos 1)) (Const (pos 0))
      ∙ ap (λ v. cond (form_value s p f) v (term_value s p (Const (pos 0)))) (value-Const s p (pos 1))
      ∙ ap (λ v. cond (form_value s p f) (pos 1) v) (value-Const s p (pos 0))

  pub value-form_of : (c : Core) → form_value s p (form_of c) ≡ holds (core_value s p c)
  value-form_of (Core.Number t known) = value-at_least_form s p (difference_term t (Const (pos 1)))
      ∙ ap (λ v. int_le (pos 0) v)
      (value-difference_term s p t (Const (pos 1)) ∙ ap (λ v. term_value s p t -ℤ v) (value-Const s p (pos 1)))
      ∙ least_tests (pos 1) (term_value s p t)
  value-form_of (Core.Truth f known) = sym (holds_truth (form_value s p f))

  pub value-sum : (a b : Core) →
      term_value s p (sum_term (term_of a) (term_of b)) ≡ core_value s p a +ℤ core_value s p b
  value-sum a b = value-sum_term s p (term_of a) (term_of b)
      ∙ two (λ x y. x +ℤ y) _ _ _ _ (value-term_of a) (value-term_of b)

  pub value-difference : (a b : Core) →
      term_value s p (difference_term (term_of a) (term_of b)) ≡ core_value s p a -ℤ core_value s p b
  value-difference a b = value-difference_term s p (term_of a) (term_of b)
      ∙ two (λ x y. x -ℤ y) _ _ _ _ (value-term_of a) (value-term_of b)

  minus_one : (x : ℤ) → negsuc 0 *ℤ x ≡ neg_ℤ x
  minus_one x = omega (arith, ints)

  pub value-negation : (a : Core) → term_value s p (scaled_term (negsuc 0) (term_of a)) ≡ neg_ℤ (core_value s p a)
  value-negation a = value-scaled_term s p (negsuc 0) (term_of a) ∙ ap (λ v. negsuc 0 *ℤ v) (value-term_of a)
      ∙ minus_one (core_value s p a)

  pub factor-known : (a : Core) → is_known a ≡ true → factor_of a ≡ term_value s p (term_of a)
  factor-known a h = factor_by s p (term_of a) (number_of (term_of a)) refl (known-term_of a ∙ h)

  pub value-multiple : (a b : Core) → is_known a ≡ true →
      term_value s p (scaled_term (factor_of a) (term_of b)) ≡ core_value s p a *ℤ core_value s p b
  value-multiple a b h = value-scaled_term s p (factor_of a) (term_of b)
      ∙ two (λ x y. x *ℤ y) _ _ _ _ (factor-known a h ∙ value-term_of a) (value-term_of b)

  pub value-at_least : (a : Core) →
      truth (form_value s p (at_least_form (term_of a))) ≡ truth (int_le (pos 0) (core_value s p a))
  value-at_least a = ap truth (value-at_least_form s p (term_of a) ∙ ap (λ v. int_le (pos 0) v) (value-term_of a))

  pub value-zero : (a : Core) → truth (form_value s p (zero_form (term_of a))) ≡ truth (int_eq (core_value s p a)
      (pos 0))
  value-zero a = ap truth (value-zero_form s p (term_of a) ∙ ap (λ v. int_eq v (pos 0)) (value-term_of a))

  pub value-denial : (a : Core) → truth (form_value s p (not_form (form_of a))) ≡ truth
      (not (holds (core_value s p a)))
  value-denial a = ap truth (value-not_form s p (form_of a) ∙ ap not (value-form_of a))

  pub value-conjunction : (a b : Core) →
      truth (form_value s p (and_form (form_of a) (form_of b))) ≡ truth (holds (core_value s p a) && holds
      (core_value s p b))
  value-conjunction a b = ap truth (value-and_form s p (form_of a) (form_of b)
      ∙ two (λ x y. x && y) _ _ _ _ (value-form_of a) (value-form_of b))

  pub value-disjunction : (a b : Core) →
      truth (form_value s p (or_form (form_of a) (form_of b))) ≡ truth (holds (core_value s p a) || holds
      (core_value s p b))
  value-disjunction a b = ap truth (value-or_form s p (form_of a) (form_of b)
      ∙ two (λ x y. x || y) _ _ _ _ (value-form_of a) (value-form_of b))
