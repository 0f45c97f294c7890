-- A formula with its slots and parameters replaced is worth what the formula is at the terms' values, and
-- putting arguments for parameters keeps weights within bounds.
use Rattle.std.proofs.Common.{◌≡◌, ℕ, zero, suc, ◌*◌, ◌^◌, ◌≤◌, ℤ, pos, negsuc, ◌+ℤ◌, ◌-ℤ◌, ◌*ℤ◌, List, [], ◌∷◌}
use Rattle.std.proofs.Common.{Bool, cond, not, ◌&&◌, ◌||◌, sym, ap, ◌∙◌, arith}
use Rattle.std.proofs.lemmas.Int.{ints}
use Rattle.std.proofs.Math.Nat.{mul-le-mul_left}
use Rattle.std.specs.Int.RustNames.{int_le, unsigned_abs}
use Rattle.meaning_states.specs.State.{int_eq}
use Rattle.meaning_states.specs.Division.{floored, rest_of}
use Rattle.core_terms.specs.declared.trees.CTerm.{CTerm}
use Rattle.core_terms.specs.declared.trees.CTerm.TheVariants.{Const, Slot, Param, Scale, rolls-Scale}
use Rattle.core_terms.specs.declared.trees.CForm.{CForm}
use Rattle.core_terms.specs.declared.trees.CForm.TheOpen.{CTerm-F, CForm-F}
use Rattle.core_terms.specs.declared.documents.Arg.{Arg}
use Rattle.core_terms.specs.Values.{number_at, term_value, form_value}
use Rattle.core_terms.specs.Weights.{weighing, term_weights, form_weight, one_weight, plain_weights}
use Rattle.core_terms.specs.Weights.{plain_weight, multiple_weights}
use Rattle.core_terms.specs.Replacing.{replace_term, replace_form, term_with, form_with, shifted, arg_at, form_at}
use Rattle.core_terms.specs.Replacing.{arg_values, arg_weight, put_weights}
use Rattle.core_terms.proofs.TreeFolds.{Steps, fold_term_is, FormsKeep, TermsKeep, forms_related, terms_related}
use Rattle.core_terms.proofs.HeavierLaws as heavier
use Rattle.core_terms.proofs.HeavierLaws.{weight_steps}
use Rattle.core_terms.proofs.PartLaws.{value_steps, value-Const, value-Slot, value-Param, value-Add, value-Sub}
use Rattle.core_terms.proofs.PartLaws.{value-Top}
use Rattle.core_terms.proofs.PartLaws.{value-Bottom}
use Rattle.core_terms.proofs.FoldingLaws.{value-sum_term, value-difference_term, value-scaled_term, value-quotient_term}
use Rattle.core_terms.proofs.FoldingLaws.{value-remainder_term, value-choice_term, value-at_least_form, value-zero_form}
use Rattle.core_terms.proofs.FoldingLaws.{value-not_form, value-and_form, value-or_form}

-- the steps of putting terms for slots and parameters
abbrev pub replace_steps : (ℕ → CTerm) → (ℕ → CTerm) → Steps CForm CTerm
replace_steps slots params = record { form = replace_form; term = replace_term slots params }

module _ (s p t q : List ℤ) (slots params : ℕ → CTerm) (slot_is : (n : ℕ) → term_value s p (slots n) ≡ number_at t n)
    (param_is : (n : ℕ) → term_value s p (params n) ≡ number_at q n) where
  -- a replaced tree is worth so much
  abbrev FormWorth : CForm → Bool → Type 0
  FormWorth f v = form_value s p f ≡ v

  abbrev TermWorth : CTerm → ℤ → Type 0
  TermWorth e v = term_value s p e ≡ v

  form_worth : FormsKeep (replace_steps slots params) (value_steps t q) FormWorth TermWorth
  form_worth CForm-F.Top = value-Top s p
  form_worth CForm-F.Bottom = value-Bottom s p
  form_worth (CForm-F.AtLeast e) = value-at_least_form s p _ ∙ ap (λ z. int_le (pos 0) z) e.1
  form_worth (CForm-F.Zero e) = value-zero_form s p _ ∙ ap (λ z. int_eq z (pos 0)) e.1
  form_worth (CForm-F.Not f) = value-not_form s p _ ∙ ap not f.1
  form_worth (CForm-F.And f g) = value-and_form s p _ _ ∙ (λ i. f.1 i && g.1 i)
  form_worth (CForm-F.Or f g) = value-or_form s p _ _ ∙ (λ i. f.1 i || g.1 i)

  term_worth : TermsKeep (replace_steps slots params) (value_steps t q) FormWorth TermWorth
  term_worth (CTerm-F.Const c) = value-Const s p c
  term_worth (CTerm-F.Slot n) = slot_is n
  term_worth (CTerm-F.Param n) = param_is n
  term_worth (CTerm-F.Add a b) = value-sum_term s p _ _ ∙ (λ i. a.1 i +ℤ b.1 i)
  term_worth (CTerm-F.Sub a b) = value-difference_term s p _ _ ∙ (λ i. a.1 i -ℤ b.1 i)
  term_worth (CTerm-F.Scale k a) = value-scaled_term s p k _ ∙ ap (λ z. k *ℤ z) a.1
  term_worth (CTerm-F.Div a k) = value-quotient_term s p k _ ∙ ap (λ z. floored z k) a.1
  term_worth (CTerm-F.Mod a k) = value-remainder_term s p k _ ∙ ap (λ z. rest_of z k) a.1
  term_worth (CTerm-F.Ite c a b) = value-choice_term s p _ _ _ ∙ (λ i. cond (c.1 i) (a.1 i) (b.1 i))

  pub form_replaced : (f : CForm) → form_value s p (form_with slots params f) ≡ form_value t q f
  form_replaced f =
      forms_related (replace_steps slots params) (value_steps t q) FormWorth TermWorth form_worth term_worth f

  pub term_replaced : (e : CTerm) → term_value s p (term_with slots params e) ≡ term_value t q e
  term_replaced e =
      terms_related (replace_steps slots params) (value_steps t q) FormWorth TermWorth form_worth term_worth e

value-shifted : (s p : List ℤ) (n : ℕ) (add : ℤ) → term_value s p (shifted n add) ≡ number_at p n +ℤ add
value-shifted s p n (pos zero) = value-Param s p n ∙ omega (arith, ints)
value-shifted s p n (pos (suc k)) =
    value-Add s p (Param n) (Const (pos (suc k))) ∙ ap (λ z. z +ℤ term_value s p (Const (pos (suc k))))
    (value-Param s p n)
    ∙ ap (λ z. number_at p n +ℤ z) (value-Const s p (pos (suc k)))
value-shifted s p n (negsuc k) =
    value-Sub s p (Param n) (Const (pos (suc k))) ∙ ap (λ z. z -ℤ term_value s p (Const (pos (suc k))))
    (value-Param s p n)
    ∙ ap (λ z. number_at p n -ℤ z) (value-Const s p (pos (suc k))) ∙ omega (arith, ints)

-- an argument's term is worth the argument's number
pub value-arg_at : (s p : List ℤ) (args : List Arg) (n : ℕ) → term_value s p (arg_at args n) ≡ number_at
    (arg_values p args) n
value-arg_at s p [] n = value-Const s p (pos 0)
value-arg_at s p (Arg.Number k ∷ args) zero = value-Const s p k
value-arg_at s p (Arg.Param n add ∷ args) zero = value-shifted s p n add
value-arg_at s p (Arg.Slot ∷ args) zero = value-Const s p (pos 0)
value-arg_at s p (a ∷ args) (suc n) = value-arg_at s p args n

pub form_at_value : (s p : List ℤ) (args : List Arg) (f : CForm) → form_value s p (form_at args f) ≡ form_value s
    (arg_values p args) f
form_at_value s p args f =
    form_replaced s p s (arg_values p args) (λ n. Slot n) (arg_at args) (λ n. value-Slot s p n)
    (λ n. value-arg_at s p args n) f

-- where parameters weigh 2^63 in place of 1, a tree weighs at most 2^63 times as much
pub form_scaled : (f : CForm) → form_weight one_weight arg_weight f ≤ 2 ^ 63 * plain_weight f
form_scaled f =
    heavier.form_scaled (2 ^ 63) one_weight arg_weight one_weight one_weight (omega arith) (λ n. omega arith)
    (λ n. omega arith) f

pub weights-Scale : (slots params : ℕ → ℕ) (k : ℤ) (a : CTerm) → term_weights slots params (Scale k a) ≡
    weighing (unsigned_abs k * (term_weights slots params a).own) (term_weights slots params a).most
weights-Scale slots params k a =
    fold_term_is (weight_steps slots params) _ _ (rolls-Scale k a)

-- a multiple of a lighter term is lighter
pub multiple_lighter : (k l : ℤ) (a u : CTerm) → l ≡ k → (plain_weights u).own ≤ (put_weights a).own →
    unsigned_abs l * (plain_weights u).own ≤ unsigned_abs k * (put_weights a).own
multiple_lighter k l a u f h =
    let part : unsigned_abs k * (plain_weights u).own ≤ unsigned_abs k * (put_weights a).own =
    mul-le-mul_left (unsigned_abs k) h in
    let same : unsigned_abs l * (plain_weights u).own ≡ unsigned_abs k * (plain_weights u).own =
    ap (λ z. unsigned_abs z * (plain_weights u).own) f in
    omega (arith, part, same)

pub multiple_is : (k l : ℤ) (t a : CTerm) → t ≡ Scale k a → l ≡ k → put_weights t ≡ multiple_weights l (put_weights a)
multiple_is k l t a e f =
    ap put_weights e ∙ weights-Scale one_weight arg_weight k a ∙ ap (λ z. multiple_weights z (put_weights a)) (sym f)
