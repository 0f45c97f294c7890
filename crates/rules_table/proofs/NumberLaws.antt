-- The numbers of the parameters, with one of them changed.
use Rattle.std.proofs.Common.{◌≡◌, ℕ, zero, suc, nat_eq, ◌+◌, ◌<◌, ◌≤◌, ℤ, pos, negsuc, ◌+ℤ◌, ◌-ℤ◌, ◌≤ℤ◌, List, []}
use Rattle.std.proofs.Common.{◌∷◌, Bool, true, false, cond, ◌&&◌, Option, Some, None, IsTrue, refl, sym, ap, ◌∙◌}
use Rattle.std.proofs.Common.{subst, slice_get, length, arith, ◌⊎◌, inl, inr}
use Rattle.std.proofs.lemmas.Int.{ints}
use Rattle.std.proofs.lemmas.Bool.Decides.{eqb_tells}
use borrow.Author.Differences.{le-true, lt-true}
use Rattle.std.specs.Int.RustNames.{int_le, int_lt}
use Rattle.core_terms.proofs.BoolLaws.{le_passes, self_equal}
use Rattle.core_terms.proofs.FrameLaws.{form_frame, term_frame}
use Rattle.core_terms.specs.Places.{names_param, term_names_param}
use Rattle.core_terms.specs.Replacing.{arg_value, arg_values}
use Rattle.core_terms.specs.Values.{number_at, term_value, form_value}
use Rattle.core_terms.specs.declared.documents.Arg.{Arg}
use Rattle.core_terms.specs.declared.trees.CForm.{CForm}
use Rattle.core_terms.specs.declared.trees.CTerm.{CTerm}
use Rattle.core_terms.specs.declared.trees.Range.{Range}
use Rattle.layer_laws.proofs.lemmas_from_meaning_laws.NumberTests.{lt_passes}
use Rattle.fair_rounds.specs.Records.{are_in_ranges}
use Rattle.rules_table.proofs.CalcSound.{range_at}
use Rattle.meaning_executions.specs.Counting.{count_up}
use Rattle.rules_table.specs.Numbers.{numbers_of, args_from}
use Rattle.rules_table.specs.Terms.{same_range}
use Rattle.meaning_states.proofs.StepTheorems.{and_left, and_right, both_true}
use Rattle.meaning_states.specs.State.{int_eq}
use Rattle.meaning_executions.specs.Counting.{natural, range_size}

-- the number of parameter k, where m is put to z
abbrev pub picked : List ℤ → ℕ → ℤ → ℕ → ℤ
picked e m z k = cond (nat_eq k m) z (number_at e k)

abbrev pub lies : Range → ℤ → Bool
lies r z = int_le r.lo z && int_le z r.hi

plus_zero : (x : ℤ) → x +ℤ pos 0 ≡ x
plus_zero x = omega (arith, ints)

one_arg : (e : List ℤ) (m : ℕ) (z : ℤ) (i : ℕ) →
    arg_value e (cond (nat_eq i m) (Arg.Number z) (Arg.Param i (pos 0))) ≡ picked e m z i
one_arg e m z i = elim (nat_eq i m) as (λ b. arg_value e (cond b (Arg.Number z) (Arg.Param i (pos 0))) ≡ cond b z
    (number_at e i)) [
      | true ↦ refl
      | false ↦ plus_zero (number_at e i)
    ]

at_shift : (e : List ℤ) (m : ℕ) (z : ℤ) (rs : List Range) (i j k : ℕ) → k ≡ i + j → j < length rs →
    number_at (arg_values e (args_from i m z rs)) j ≡ picked e m z k
at_shift e m z [] i j k same less = absurd (omega arith)
at_shift e m z (r ∷ rs) i zero k same less =
    let one : i ≡ k = omega arith in
    one_arg e m z i ∙ ap (λ n. picked e m z n) one
at_shift e m z (r ∷ rs) i (suc j) k same less =
    let next : k ≡ suc i + j = omega arith in
    let fewer : j < length rs = omega arith in
    at_shift e m z rs (suc i) j k next fewer

in_shift : (e : List ℤ) (m : ℕ) (z : ℤ) (rs : List Range) (i : ℕ) →
    ((j k : ℕ) (r : Range) → k ≡ i + j → slice_get rs j ≡ Some r → IsTrue (lies r (picked e m z k))) →
    IsTrue (are_in_ranges rs (arg_values e (args_from i m z rs)))
in_shift e m z [] i each = refl
in_shift e m z (r ∷ rs) i each =
    both_true (lies r (arg_value e (cond (nat_eq i m) (Arg.Number z) (Arg.Param i (pos 0)))))
    (are_in_ranges rs (arg_values e (args_from (suc i) m z rs)))
    (subst (λ y. IsTrue (lies r y)) (sym (one_arg e m z i)) (each zero i r (omega arith) refl))
    (in_shift e m z rs (suc i) (λ j k q same there. each (suc j) k q (omega arith) there))

pub same_length : (rs : List Range) (e : List ℤ) → IsTrue (are_in_ranges rs e) → length e ≡ length rs
same_length [] [] t = refl
same_length [] (z ∷ zs) t = cc
same_length (r ∷ rs) [] t = cc
same_length (r ∷ rs) (z ∷ zs) t = ap (λ n. suc n) (same_length rs zs (and_right (lies r z) (are_in_ranges rs zs) t))

past : (zs : List ℤ) (n : ℕ) → length zs ≤ n → number_at zs n ≡ pos 0
past [] n h = refl
past (z ∷ zs) zero h = absurd (omega arith)
past (z ∷ zs) (suc n) h = let inner : length zs ≤ n = omega arith in past zs n inner

pub within_list : (rs : List Range) (n : ℕ) (r : Range) → slice_get rs n ≡ Some r → n < length rs
within_list [] n r e = cc
within_list (q ∷ rs) zero r e = omega arith
within_list (q ∷ rs) (suc n) r e = let rest = within_list rs n r e in omega (arith, rest)

pub int_eq_is : (a b : ℤ) → IsTrue (int_eq a b) → a ≡ b
int_eq_is a b t =
    let low = le-true a b (and_left (int_le a b) (int_le b a) t) in
    let high = le-true b a (and_right (int_le a b) (int_le b a) t) in omega (arith, ints)

lt_or : (a b : ℕ) → (a < b) ⊎ (b ≤ a)
lt_or a zero = inr (omega arith)
lt_or zero (suc b) = inl (omega arith)
lt_or (suc a) (suc b) = elim (lt_or a b) [
  | inl h ↦ inl (omega arith)
  | inr h ↦ inr (omega arith)
]

-- the range of a bound name, by its number
named_range : (o : Option Range) (range : Range) → IsTrue (same_range o range) →
    (r : Range) × (o ≡ Some r) × (r.lo ≡ range.lo) × (r.hi ≡ range.hi)
named_range None range t = cc
named_range (Some r) range t = (
  r,
  refl,
  int_eq_is r.lo range.lo (and_left (int_eq r.lo range.lo) (int_eq r.hi range.hi) t),
  int_eq_is r.hi
      range.hi (and_right (int_eq r.lo range.lo) (int_eq r.hi range.hi) t),
)

module _ (ranges : List Range) (m : ℕ) (range : Range) (here : IsTrue (same_range (slice_get ranges m) range)) (z : ℤ)
    (inside_range : IsTrue (lies range z))
    (e : List ℤ) (inside_all : IsTrue (are_in_ranges ranges e)) where
  -- the numbers with m put to z
  abbrev pub changed : List ℤ
  changed = arg_values e (args_from 0 m z ranges)

  each_lies : (k : ℕ) (r : Range) → slice_get ranges k ≡ Some r → IsTrue (lies r (picked e m z k))
  each_lies k r there = elim (eqb_tells k m) [
    | inl w ↦
        let found = named_range (slice_get ranges m) range here in
        let same : r ≡ found.0 = cc in
        let lo : r.lo ≡ range.lo = ap (λ (q : Range). q.lo) same ∙ found.2 in
        let hi : r.hi ≡ range.hi = ap (λ (q : Range). q.hi) same ∙ found.3 in
        let put : z ≡ picked e m z k = ap (λ b. cond b z (number_at e k)) (sym w.0) in
        subst (λ y. IsTrue (lies r y)) put
        (subst (λ l. IsTrue (int_le l z && int_le z r.hi)) (sym lo)
        (subst (λ h. IsTrue (int_le range.lo z && int_le z h)) (sym hi) inside_range))
    | inr w ↦
        let kept : number_at e k ≡ picked e m z k = ap (λ b. cond b z (number_at e k)) (sym w.0) in
        subst (λ y. IsTrue (lies r y)) kept (range_at ranges e inside_all k r there)
  ]

  pub changed_in : IsTrue (are_in_ranges ranges changed)
  changed_in = in_shift e m z ranges 0 (λ j k r same there.
      let one : j ≡ k = omega arith in each_lies k r (subst (λ n. slice_get ranges n ≡ Some r) one there))

  pub changed_at : number_at changed m ≡ z
  changed_at =
      let found = named_range (slice_get ranges m) range here in
      at_shift e m z ranges 0 m m (omega arith) (within_list ranges m found.0 found.1)
      ∙ ap (λ b. cond b z (number_at e m)) (self_equal m)

  elsewhere : (n : ℕ) → nat_eq n m ≡ false → number_at changed n ≡ number_at e n
  elsewhere n other = elim (lt_or n (length ranges)) [
    | inl less ↦ at_shift e m z ranges 0 n n (omega arith) less ∙ ap (λ b. cond b z (number_at e n)) other
    | inr more ↦
        let one = same_length ranges e inside_all in
        let two = same_length ranges changed changed_in in
        past changed n (omega (arith, two, more)) ∙ sym (past e n (omega (arith, one, more)))
  ]

  unnamed : (n : ℕ) (named : ℕ → Bool) → IsTrue (named n) → named m ≡ false → nat_eq n m ≡ false
  unnamed n named t f = elim (eqb_tells n m) [
    | inl w ↦ let also = subst (λ k. IsTrue (named k)) w.1 t in cc
    | inr w ↦ w.0
  ]

  pub same_form_value : (s : List ℤ) (f : CForm) → names_param m f ≡ false → form_value s changed f ≡ form_value s e f
  same_form_value s f none = form_frame s changed e f (λ n t. elsewhere n (unnamed n (λ k. names_param k f) t none))

  pub same_term_value : (s : List ℤ) (t : CTerm) → term_names_param m t ≡ false →
      term_value s changed t ≡ term_value s e t
  same_term_value s t none = term_frame s changed e t (λ n h. elsewhere n (unnamed n (λ k. term_names_param k t) h
      none))

-- a place in a range, counted from its low end
inside : (z w : ℤ) (k : ℕ) → k < natural (w +ℤ pos 1 -ℤ z) → (z +ℤ pos k) ≤ℤ w
inside z w k h = go (w +ℤ pos 1 -ℤ z) refl h
  where
    go : (d : ℤ) → w +ℤ pos 1 -ℤ z ≡ d → k < natural d → (z +ℤ pos k) ≤ℤ w
    go (pos n) e less = omega (arith, ints)
    go (negsuc n) e less = absurd (omega arith)

-- the numbers of a range lie in it
counted : (y : ℤ) (n k : ℕ) (z : ℤ) → slice_get (count_up y n) k ≡ Some z → (z ≡ y +ℤ pos k) × (k < n)
counted y zero k z e = cc
counted y (suc n) zero z e = let same : y ≡ z = cc in (omega (arith, ints), omega arith)
counted y (suc n) (suc k) z e = let rest = counted (y +ℤ pos 1) n k z e in (
  omega (arith, ints, rest.0),
  omega
      (arith, rest.1),
)

pub number_lies : (range : Range) (k : ℕ) (z : ℤ) → slice_get (numbers_of range) k ≡ Some z → IsTrue (lies range z)
number_lies range k z e =
    let at = counted range.lo (range_size (range.lo, range.hi)) k z e in
    let high = inside range.lo range.hi k at.1 in
    both_true (int_le range.lo z) (int_le z range.hi) (le_passes range.lo z (omega (arith, ints, at.0)))
    (le_passes z range.hi (omega (arith, ints, at.0, high)))

-- tests that pass together are equal
pub same_tests : (a b : Bool) → (IsTrue a → IsTrue b) → (IsTrue b → IsTrue a) → a ≡ b
same_tests true true f g = refl
same_tests true false f g = sym (f refl)
same_tests false true f g = g refl
same_tests false false f g = refl

pub gap_is : (x z : ℤ) → int_eq x z ≡ int_eq (x -ℤ z) (pos 0)
gap_is x z = same_tests (int_eq x z) (int_eq (x -ℤ z) (pos 0))
    (λ t. let low = le-true x z (and_left (int_le x z) (int_le z x) t) in
    let high = le-true z x (and_right (int_le x z) (int_le z x) t) in
    both_true (int_le (x -ℤ z) (pos 0)) (int_le (pos 0) (x -ℤ z)) (le_passes (x -ℤ z) (pos 0) (omega (arith, ints)))
    (le_passes (pos 0) (x -ℤ z) (omega (arith, ints))))
    (λ t. let low = le-true (x -ℤ z) (pos 0) (and_left (int_le (x -ℤ z) (pos 0)) (int_le (pos 0) (x -ℤ z)) t) in
    let high = le-true (pos 0) (x -ℤ z) (and_right (int_le (x -ℤ z) (pos 0)) (int_le (pos 0) (x -ℤ z)) t) in
    both_true (int_le x z) (int_le z x) (le_passes x z (omega (arith, ints))) (le_passes z x (omega (arith, ints))))

pub below_is : (x z : ℤ) → int_le (pos 0) ((z -ℤ x) -ℤ pos 1) ≡ int_lt x z
below_is x z = same_tests (int_le (pos 0) ((z -ℤ x) -ℤ pos 1)) (int_lt x z)
    (λ t. let low = le-true (pos 0) ((z -ℤ x) -ℤ pos 1) t in lt_passes x z (omega (arith, ints)))
    (λ t. let low = lt-true x z t in le_passes (pos 0) ((z -ℤ x) -ℤ pos 1) (omega (arith, ints)))

pub range_is : (lo hi x : ℤ) → IsTrue (int_le (pos 0) (x -ℤ lo) && int_le (pos 0) (hi -ℤ x)) →
    IsTrue (int_le lo x && int_le x hi)
range_is lo hi x t =
    let low = le-true (pos 0) (x -ℤ lo) (and_left (int_le (pos 0) (x -ℤ lo)) (int_le (pos 0) (hi -ℤ x)) t) in
    let high = le-true (pos 0) (hi -ℤ x) (and_right (int_le (pos 0) (x -ℤ lo)) (int_le (pos 0) (hi -ℤ x)) t) in
    both_true (int_le lo x) (int_le x hi) (le_passes lo x (omega (arith, ints)))
    (le_passes x hi (omega (arith, ints)))
