-- A step leads back exactly where each write goes to a slot that has its value.
use Rattle.std.proofs.Common.{◌≡◌, ℕ, zero, suc, ℤ, List, [], ◌∷◌, Bool, true, false, not, ◌||◌, cond, nat_eq}
use Rattle.std.proofs.Common.{Option, Some, None, IsTrue, refl, sym, ap, ◌∙◌, subst, slice_get, arith, inl, inr}
use Rattle.std.specs.List.{list_all}
use Rattle.std.proofs.lemmas.Bool.Decides.{eqb_tells}
use Rattle.std.proofs.lemmas.Int.{ints}
use Rattle.std.specs.Int.RustNames.{int_le}
use Rattle.meaning_states.specs.State.{State, Ranges, int_eq, in_range, is_state}
use Rattle.meaning_states.specs.Step.{Write, is_inside, agrees, all_agree, put, written, step}
use Rattle.meaning_states.specs.StepLaws.{IsWrite}
use Rattle.meaning_states.proofs.StepTheorems.{and_left, and_right, both_true, same_number, step_defined}
use Rattle.meaning_states.proofs.StepTheorems.{written_has_value}
use Rattle.core_terms.proofs.BoolLaws.{le_passes}
use Rattle.executor.specs.from_meaning_executions.Counting.{ints_eq}
use Rattle.fixed_points.specs.FixedPoints.{leads_to}
use Rattle.fixed_points.specs.Leaving.{is_that_number, changes_nothing}

pub same_truth : (a b : Bool) → (IsTrue a → IsTrue b) → (IsTrue b → IsTrue a) → a ≡ b
same_truth true true f g = refl
same_truth true false f g = sym (f refl)
same_truth false true f g = g refl
same_truth false false f g = refl

int_self : (z : ℤ) → IsTrue (int_eq z z)
int_self z =
    both_true (int_le z z) (int_le z z) (le_passes z z (omega (arith, ints))) (le_passes z z (omega (arith, ints)))

pub ints_self : (zs : List ℤ) → IsTrue (ints_eq zs zs)
ints_self [] = refl
ints_self (z ∷ zs) = both_true (int_eq z z) (ints_eq zs zs) (int_self z) (ints_self zs)

pub ints_same : (xs ys : List ℤ) → IsTrue (ints_eq xs ys) → xs ≡ ys
ints_same [] [] h = refl
ints_same [] (y ∷ ys) h = cc
ints_same (x ∷ xs) [] h = cc
ints_same (x ∷ xs) (y ∷ ys) h =
    ap (λ z. z ∷ xs) (same_number x y (and_left (int_eq x y) (ints_eq xs ys) h))
    ∙ ap (λ zs. y ∷ zs) (ints_same xs ys (and_right (int_eq x y) (ints_eq xs ys) h))

-- a step that leads back gives the state
pub led_back : (o : Option State) (state : State) → IsTrue (leads_to o state) → o ≡ Some state
led_back None state h = cc
led_back (Some next) state h = ap Some (ints_same next state h)

pub leads_back : (o : Option State) (state : State) → o ≡ Some state → IsTrue (leads_to o state)
leads_back o state e = subst (λ x. IsTrue (leads_to x state)) (sym e) (ints_self state)

-- a slot that has a value
number_there : (o : Option ℤ) (z : ℤ) → IsTrue (is_that_number o z) → o ≡ Some z
number_there None z h = cc
number_there (Some y) z h = ap Some (sym (same_number z y h))

is_there : (o : Option ℤ) (z : ℤ) → o ≡ Some z → IsTrue (is_that_number o z)
is_there o z e = subst (λ x. IsTrue (is_that_number x z)) (sym e) (int_self z)

-- the number of a slot lies in its range
own_range : (ranges : Ranges) (state : State) (n : ℕ) (z : ℤ) → IsTrue (is_state ranges state) →
    slice_get state n ≡ Some z → IsTrue (in_range (slice_get ranges n) z)
own_range [] [] n z s e = cc
own_range [] (y ∷ ys) n z s e = cc
own_range (r ∷ rs) [] n z s e = cc
own_range (r ∷ rs) (y ∷ ys) zero z s e =
    let same : y ≡ z = cc in
    subst (λ x. IsTrue (in_range (Some r) x)) same (and_left (in_range (Some r) y) (is_state rs ys) s)
own_range (r ∷ rs) (y ∷ ys) (suc n) z s e = own_range rs ys n z (and_right (in_range (Some r) y) (is_state rs ys) s) e

put_self : (state : State) (n : ℕ) (z : ℤ) → slice_get state n ≡ Some z → put state n z ≡ state
put_self [] n z e = refl
put_self (y ∷ ys) zero z e = let same : y ≡ z = cc in ap (λ x. x ∷ ys) (sym same)
put_self (y ∷ ys) (suc n) z e = ap (λ xs. y ∷ xs) (put_self ys n z e)

-- writes that change nothing are defined, and give the state

nothing_inside : (ranges : Ranges) (state : State) (ws : List Write) → IsTrue (is_state ranges state) →
    IsTrue (list_all (changes_nothing state) ws) → IsTrue (list_all (is_inside ranges) ws)
nothing_inside ranges state [] s h = refl
nothing_inside ranges state ((None, z) ∷ ws) s h = cc
nothing_inside ranges state ((Some n, z) ∷ ws) s h =
    both_true (in_range (slice_get ranges n) z) (list_all (is_inside ranges) ws)
    (own_range ranges state n z s
    (number_there (slice_get state n) z
    (and_left (is_that_number (slice_get state n) z) (list_all (changes_nothing state) ws) h)))
    (nothing_inside ranges state ws s
    (and_right (is_that_number (slice_get state n) z) (list_all (changes_nothing state) ws) h))

one_agrees : (state : State) (m : ℕ) (y : ℤ) (ws : List Write) → slice_get state m ≡ Some y →
    IsTrue (list_all (changes_nothing state) ws) → IsTrue (list_all (agrees (Some m, y)) ws)
one_agrees state m y [] e h = refl
one_agrees state m y ((None, z) ∷ ws) e h = cc
one_agrees state m y ((Some n, z) ∷ ws) e h =
    let rest = one_agrees state m y ws e
    (and_right (is_that_number (slice_get state n) z) (list_all (changes_nothing state) ws) h) in
    let there = number_there (slice_get state n) z
    (and_left (is_that_number (slice_get state n) z) (list_all (changes_nothing state) ws) h) in
    both_true (not (nat_eq m n) || int_eq y z) (list_all (agrees (Some m, y)) ws)
    (elim (eqb_tells m n) [
      | inl w ↦
          let slot : m ≡ n = w.1 in
          let both : Some y ≡ Some z = sym e ∙ ap (λ k. slice_get state k) slot ∙ there in
          let number : y ≡ z = cc in
          or_right (not (nat_eq m n)) (int_eq y z) (subst (λ x. IsTrue (int_eq y x)) number (int_self y))
      | inr w ↦ ap (λ b. not b || int_eq y z) w.0
    ]) rest
  where
    or_right : (a b : Bool) → IsTrue b → IsTrue (a || b)
    or_right true b t = refl
    or_right false b t = t

nothing_agrees : (state : State) (ws : List Write) → IsTrue (list_all (changes_nothing state) ws) →
    IsTrue (all_agree ws)
nothing_agrees state [] h = refl
nothing_agrees state ((None, z) ∷ ws) h = cc
nothing_agrees state ((Some n, z) ∷ ws) h =
    let rest = and_right (is_that_number (slice_get state n) z) (list_all (changes_nothing state) ws) h in
    both_true (list_all (agrees (Some n, z)) ws) (all_agree ws)
    (one_agrees state n z ws (number_there (slice_get state n) z
    (and_left (is_that_number (slice_get state n) z) (list_all (changes_nothing state) ws) h)) rest)
    (nothing_agrees state ws rest)

nothing_written : (state : State) (ws : List Write) → IsTrue (list_all (changes_nothing state) ws) →
    written state ws ≡ state
nothing_written state [] h = refl
nothing_written state ((None, z) ∷ ws) h = cc
nothing_written state ((Some n, z) ∷ ws) h =
    ap (λ t. put t n z) (nothing_written state ws
    (and_right (is_that_number (slice_get state n) z) (list_all (changes_nothing state) ws) h))
    ∙ put_self state n z (number_there (slice_get state n) z
    (and_left (is_that_number (slice_get state n) z) (list_all (changes_nothing state) ws) h))

nothing_changed : (ranges : Ranges) (state : State) (ws : List Write) → IsTrue (is_state ranges state) →
    IsTrue (list_all (changes_nothing state) ws) → step ranges ws state ≡ Some state
nothing_changed ranges state ws s h =
    ap (λ b. cond b (Some (written state ws)) None)
    (both_true (list_all (is_inside ranges) ws) (all_agree ws) (nothing_inside ranges state ws s h)
    (nothing_agrees state ws h))
    ∙ ap Some (nothing_written state ws h)

-- and writes that give the state change nothing

each_nothing : (ranges : Ranges) (state : State) (ws : List Write) → IsTrue (list_all (is_inside ranges) ws) →
    ((n : ℕ) (z : ℤ) → IsWrite ws (Some n, z) → slice_get state n ≡ Some z) →
    IsTrue (list_all (changes_nothing state) ws)
each_nothing ranges state [] inside each = refl
each_nothing ranges state ((None, z) ∷ ws) inside each = cc
each_nothing ranges state ((Some n, z) ∷ ws) inside each =
    both_true (is_that_number (slice_get state n) z) (list_all (changes_nothing state) ws)
    (is_there (slice_get state n) z (each n z (zero, refl)))
    (each_nothing ranges state ws (and_right (in_range (slice_get ranges n) z) (list_all (is_inside ranges) ws) inside)
    (λ m y w. each m y (suc w.0, w.1)))

unchanged : (ranges : Ranges) (state : State) (ws : List Write) → IsTrue (is_state ranges state) →
    step ranges ws state ≡ Some state → IsTrue (list_all (changes_nothing state) ws)
unchanged ranges state ws s e =
    let d = step_defined ranges ws state state e in
    each_nothing ranges state ws (and_left (list_all (is_inside ranges) ws) (all_agree ws) d.0)
    (λ n z w. written_has_value ranges ws state state s e n z w)

pub back_by_writes : (ranges : Ranges) (state : State) (ws : List Write) → IsTrue (is_state ranges state) →
    list_all (changes_nothing state) ws ≡ leads_to (step ranges ws state) state
back_by_writes ranges state ws s =
    same_truth (list_all (changes_nothing state) ws) (leads_to (step ranges ws state) state)
    (λ h. leads_back (step ranges ws state) state (nothing_changed ranges state ws s h))
    (λ h. unchanged ranges state ws s (led_back (step ranges ws state) state h))
