-- Folds of lists, item by item, and numbers that stop at a cap.
use Rattle.std.proofs.Common.{◌≡◌, ℕ, zero, suc, ◌+◌, ◌*◌, ◌≤◌, ◌<◌, min, List, [], ◌∷◌, length, drop, slice_index_or}
use Rattle.std.proofs.Common.{arith, sym, ap, ◌∙◌, inl, inr, le_refl}
use Rattle.std.proofs.lemmas.Bool.{cases_lt}
use Rattle.std.proofs.lemmas.Grind.{common_steps}
use Rattle.std.proofs.Math.Nat.{mul-le-mul, mul-le-mul_left, mul_assoc, mul-zero}

-- what a list folds to from a place on
pub fold-next : {A : Type 0} (fold : List A → ℕ) (op : ℕ → ℕ → ℕ) (f : A → ℕ) →
    ((x : A) (xs : List A) → fold (x ∷ xs) ≡ op (f x) (fold xs)) → (xs : List A) (i : ℕ) (d : A) → i < length xs →
    fold (drop i xs) ≡ op (f (slice_index_or xs i d)) (fold (drop (i + 1) xs))
fold-next fold op f step [] i d h = absurd (omega arith)
fold-next fold op f step (x ∷ xs) zero d h = step x xs
fold-next fold op f step (x ∷ xs) (suc i) d h =
    let k : suc i + 1 ≡ suc (i + 1) = omega arith in
    fold-next fold op f step xs i d (omega arith)
    ∙ ap (λ m. op (f (slice_index_or xs i d)) (fold (drop m (x ∷ xs)))) (sym k)

-- a sum that stops at a cap, one item further
pub sum-capped : (stop old new x rest all : ℕ) (step : ℕ) → new ≡ min (old + step) stop → step ≡ min x stop →
    min (old + (x + rest)) stop ≡ all → min (new + rest) stop ≡ all
sum-capped stop old new x rest all step p q r = omega (arith, p, q, r)

-- a factor past the cap makes a product past it
over_cap : (stop a b : ℕ) → stop ≤ a → min (stop * min (suc b) stop) stop ≡ min (a * suc b) stop
over_cap zero a b h = omega arith
over_cap (suc c) a b h =
    let one : 1 ≤ min (suc b) (suc c) = omega arith in
    let low = mul-le-mul_left (suc c) one in
    let some : 1 ≤ suc b = omega arith in
    let high = mul-le-mul h some in
    omega (arith, low, high)

under_cap : (stop a b : ℕ) → a < stop → min (a * min b stop) stop ≡ min (a * b) stop
under_cap stop zero b h = omega arith
under_cap stop (suc a) b h = elim (cases_lt b stop) [
  | inl under ↦ let e : min b stop ≡ b = omega arith in ap (λ n. min (suc a * n) stop) e
  | inr over ↦ let e : min b stop ≡ stop = omega arith in
      let some : 1 ≤ suc a = omega arith in
      let high = mul-le-mul some over in
      let low = mul-le-mul some (le_refl stop) in
      ap (λ n. min (suc a * n) stop) e ∙ omega (arith, high, low)
]

-- a product of numbers that stop at a cap
pub times-capped : (stop a b : ℕ) → min (min a stop * min b stop) stop ≡ min (a * b) stop
times-capped stop a zero =
    let e : min zero stop ≡ zero = omega arith in
    ap (λ n. min (min a stop * n) stop) e ∙ omega (arith, mul-zero (min a stop), mul-zero a)
times-capped stop a (suc b) = elim (cases_lt a stop) [
  | inl under ↦ let e : min a stop ≡ a = omega arith in
      ap (λ n. min (n * min (suc b) stop) stop) e ∙ under_cap stop a (suc b) under
  | inr over ↦ let e : min a stop ≡ stop = omega arith in
      ap (λ n. min (n * min (suc b) stop) stop) e ∙ over_cap stop a b over
]

-- the same, of numbers that are known to stop there
pub product-capped : (stop a b x y z : ℕ) → x ≡ min a stop → y ≡ min b stop → z ≡ min (x * y) stop →
    z ≡ min (a * b) stop
product-capped stop a b x y z p q r =
    r ∙ ap (λ n. min (n * y) stop) p ∙ ap (λ n. min (min a stop * n) stop) q ∙ times-capped stop a b

-- the same, where only the first number stops there
pub under-cap : (stop a b x z : ℕ) → x ≡ min a stop → z ≡ min (x * b) stop → z ≡ min (a * b) stop
under-cap stop a b x z p r =
    r ∙ ap (λ n. min (n * b) stop) p ∙ sym (times-capped stop (min a stop) b)
    ∙ ap (λ n. min (n * min b stop) stop) (twice stop a) ∙ times-capped stop a b
  where
    twice : (stop n : ℕ) → min (min n stop) stop ≡ min n stop
    twice stop n = omega arith

-- a product that stops at a cap, one item further
pub more-capped : (stop old new x step rest all : ℕ) → new ≡ min (old * step) stop → step ≡ x →
    min (old * (x * rest)) stop ≡ all → min (new * rest) stop ≡ all
more-capped stop old new x step rest all p q r =
    ap (λ n. min (n * rest) stop) (p ∙ ap (λ n. min (old * n) stop) q)
    ∙ sym (times-capped stop (min (old * x) stop) rest)
    ∙ ap (λ n. min (n * min rest stop) stop) (cap-cap stop (old * x))
    ∙ times-capped stop (old * x) rest ∙ ap (λ n. min n stop) (mul_assoc old x rest) ∙ r
  where
    cap-cap : (stop n : ℕ) → min (min n stop) stop ≡ min n stop
    cap-cap stop n = omega arith

-- nothing is left past the end of a list
pub drop-end : {A : Type 0} (xs : List A) (i : ℕ) → length xs ≤ i → drop i xs ≡ []
drop-end [] i h = grind (arith, common_steps)
drop-end (x ∷ xs) zero h = absurd (omega arith)
drop-end (x ∷ xs) (suc i) h = drop-end xs i (omega arith)
