-- Division by a common divisor.
use Rattle.std.proofs.Common.{◌≡◌, ℕ, zero, suc, ◌+◌, ◌-◌, ◌*◌, ◌/◌, ◌%◌, ◌^◌, ◌≤◌, ◌<◌, nat_eq, nat_le, ℤ, pos, negsuc}
use Rattle.std.proofs.Common.{◌+ℤ◌, Bool, true, false, cond, not, ◌&&◌, List, [], ◌∷◌, map, length, arith, refl, sym}
use Rattle.std.proofs.Common.{ap, subst, ◌∙◌}
use Prim.Native.Nat.{◌∣◌}
use Rattle.std.specs.List.{list_all}
use Rattle.std.specs.Int.{IsGcd, int_div_euclid, int_rem_euclid}
use Rattle.std.specs.Int.RustNames.{int_le, unsigned_abs}
use Rattle.std.proofs.Math.Nat.{mul-div_cancel', mod-eq-sub-div-mul, div-le_self}
use Rattle.std.proofs.lemmas.Nat.{div-mul-add}
use Rattle.std.proofs.lemmas.Nat.Gcd.{dvd_trans, dvd-zero, mod-eq-zero_of_dvd}
use Rattle.std.proofs.lemmas.Int.{ints}
use Rattle.std.proofs.lemmas.Bool.{and_parts}
use Rattle.obligations.specs.from_core_terms.Values.{number_at}
use Rattle.meaning_states.specs.State.{int_eq}
use Rattle.obligations.specs.LinearForms.{sparse}
use Rattle.obligations.specs.Reach.{is_exact, are_opposite, gcd, divisor_of, is_moderate}
use Rattle.linear_prover.specs.Exact.{factor_in}
use Rattle.linear_prover.proofs.GcdLaws.{gcd-is}

-- the number below a multiple of d
record Below (d y : ℕ) : Type 0 where
  part : ℕ
  below : y / d ≡ part
  above : suc y / d ≡ suc part
  rest : y % d ≡ d - 1

below : (d y : ℕ) → 0 < d → d ∣ suc y → Below d y
below d y h v = by_part (suc y / d) refl (mul-div_cancel' d v)
  where
    by_part : (q : ℕ) → suc y / d ≡ q → d * q ≡ suc y → Below d y
    by_part zero s e = absurd (omega (arith, e))
    by_part (suc r) s e =
        let sum : y ≡ r * d + (d - 1) = omega (arith, e, h) in
        let part : y / d ≡ r = ap (λ n. n / d) sum ∙ div-mul-add r d (d - 1) (omega arith) in
        let rest : y % d ≡ y - r * d = mod-eq-sub-div-mul y d ∙ ap (λ q. y - q * d) part in
        record { part = r; below = part; above = s; rest = rest ∙ omega (arith, sum) }

none-divided : (d : ℕ) → 0 / d ≡ 0
none-divided d = let h = div-le_self 0 d in omega (arith, h)

-- two numbers that add up to 0, divided
pub exact-parts : (a b : ℤ) (d : ℕ) → 0 < d → d ∣ unsigned_abs a → a +ℤ b ≡ pos 0 → int_div_euclid a (pos d) +ℤ
    int_div_euclid b (pos d) ≡ pos 0
exact-parts (pos x) (pos y) d h v e =
    let p : x ≡ 0 = omega (arith, ints, e) in let q : y ≡ 0 = omega (arith, ints, e) in
    let l : x / d ≡ 0 = ap (λ n. n / d) p ∙ none-divided d in let r : y / d ≡ 0 = ap (λ n. n / d) q ∙ none-divided d in
    ap (λ n. pos (n + y / d)) l ∙ ap (λ n. pos (0 + n)) r
exact-parts (pos x) (negsuc y) d h v e =
    let p : x ≡ suc y = omega (arith, ints, e) in
    let b = below d y h (subst (λ n. d ∣ n) p v) in
    let l : x / d ≡ suc b.part = ap (λ n. n / d) p ∙ b.above in let r = b.below in
    ap (λ n. pos n +ℤ negsuc (y / d)) l ∙ ap (λ n. pos (suc b.part) +ℤ negsuc n) r ∙ gone b.part
  where
    gone : (n : ℕ) → pos (suc n) +ℤ negsuc n ≡ pos 0
    gone n = omega (arith, ints)
exact-parts (negsuc x) (pos y) d h v e =
    let p : y ≡ suc x = omega (arith, ints, e) in
    let b = below d x h v in
    let l = b.below in let r : y / d ≡ suc b.part = ap (λ n. n / d) p ∙ b.above in
    ap (λ n. negsuc n +ℤ pos (y / d)) l ∙ ap (λ n. negsuc b.part +ℤ pos n) r ∙ gone b.part
  where
    gone : (n : ℕ) → negsuc n +ℤ pos (suc n) ≡ pos 0
    gone n = omega (arith, ints)
exact-parts (negsuc x) (negsuc y) d h v e = absurd (omega (arith, ints, e))

pub no-rest : (z : ℤ) (d : ℕ) → 0 < d → d ∣ unsigned_abs z → int_rem_euclid z (pos d) ≡ pos 0
no-rest (pos x) d h v = ap pos (mod-eq-zero_of_dvd d v)
no-rest (negsuc x) d h v = let b = below d x h v in let r = b.rest in ap pos (omega (arith, r))

pub part-size : (z : ℤ) (d : ℕ) → unsigned_abs (int_div_euclid z (pos d)) ≤ unsigned_abs z
part-size (pos x) d = div-le_self x d
part-size (negsuc x) d = let h = div-le_self x d in omega (arith, h)

pub part-none : (d : ℕ) → int_div_euclid (pos 0) (pos d) ≡ pos 0
part-none d = ap pos (none-divided d)

-- The divisor of factors divides each.
pub divides : (fs : List (ℕ × ℤ)) (p : ℕ) → divisor_of fs ∣ unsigned_abs (factor_in fs p)
divides [] p = dvd-zero 0
divides (f ∷ fs) p = by_test (nat_eq f.0 p) (divides fs p)
  where
    by_test : (t : Bool) → divisor_of fs ∣ unsigned_abs (factor_in fs p) → divisor_of (f ∷ fs) ∣ unsigned_abs
        (cond t f.1 (factor_in fs p))
    by_test true ih = (gcd-is (unsigned_abs f.1) (divisor_of fs)).0
    by_test false ih = dvd_trans (divisor_of (f ∷ fs)) (gcd-is (unsigned_abs f.1) (divisor_of fs)).1 ih

int-eq-is : (a b : ℤ) → int_eq a b ≡ true → a ≡ b
int-eq-is a b h = grind (arith, ints)

eq-is : (a b : ℕ) → nat_eq a b ≡ true → a ≡ b
eq-is a b h = grind arith

-- opposite factors add up to 0
pub opposite-sum : (fs gs : List (ℕ × ℤ)) (p : ℕ) → are_opposite fs gs ≡ true → factor_in fs p +ℤ factor_in gs p ≡ pos 0
opposite-sum [] [] p e = refl
opposite-sum [] (g ∷ gs) p e = cc
opposite-sum (f ∷ fs) [] p e = cc
opposite-sum (f ∷ fs) (g ∷ gs) p e =
    let a = and_parts (nat_eq f.0 g.0 && int_eq (f.1 +ℤ g.1) (pos 0)) (are_opposite fs gs) e in
    let b = and_parts (nat_eq f.0 g.0) (int_eq (f.1 +ℤ g.1) (pos 0)) a.0 in
    ap (λ n. factor_in (f ∷ fs) p +ℤ cond (nat_eq n p) g.1 (factor_in gs p)) (sym (eq-is f.0 g.0 b.0))
    ∙ by_test (nat_eq f.0 p) (int-eq-is (f.1 +ℤ g.1) (pos 0) b.1) (opposite-sum fs gs p a.1)
  where
    by_test : (t : Bool) → f.1 +ℤ g.1 ≡ pos 0 → factor_in fs p +ℤ factor_in gs p ≡ pos 0 → cond t f.1 (factor_in fs p)
        +ℤ cond t g.1 (factor_in gs p) ≡ pos 0
    by_test true k l = k
    by_test false k l = l

le-is : (a b : ℕ) → nat_le a b ≡ true → a ≤ b
le-is a b h = grind arith

pub moderate-factor : (fs : List (ℕ × ℤ)) (p : ℕ) → list_all (λ (x : ℕ × ℤ). is_moderate x.1) fs ≡ true → unsigned_abs
    (factor_in fs p) ≤ 2 ^ 124
moderate-factor [] p e = omega arith
moderate-factor (f ∷ fs) p e =
    let a = and_parts (is_moderate f.1) (list_all (λ (x : ℕ × ℤ). is_moderate x.1) fs) e in
    by_test (nat_eq f.0 p) (le-is (unsigned_abs f.1) (2 ^ 124) a.0) (moderate-factor fs p a.1)
  where
    by_test : (t : Bool) → unsigned_abs f.1 ≤ 2 ^ 124 → unsigned_abs (factor_in fs p) ≤ 2 ^ 124 → unsigned_abs
        (cond t f.1 (factor_in fs p)) ≤ 2 ^ 124
    by_test true a b = a
    by_test false a b = b

-- Factors of a list of numbers.
le-true : (a b : ℕ) → a ≤ b → nat_le a b ≡ true
le-true a b h = grind arith

weaker : (n : ℕ) (fs : List (ℕ × ℤ)) → is_exact (suc n) fs ≡ true → is_exact n fs ≡ true
weaker n [] e = refl
weaker n (f ∷ fs) e =
    let a = and_parts (nat_le (suc n) f.0 && not (int_eq f.1 (pos 0))) (is_exact (suc f.0) fs) e in
    let b = and_parts (nat_le (suc n) f.0) (not (int_eq f.1 (pos 0))) a.0 in
    let c = le-is (suc n) f.0 b.0 in
    ap (λ t. (t && not (int_eq f.1 (pos 0))) && is_exact (suc f.0) fs) (le-true n f.0 (omega (arith, c)))
    ∙ ap (λ t. t && is_exact (suc f.0) fs) b.1 ∙ a.1

pub sparse-exact : (n : ℕ) (zs : List ℤ) → is_exact n (sparse n zs) ≡ true
sparse-exact n [] = refl
sparse-exact n (z ∷ zs) = by_test (int_eq z (pos 0)) refl (sparse-exact (suc n) zs)
  where
    by_test : (t : Bool) → int_eq z (pos 0) ≡ t → is_exact (suc n) (sparse (suc n) zs) ≡ true → is_exact n
        (cond t (sparse (suc n) zs) ((n, z) ∷ sparse (suc n) zs)) ≡ true
    by_test true e ih = weaker n (sparse (suc n) zs) ih
    by_test false e ih =
        ap (λ t. (t && not (int_eq z (pos 0))) && is_exact (suc n) (sparse (suc n) zs)) (le-true n n (omega arith))
        ∙ ap (λ t. not t && is_exact (suc n) (sparse (suc n) zs)) e ∙ ih

pub sparse-before : (n p : ℕ) (zs : List ℤ) → p < n → factor_in (sparse n zs) p ≡ pos 0
sparse-before n p [] h = refl
sparse-before n p (z ∷ zs) h = by_test (int_eq z (pos 0)) (sparse-before (suc n) p zs (omega arith))
  where
    apart : (a b : ℕ) → b < a → nat_eq a b ≡ false
    apart a b h = grind arith

    by_test : (t : Bool) → factor_in (sparse (suc n) zs) p ≡ pos 0 → factor_in
        (cond t (sparse (suc n) zs) ((n, z) ∷ sparse (suc n) zs)) p ≡ pos 0
    by_test true ih = ih
    by_test false ih = ap (λ t. cond t z (factor_in (sparse (suc n) zs) p)) (apart n p h) ∙ ih

pub sparse-factor : (n p : ℕ) (zs : List ℤ) → factor_in (sparse n zs) (n + p) ≡ number_at zs p
sparse-factor n p [] = refl
sparse-factor n zero (z ∷ zs) =
    let same : n + 0 ≡ n = omega arith in
    ap (factor_in (sparse n (z ∷ zs))) same ∙ by_test (int_eq z (pos 0)) refl
  where
    eq-refl : (a : ℕ) → nat_eq a a ≡ true
    eq-refl a = grind arith

    by_test : (t : Bool) → int_eq z (pos 0) ≡ t → factor_in (cond t (sparse (suc n) zs) ((n, z) ∷ sparse (suc n) zs)) n
        ≡ z
    by_test true e = sparse-before (suc n) n zs (omega arith) ∙ sym (int-eq-is z (pos 0) e)
    by_test false e = ap (λ t. cond t z (factor_in (sparse (suc n) zs) n)) (eq-refl n)
sparse-factor n (suc p) (z ∷ zs) =
    let next : n + suc p ≡ suc n + p = omega arith in
    ap (factor_in (sparse n (z ∷ zs))) next ∙ by_test (int_eq z (pos 0)) ∙ sparse-factor (suc n) p zs
  where
    apart : (a b : ℕ) → a < b → nat_eq a b ≡ false
    apart a b h = grind arith

    by_test : (t : Bool) → factor_in (cond t (sparse (suc n) zs) ((n, z) ∷ sparse (suc n) zs)) (suc n + p) ≡ factor_in
        (sparse (suc n) zs) (suc n + p)
    by_test true = refl
    by_test false = ap (λ t. cond t z (factor_in (sparse (suc n) zs) (suc n + p))) (apart n (suc n + p) (omega arith))

pub number-map : (h : ℤ → ℤ) (zs : List ℤ) (p : ℕ) → h (pos 0) ≡ pos 0 → number_at (map h zs) p ≡ h (number_at zs p)
number-map h [] p e = sym e
number-map h (z ∷ zs) zero e = refl
number-map h (z ∷ zs) (suc p) e = number-map h zs p e
