-- How far from 0 a quotient and a remainder lie, and that no other number is the quotient.
use Rattle.std.proofs.Common.{◌≡◌, ℕ, zero, suc, ◌+◌, ◌*◌, ◌≤◌, max, ℤ, pos, negsuc, ◌+ℤ◌, ◌-ℤ◌, ◌*ℤ◌, ◌≤ℤ◌, ◌<ℤ◌}
use Rattle.std.proofs.Common.{cond, Bool, true, false, IsTrue, refl, sym, ap, subst, arith}
use Rattle.std.proofs.Math.Nat.{div-le_self, mul-le-mul_left}
use Rattle.std.proofs.lemmas.Int.{ints}
use borrow.Author.Differences.{up, down}
use Rattle.std.specs.Int.{int_div_euclid, int_rem_euclid}
use Rattle.std.specs.Int.RustNames.{int_le, unsigned_abs}
use Rattle.meaning_states.specs.Division.{divisor, floored, rest_of}
use Rattle.meaning_states.proofs.DivisionTheorems.{divisor_is_positive, parts_make_the_number}

-- a divisor is one more than some natural number
divisor_is : (k : ℤ) → (n : ℕ) × (divisor k ≡ pos (suc n))
divisor_is k = one_more (divisor k) (divisor_is_positive k)
  where
    one_more : (d : ℤ) → IsTrue (int_le (pos 1) d) → (n : ℕ) × (d ≡ pos (suc n))
    one_more (pos zero) t = cc
    one_more (pos (suc n)) t = (n, refl)
    one_more (negsuc n) t = cc

-- a divisor is the number, or 1
pub divisor_within : (k : ℤ) → unsigned_abs (divisor k) ≤ max 1 (unsigned_abs k)
divisor_within k = either (int_le (pos 1) k)
  where
    either : (b : Bool) → unsigned_abs (cond b k (pos 1)) ≤ max 1 (unsigned_abs k)
    either true = omega arith
    either false = omega arith

quotient_within : (z : ℤ) (n : ℕ) → unsigned_abs (int_div_euclid z (pos (suc n))) ≤ unsigned_abs z
quotient_within (pos x) n = div-le_self x (suc n)
quotient_within (negsuc x) n = let h = div-le_self x (suc n) in omega (arith, h)

-- a quotient lies no further from 0 than the number
pub floored_within : (z k : ℤ) → unsigned_abs (floored z k) ≤ unsigned_abs z
floored_within z k =
    let d = divisor_is k in
    subst (λ x. unsigned_abs (int_div_euclid z x) ≤ unsigned_abs z) (sym d.1) (quotient_within z d.0)

-- a remainder is at least 0 and below the divisor
abbrev IsRest : ℤ → ℤ → Type 0
IsRest d r = (pos 0 ≤ℤ r) × (r <ℤ d)

rest_within : (z : ℤ) (n : ℕ) → IsRest (pos (suc n)) (int_rem_euclid z (pos (suc n)))
rest_within (pos x) n = (omega (arith, ints), omega (arith, ints))
rest_within (negsuc x) n = (omega (arith, ints), omega (arith, ints))

pub rest_of_is : (z k : ℤ) → (pos 0 ≤ℤ rest_of z k) × (rest_of z k <ℤ divisor k)
rest_of_is z k =
    let d = divisor_is k in subst (λ x. IsRest x (int_rem_euclid z x)) (sym d.1) (rest_within z d.0)

pub rest_of_within : (z k : ℤ) → unsigned_abs (rest_of z k) ≤ unsigned_abs (divisor k)
rest_of_within z k = let is = rest_of_is z k in omega (arith, ints, is.0, is.1)

-- a multiple that is the difference of two remainders is 0
none : (n : ℕ) (e r s : ℤ) → pos (suc n) *ℤ e ≡ r -ℤ s → IsRest (pos (suc n)) r → IsRest (pos (suc n)) s → e ≡ pos 0
none n (pos zero) r s is f g = refl
none n (pos (suc m)) r s is f g =
    let more : suc n * 1 ≤ suc n * suc m = mul-le-mul_left (suc n) (omega arith) in
    absurd (omega (arith, ints, is, f.1, g.0, more))
none n (negsuc m) r s is f g =
    let more : suc n * 1 ≤ suc n * suc m = mul-le-mul_left (suc n) (omega arith) in
    absurd (omega (arith, ints, is, f.0, g.1, more))

times-less : (d a b : ℤ) → d *ℤ (a -ℤ b) ≡ d *ℤ a -ℤ d *ℤ b
times-less d a b =
    let less : up (a -ℤ b) + (down a + up b) ≡ down (a -ℤ b) + (up a + down b) = omega (arith, ints) in
    let p : up d * (up (a -ℤ b) + (down a + up b)) ≡ up d * (down (a -ℤ b) + (up a + down b)) = ap (λ n. up d * n) less
    in
    let q : down d * (up (a -ℤ b) + (down a + up b)) ≡ down d * (down (a -ℤ b) + (up a + down b)) = ap
    (λ n. down d * n) less in
    omega (arith, ints, p, q)

-- the quotient is the only number that, times the divisor, leaves a remainder
pub floored_is : (z k q r : ℤ) → z ≡ divisor k *ℤ q +ℤ r → pos 0 ≤ℤ r → r <ℤ divisor k → floored z k ≡ q
floored_is z k q r e low high =
    let d = divisor_is k in
    let part = parts_make_the_number z k in
    let rest = rest_of_is z k in
    let apart = times-less (divisor k) q (floored z k) in
    let zero = none d.0 (q -ℤ floored z k) (rest_of z k) r
    (subst (λ x. x *ℤ (q -ℤ floored z k) ≡ rest_of z k -ℤ r) d.1 (omega (arith, ints, e, part, apart)))
    (subst (λ x. IsRest x (rest_of z k)) d.1 rest) (subst (λ x. IsRest x r) d.1 (low, high)) in
    omega (arith, ints, zero)
