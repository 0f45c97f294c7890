-- Division that is rounded down: a number is its divisor times its quotient, and a rest below the divisor.
use Rattle.std.proofs.Common.{◌≡◌, ℕ, zero, suc, ℤ, pos, negsuc, ◌+ℤ◌, ◌*ℤ◌, cond, IsTrue, refl, ap, subst}
use Rattle.std.proofs.Common.{sym, ◌∙◌, arith, div-add-mod'}
use Rattle.std.specs.Int.{int_div_euclid, int_rem_euclid}
use Rattle.std.specs.Int.RustNames.{int_le, int_lt}
use Rattle.std.proofs.lemmas.Int.{ints}
use lib.IntN.{*ℤ_comm}
use Rattle.meaning_states.specs.Division.{divisor}
use Rattle.meaning_states.specs.DivisionLaws.{DivisorIsPositive, PartsMakeTheNumber, RestIsNoLess, RestIsBelow}

positive : (n : ℕ) → IsTrue (int_le (pos 1) (pos (suc n)))
positive n = grind (arith, ints)

-- a divisor is one more than some natural number
divisor_is : (k : ℤ) → (n : ℕ) × (divisor k ≡ pos (suc n))
divisor_is (pos zero) = (zero, refl)
divisor_is (pos (suc n)) = (n, ap (λ b. cond b (pos (suc n)) (pos 1)) (positive n))
divisor_is (negsuc n) = (zero, refl)

parts_of : (z : ℤ) (n : ℕ) → z ≡ int_div_euclid z (pos (suc n)) *ℤ pos (suc n) +ℤ int_rem_euclid z (pos (suc n))
parts_of (pos a) n = omega (arith, ints, div-add-mod' a (suc n))
parts_of (negsuc a) n = omega (arith, ints, div-add-mod' a (suc n))

rest_no_less : (z : ℤ) (n : ℕ) → IsTrue (int_le (pos 0) (int_rem_euclid z (pos (suc n))))
rest_no_less (pos a) n = grind (arith, ints)
rest_no_less (negsuc a) n = grind (arith, ints)

rest_below : (z : ℤ) (n : ℕ) → IsTrue (int_lt (int_rem_euclid z (pos (suc n))) (pos (suc n)))
rest_below (pos a) n = grind (arith, ints)
rest_below (negsuc a) n = grind (arith, ints)

pub divisor_is_positive : DivisorIsPositive
divisor_is_positive k = let d = divisor_is k in subst (λ x. IsTrue (int_le (pos 1) x)) (sym d.1) (positive d.0)

pub parts_make_the_number : PartsMakeTheNumber
parts_make_the_number z k =
    let d = divisor_is k in
    subst (λ x. z ≡ x *ℤ int_div_euclid z x +ℤ int_rem_euclid z x) (sym d.1)
    (parts_of z d.0 ∙ ap (λ x. x +ℤ int_rem_euclid z (pos (suc d.0)))
    (*ℤ_comm (int_div_euclid z (pos (suc d.0))) (pos (suc d.0))))

pub rest_is_no_less : RestIsNoLess
rest_is_no_less z k =
    let d = divisor_is k in
    subst (λ x. IsTrue (int_le (pos 0) (int_rem_euclid z x))) (sym d.1) (rest_no_less z d.0)

pub rest_is_below : RestIsBelow
rest_is_below z k =
    let d = divisor_is k in
    subst (λ x. IsTrue (int_lt (int_rem_euclid z x) x)) (sym d.1) (rest_below z d.0)
