-- The quotients of a line's numbers.
use Rattle.std.proofs.Common.{◌≡◌, ℕ, ℤ, pos, ◌+ℤ◌, ◌*ℤ◌, ◌≤ℤ◌, ◌<ℤ◌, ap, ◌∙◌, arith}
use Rattle.std.proofs.lemmas.Int.{ints}
use Rattle.meaning_states.specs.Division.{divisor, floored, rest_of}
use Rattle.meaning_states.proofs.DivisionTheorems.{parts_make_the_number}
use Rattle.core_terms.proofs.QuotientLaws.{rest_of_is, floored_is}
use Rattle.obligations.proofs.RingLaws.{times-add, times-times}

-- they are a line where the divisor divides what is added at each step
pub steep : (v s k : ℤ) (n : ℕ) → rest_of s k ≡ pos 0 →
    floored (v +ℤ s *ℤ pos n) k ≡ floored v k +ℤ floored s k *ℤ pos n
steep v s k n none =
    let first = parts_make_the_number v k in
    let step = parts_make_the_number s k in
    let exact : s ≡ divisor k *ℤ floored s k = omega (arith, ints, step, none) in
    let more : s *ℤ pos n ≡ divisor k *ℤ (floored s k *ℤ pos n) = ap (λ x. x *ℤ pos n) exact
    ∙ times-times (divisor k) (floored s k) (pos n) in
    let both = times-add (divisor k) (floored v k) (floored s k *ℤ pos n) in
    let rest = rest_of_is v k in
    floored_is (v +ℤ s *ℤ pos n) k (floored v k +ℤ floored s k *ℤ pos n) (rest_of v k)
    (omega (arith, ints, first, more, both)) rest.0 rest.1

-- and stay the same as long as what is left stays at least 0 and below the divisor
pub flat : (v s k : ℤ) (n : ℕ) → pos 0 ≤ℤ (rest_of v k +ℤ s *ℤ pos n) → (rest_of v k +ℤ s *ℤ pos n) <ℤ divisor k →
    floored (v +ℤ s *ℤ pos n) k ≡ floored v k +ℤ pos 0 *ℤ pos n
flat v s k n low high =
    let first = parts_make_the_number v k in
    let same = floored_is (v +ℤ s *ℤ pos n) k (floored v k) (rest_of v k +ℤ s *ℤ pos n) (omega (arith, ints, first)) low
    high in
    same ∙ omega (arith, ints)
