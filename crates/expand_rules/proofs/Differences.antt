-- Tests of order on differences, and divisors.
use Rattle.std.proofs.Common.{◌≡◌, ℤ, pos, ◌-ℤ◌, Bool, true, false, cond, not, refl, ap}
use Rattle.std.proofs.Common.{arith}
use Rattle.std.proofs.lemmas.Int.{ints}
use borrow.Author.Differences.{le-true, le-false}
use Rattle.std.specs.Int.RustNames.{int_le}
use Rattle.std.specs.Option.{is_some}
use Rattle.core_terms.specs.from_meaning_states.Division.{divisor}
use Rattle.core_terms.proofs.IntTests.{le_yes, le_no}
use Rattle.expand_rules.specs.declared.cores.Formed.{Formed}
use Rattle.expand_rules.specs.Forming.{factor_of, divisor_of}

-- a difference is at least 1 where its second number is below the first
pub below_tests : (x y : ℤ) → int_le (pos 0) ((y -ℤ x) -ℤ pos 1) ≡ not (int_le y x)
below_tests x y = elim (int_le y x) as (λ v. int_le y x ≡ v → int_le (pos 0) ((y -ℤ x) -ℤ pos 1) ≡ not v) [
  | true ↦ λ e. let h = le-true y x e in le_no (pos 0) ((y -ℤ x) -ℤ pos 1) (omega (arith, ints))
  | false ↦ λ e. let h = le-false y x e in le_yes (pos 0) ((y -ℤ x) -ℤ pos 1) (omega (arith, ints))
] refl

-- divisors are at least 1

pub divisor_steady : (k : ℤ) → divisor (divisor k) ≡ divisor k
divisor_steady k = elim (int_le (pos 1) k) as (λ v. int_le (pos 1) k ≡ v →
    divisor (cond v k (pos 1)) ≡ cond v k (pos 1)) [
      | true ↦ λ e. ap (λ v. cond v k (pos 1)) e
      | false ↦ λ e. refl
    ] refl

pub divisor_of_steady : (b : Formed) → divisor (divisor_of b) ≡ divisor_of b
divisor_of_steady b = by (is_some b.measure.flaws.divisor)
  where
    by : (v : Bool) → divisor (cond v (pos 1) (divisor (factor_of b.core))) ≡ cond v (pos 1)
        (divisor (factor_of b.core))
    by true = refl
    by false = divisor_steady (factor_of b.core)
