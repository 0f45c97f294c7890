-- Tests of order on whole numbers, and on their differences.
use Rattle.std.proofs.Common.{◌≡◌, ℤ, pos, ◌-ℤ◌, ◌≤ℤ◌, ◌<ℤ◌, true, false, ◌&&◌, refl, ap, ◌∙◌, arith}
use Rattle.std.proofs.lemmas.Int.{ints}
use borrow.Author.Differences.{le-true, le-false}
use Rattle.std.specs.Int.RustNames.{int_le}
use Rattle.meaning_states.specs.State.{int_eq}

pub le_yes : (a b : ℤ) → a ≤ℤ b → int_le a b ≡ true
le_yes a b h = elim (int_le a b) as (λ v. int_le a b ≡ v → v ≡ true) [
  | true ↦ λ e. refl
  | false ↦ λ e. let over = le-false a b e in absurd (omega (arith, ints))
] refl

pub le_no : (a b : ℤ) → b <ℤ a → int_le a b ≡ false
le_no a b h = elim (int_le a b) as (λ v. int_le a b ≡ v → v ≡ false) [
  | true ↦ λ e. let under = le-true a b e in absurd (omega (arith, ints))
  | false ↦ λ e. refl
] refl

-- a difference is at least 0 where its second number is at most the first
pub least_tests : (x y : ℤ) → int_le (pos 0) (y -ℤ x) ≡ int_le x y
least_tests x y = elim (int_le x y) as (λ v. int_le x y ≡ v → int_le (pos 0) (y -ℤ x) ≡ v) [
  | true ↦ λ e. let h = le-true x y e in le_yes (pos 0) (y -ℤ x) (omega (arith, ints))
  | false ↦ λ e. let h = le-false x y e in le_no (pos 0) (y -ℤ x) (omega (arith, ints))
] refl

-- and at most 0 where the first is at most the second
most_tests : (x y : ℤ) → int_le (x -ℤ y) (pos 0) ≡ int_le x y
most_tests x y = elim (int_le x y) as (λ v. int_le x y ≡ v → int_le (x -ℤ y) (pos 0) ≡ v) [
  | true ↦ λ e. let h = le-true x y e in le_yes (x -ℤ y) (pos 0) (omega (arith, ints))
  | false ↦ λ e. let h = le-false x y e in le_no (x -ℤ y) (pos 0) (omega (arith, ints))
] refl

-- a difference is 0 where its numbers are equal
pub zero_tests : (x y : ℤ) → int_eq (x -ℤ y) (pos 0) ≡ int_eq x y
zero_tests x y = ap (λ v. v && int_le (pos 0) (x -ℤ y)) (most_tests x y) ∙ ap (λ v. int_le x y && v) (least_tests y x)
