-- Truths, and tests of numbers that pass.
use Rattle.std.proofs.Common.{◌≡◌, ℕ, nat_eq, ℤ, ◌≤ℤ◌, Bool, true, false, ◌&&◌, ◌||◌, IsTrue, refl, inl, inr, arith}
use Rattle.std.proofs.lemmas.Bool.Decides.{eqb_tells}
use Rattle.std.proofs.lemmas.Int.{ints}
use borrow.Author.Differences.{le-false}
use Rattle.std.specs.Int.RustNames.{int_le}

pub and_left : (a b : Bool) → IsTrue (a && b) → IsTrue a
and_left true b t = refl
and_left false b t = cc

pub and_right : (a b : Bool) → IsTrue (a && b) → IsTrue b
and_right true b t = t
and_right false b t = cc

pub both_true : (a b : Bool) → IsTrue a → IsTrue b → IsTrue (a && b)
both_true true b t u = u
both_true false b t u = cc

pub or_first : (a b : Bool) → IsTrue a → IsTrue (a || b)
or_first true b t = refl
or_first false b t = cc

pub or_second : (a b : Bool) → IsTrue b → IsTrue (a || b)
or_second true b t = refl
or_second false b t = t

pub self_equal : (n : ℕ) → IsTrue (nat_eq n n)
self_equal n = elim (eqb_tells n n) [
  | inl w ↦ w.0
  | inr w ↦ absurd (w.1 refl)
]

-- a test of order that passes
pub le_passes : (a b : ℤ) → a ≤ℤ b → IsTrue (int_le a b)
le_passes a b h = elim (int_le a b) as (λ v. int_le a b ≡ v → IsTrue v) [
  | true ↦ λ e. refl
  | false ↦ λ e. let over = le-false a b e in absurd (omega (arith, ints))
] refl
