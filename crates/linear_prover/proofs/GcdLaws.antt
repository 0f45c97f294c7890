-- The greatest common divisor.
use Rattle.std.proofs.Common.{◌≡◌, ℕ, zero, suc, ◌+◌, ◌%◌, ◌≤◌, ◌<◌, arith, refl, sym, ap, ◌∙◌}
use Rattle.std.specs.Int.{IsGcd}
use Rattle.std.proofs.lemmas.Nat.Gcd.{IsGcd-from_zero, IsGcd-from_mod}
use Rattle.obligations.specs.Reach.{gcd_in, gcd}

gcd-in : (k a b : ℕ) → b < k → IsGcd a b (gcd_in k a b)
unfolding gcd_in
gcd-in zero a b h = absurd (omega arith)
gcd-in (suc k) a zero h = IsGcd-from_zero a zero refl
gcd-in (suc k) a (suc b) h = IsGcd-from_mod a (suc b) (gcd_in k (suc b) (a % suc b))
    (gcd-in k (suc b) (a % suc b) (omega arith))

pub gcd-is : (a b : ℕ) → IsGcd a b (gcd a b)
unfolding gcd
gcd-is a b = gcd-in (suc b) a b (omega arith)

same-in : (k l a b : ℕ) → b < k → b < l → gcd_in k a b ≡ gcd_in l a b
unfolding gcd_in
same-in zero l a b h i = absurd (omega arith)
same-in (suc k) zero a b h i = absurd (omega arith)
same-in (suc k) (suc l) a zero h i = refl
same-in (suc k) (suc l) a (suc b) h i = same-in k l (suc b) (a % suc b) (omega arith) (omega arith)

-- a step of the division
pub gcd-step : (a b : ℕ) → 0 < b → gcd b (a % b) ≡ gcd a b
unfolding gcd gcd_in
gcd-step a zero h = absurd (omega arith)
gcd-step a (suc b) h = same-in (suc (a % suc b)) (suc b) (suc b) (a % suc b) (omega arith) (omega arith)

pub gcd-end : (a b : ℕ) → b ≤ 0 → gcd a b ≡ a
unfolding gcd gcd_in
gcd-end a zero h = refl
gcd-end a (suc b) h = absurd (omega arith)

pub ruleset gcd_laws = (gcd-step, gcd-end)
