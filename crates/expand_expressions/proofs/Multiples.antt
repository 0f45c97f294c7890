-- What multiples weigh.
use Rattle.std.proofs.Common.{◌≡◌, ℕ, ◌*◌, ◌^◌, ◌≤◌, ◌+◌, ℤ, arith, Option, Some, None, sym, ap}
use Rattle.std.proofs.Math.Nat.{mul-le-mul_left}
use Rattle.std.specs.Int.RustNames.{unsigned_abs}
use Rattle.core_terms.specs.declared.trees.CTerm.{CTerm}
use Rattle.core_terms.specs.Weights.{plain_weights, multiple_weights}
use Rattle.core_terms.specs.Folding.{number_of}
use Rattle.core_terms.proofs.KnownLaws.{number_within}
use Rattle.expand_rules.specs.from_meaning_documents.Names.{or_zero}
use Rattle.std.specs.Prelude.{MatchOption}

pub multiple_lighter : (k : ℤ) (t : CTerm) (own : ℕ) → (plain_weights t).own ≤ own →
    unsigned_abs k * (plain_weights t).own ≤ unsigned_abs k * own
multiple_lighter k t own h = mul-le-mul_left (unsigned_abs k) h

pub multiple_fits : (k : ℤ) (t : CTerm) (own : ℕ) → (plain_weights t).own ≤ own → unsigned_abs k * own ≤ 2 ^ 62 →
    (plain_weights t).most ≤ 2 ^ 64 → (multiple_weights k (plain_weights t)).most ≤ 2 ^ 126
multiple_fits k t own h w m =
    let l : unsigned_abs k * (plain_weights t).own ≤ unsigned_abs k * own = mul-le-mul_left (unsigned_abs k) h in
    omega (arith, l, w, m)

-- a number that stands beside a term lies within its weight, and is the term's
pub known_small : (t : CTerm) (m : Option ℤ) (own : ℕ) → m ≡ number_of t → (plain_weights t).own ≤ own → own ≤ 2 ^ 62
    + 1 →
    MatchOption m (Unit {0}) (λ z. unsigned_abs z ≤ 2 ^ 62 + 1)
known_small t None own e h i = tt
known_small t (Some z) own e h i =
    let w : unsigned_abs z ≤ (plain_weights t).own = number_within t z (sym e) in omega (arith, w, h, i)

pub factor_known : (t : CTerm) (m : Option ℤ) → m ≡ number_of t → or_zero m ≡ or_zero (number_of t)
factor_known t m e = ap or_zero e
