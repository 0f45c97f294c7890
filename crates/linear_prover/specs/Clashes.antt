-- What the code keeps of facts that may clash.
use Rattle.std.specs.Prelude.{◌≡◌, ℕ, ◌≤◌, ◌^◌, nat_eq, nat_le, ℤ, pos, ◌+ℤ◌, ◌≤ℤ◌, Bool, true, ◌&&◌, List, [], ◌∷◌}
use Rattle.std.specs.Prelude.{suc, slice_get, Some}
use Rattle.std.specs.Int.{int_div_euclid}
use Rattle.std.specs.Int.RustNames.{unsigned_abs}
use Rattle.obligations.specs.declared.branches.Fact.{Fact}
use Rattle.obligations.specs.declared.certificates.Node.{Node}
use Rattle.meaning_states.specs.State.{int_eq}
use Rattle.obligations.specs.Reach.{divisor_of, is_moderate_fact, is_some_factor, clash}
use Rattle.linear_prover.specs.declared.clash.Rounding.{Rounding}
use Rattle.linear_prover.specs.declared.clash.Partner.{Partner}
use Rattle.linear_prover.specs.declared.clash.Pair.{Pair}
use Rattle.linear_prover.specs.declared.keys.Key.{Key}

-- a fact that may clash: it has a factor, no number is too great, and it can be divided
abbrev pub can_clash : Fact → Bool
can_clash f = (is_some_factor f.factors && is_moderate_fact f) && nat_le (divisor_of f.factors) (2 ^ 62)

-- a fact's divisor, and its constant divided by it and rounded down
pub record Rounds (f : Fact) (r : Rounding) : Type 0 where
  pub can : can_clash f ≡ true
  pub positive : pos 1 ≤ℤ r.divisor
  pub divisor : r.divisor ≡ pos (divisor_of f.factors)
  pub constant : r.constant ≡ int_div_euclid f.constant (pos (divisor_of f.factors))
  pub size : unsigned_abs r.constant ≤ 2 ^ 124

-- two factors of one variable that add up to 0
abbrev pub is_turned : ℕ × ℤ → ℕ × ℤ → Bool
is_turned f g = nat_eq f.0 g.0 && int_eq (f.1 +ℤ g.1) (pos 0)

-- the variables of the first two factors, of which the variable of a lone factor stands for both
abbrev pub key_of : List (ℕ × ℤ) → Key
key_of [] = record { first = 0; second = 0 }
key_of (f ∷ []) = record { first = f.0; second = f.0 }
key_of (f ∷ g ∷ fs) = record { first = f.0; second = g.0 }

abbrev pub fact_key : Fact → Key
fact_key f = key_of f.factors

abbrev pub is_same_key : Key → Key → Bool
is_same_key one other = nat_eq one.first other.first && nat_eq one.second other.second

-- a fact clashes with the one at a place
pub record IsPartner (f : Fact) (facts : List Fact) (p : Partner) : Type 0 where
  pub other : Fact
  pub there : slice_get facts p.place ≡ Some other
  pub clash : clash f other ≡ true
  pub divisor : p.divisor ≡ pos (divisor_of f.factors)

-- the facts at two places clash
pub record IsClash (facts : List Fact) (p : Pair) : Type 0 where
  pub fact : Fact
  pub first : slice_get facts p.place ≡ Some fact
  pub second : IsPartner fact facts p.partner

-- a round of two facts each by a divisor, among so many facts, and the sum of the two new facts
abbrev pub clash_chain : ℕ → ℤ → ℕ → ℕ → List Node
clash_chain total d i j =
    Node.Round d ((pos 1, suc i) ∷ []) ∷ Node.Round d ((pos 1, suc j) ∷ [])
    ∷ Node.Sum ((pos 1, suc total) ∷ (pos 1, suc (suc total)) ∷ []) ∷ []
