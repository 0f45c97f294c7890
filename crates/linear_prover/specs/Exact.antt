-- Facts whose factors stand in order.
use Rattle.std.specs.Prelude.{ℕ, zero, suc, nat_eq, ℤ, pos, Bool, true, cond, not, ◌&&◌, List, [], ◌∷◌}
use Rattle.std.specs.List.{list_any}
use Rattle.obligations.specs.declared.branches.Fact.{Fact}
use Rattle.obligations.specs.LinearForms.{fact_of}
use Rattle.obligations.specs.Reach.{is_within}

-- the factor of a variable, 0 where it isn't named
abbrev pub factor_in : List (ℕ × ℤ) → ℕ → ℤ
factor_in [] p = pos 0
factor_in (f ∷ fs) p = cond (nat_eq f.0 p) f.1 (factor_in fs p)

-- no variable is named twice
abbrev pub is_once : List (ℕ × ℤ) → Bool
is_once [] = true
is_once (f ∷ fs) = not (list_any (λ (g : ℕ × ℤ). nat_eq g.0 f.0) fs) && is_once fs

-- a fact over so many variables, each named at most once
abbrev pub is_fact : ℕ → Fact → Bool
is_fact count f = is_within count f.factors && is_once f.factors

-- the factors of so many variables, the first of which has this place
abbrev pub factors_from : ℕ → ℕ → List (ℕ × ℤ) → List ℤ
factors_from n zero fs = []
factors_from n (suc k) fs = factor_in fs n ∷ factors_from (suc n) k fs

-- the same fact with its factors in rising order, and without those that are 0
abbrev pub in_order : ℕ → Fact → Fact
in_order count f = fact_of (record { factors = factors_from 0 count f.factors; constant = f.constant })
