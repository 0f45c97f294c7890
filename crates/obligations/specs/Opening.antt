-- An obligation's validity, and its first branch.
use Rattle.std.specs.Prelude.{◌≡◌, ℕ, suc, ℤ, pos, negsuc, neg_ℤ, Bool, true, false, not, ◌&&◌, List, [], ◌∷◌, length}
use Rattle.std.specs.Int.RustNames.{int_le}
use Rattle.obligations.specs.declared.branches.Fact.{Fact}
use Rattle.obligations.specs.declared.branches.Branch.{Branch}
use Rattle.obligations.specs.declared.branches.Variable.{Variable}
use Rattle.obligations.specs.declared.branches.Obligation.{Obligation}
use Rattle.obligations.specs.Settling.{refused, form_at, branch_holds}

-- each value lies in its variable's range
abbrev pub in_ranges : List Variable → List ℤ → Bool
in_ranges [] [] = true
in_ranges [] (z ∷ zs) = false
in_ranges (v ∷ vs) [] = false
in_ranges (v ∷ vs) (z ∷ zs) = (int_le v.range.lo z && int_le z v.range.hi) && in_ranges vs zs

-- the form is true at all values of its variables in their ranges
abbrev pub Valid : Obligation → Type 0
Valid o = (values : List ℤ) → in_ranges o.variables values ≡ true → form_at o.variables values o.form ≡ true

-- that the variable at a place is at least the low end of its range, and at most the high end
abbrev pub at_least : ℕ → ℤ → Fact
at_least n lo = record { factors = (n, pos 1) ∷ []; constant = neg_ℤ lo }

abbrev pub at_most : ℕ → ℤ → Fact
at_most n hi = record { factors = (n, negsuc 0) ∷ []; constant = hi }

-- both for each variable, the first of which has this place
abbrev pub range_facts : ℕ → List Variable → List Fact
range_facts n [] = []
range_facts n (v ∷ vs) = at_least n v.range.lo ∷ at_most n v.range.hi ∷ range_facts (suc n) vs

abbrev pub ranges_only : List Variable → Branch
ranges_only vs = record { facts = range_facts 0 vs; waiting = []; added = 0 }

-- the ranges' facts, and the form refused
abbrev pub first_branch : Obligation → Branch
first_branch o = refused o.variables o.form (ranges_only o.variables)

-- the first branch holds exactly where the form is false and the values lie in their ranges
abbrev pub FirstHolds : Type 0
FirstHolds = (o : Obligation) (values : List ℤ) → length values ≡ length o.variables →
    branch_holds o.variables values (first_branch o) ≡
    (in_ranges o.variables values && not (form_at o.variables values o.form))

-- at values in the ranges, a branch holds exactly where an obligation's form is false
abbrev pub HoldsWhereFalse : Obligation → Branch → Type 0
HoldsWhereFalse o b = (values : List ℤ) → in_ranges o.variables values ≡ true →
    branch_holds o.variables values b ≡ not (form_at o.variables values o.form)
