-- The variables of a branch: those of an obligation, and a parameter for each quotient that was taken.
use Rattle.std.specs.Prelude.{ℕ, zero, suc, max, pos, true, cond, List, [], ◌∷◌, ◌++◌}
use Rattle.core_terms.specs.declared.trees.Range.{Range}
use Rattle.obligations.specs.declared.branches.Variable.{Variable}
use Rattle.obligations.specs.declared.branches.Branch.{Branch}

-- one more than a parameter's number, and 0 for a slot
abbrev pub past : Variable → ℕ
past v = cond v.param (suc v.number) 0

-- one more than the greatest number of a parameter, and 0 where there is none
abbrev pub next_param : List Variable → ℕ
next_param [] = 0
next_param (v ∷ vs) = max (past v) (next_param vs)

-- the range of an added variable, which nothing reads
abbrev pub no_range : Range
no_range = record { lo = pos 0; hi = pos 0 }

-- the parameter that a quotient gets: it is numbered after all others
abbrev pub next_variable : List Variable → Variable
next_variable vs = record { param = true; number = next_param vs; range = no_range }

abbrev pub with_next : List Variable → List Variable
with_next vs = vs ++ next_variable vs ∷ []

-- the variables with so many added ones
abbrev pub scope : List Variable → ℕ → List Variable
scope vs zero = vs
scope vs (suc n) = with_next (scope vs n)

-- with those that a branch has
abbrev pub scope_of : List Variable → Branch → List Variable
scope_of vs b = scope vs b.added
