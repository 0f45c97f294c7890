-- Height, need and the plain tree, by which a search's units are bounded.
use Rattle.std.specs.Prelude.{ℕ, zero, suc, ◌+◌, ◌*◌, ◌^◌, nat_le, ℤ, pos, ◌+ℤ◌, ◌-ℤ◌, cond, Option, Some, None, List}
use Rattle.std.specs.Prelude.{[], ◌∷◌, length, map, int_div}
use Rattle.std.specs.Int.RustNames.{int_le, unsigned_abs}
use Rattle.core_terms.specs.declared.trees.CForm.{CForm}
use Rattle.core_terms.specs.declared.trees.Range.{Range}
use Rattle.obligations.specs.declared.branches.Variable.{Variable}
use Rattle.obligations.specs.declared.branches.Branch.{Branch}
use Rattle.obligations.specs.declared.branches.Obligation.{Obligation}
use Rattle.obligations.specs.Scopes.{next_param, scope_of}
use Rattle.obligations.specs.Settling.{settled, sides, added}
use Rattle.obligations.specs.declared.branches.Replaced.{Replaced}
use Rattle.obligations.specs.Quotients.{without_quotient, with_quotient, is_either}
use Rattle.obligations.specs.Opening.{at_most, at_least, first_branch}
use Rattle.obligations.specs.Reach.{some_out_of_reach}
use Rattle.obligations.specs.Shapes.{shapes}

abbrev pub ranges_of : List Variable → List Range
ranges_of vs = map (λ (v : Variable). v.range) vs

-- the number of values of a range
abbrev pub range_size : Range → ℕ
range_size r = cond (int_le r.lo r.hi) (unsigned_abs (r.hi -ℤ r.lo) + 1) 0

-- the number of values of all variables together
abbrev pub volume : List Range → ℕ
volume [] = 1
volume (r ∷ rs) = range_size r * volume rs

-- the least e, from this one on, with 2^e at least the size; after so many steps the next one
unfoldable pub least_power : ℕ → ℕ → ℕ → ℕ
least_power zero e size = e
least_power (suc k) e size = cond (nat_le size (2 ^ e)) e (least_power k (suc e) size)

-- how often a range is halved until one value is left; the size of a range is at most 2^64
abbrev pub halvings : Range → ℕ
halvings r = least_power 64 0 (range_size r)

-- how often all ranges are
abbrev pub cuts_of : List Range → ℕ
cuts_of [] = 0
cuts_of (r ∷ rs) = halvings r + cuts_of rs

-- the cases of the form's negation, and the halvings of all ranges
abbrev pub height_of : Obligation → ℕ
height_of o = (shapes o.form).no.cases + cuts_of (ranges_of o.variables)

-- how many quotients the form's negation can have taken on one path
abbrev pub quotients_in : Obligation → ℕ
quotients_in o = (shapes o.form).no.quotients

-- the units that closing one leaf may take, with so many variables and quotients
abbrev pub leaf_units : ℕ → ℕ → ℕ
leaf_units n q = (2 * q + 1) * (n + q + 256)

abbrev pub leaf_units_of : Obligation → ℕ
leaf_units_of o = leaf_units (length o.variables) (quotients_in o)

-- the leaves of the form's negation, each with all values, and each with the units of a leaf
abbrev pub need_of : Obligation → ℕ
need_of o = ((shapes o.form).no.leaves * volume (ranges_of o.variables)) * leaf_units_of o

-- the low end and half of what is above it, rounded down
abbrev pub middle : Range → ℤ
middle r = r.lo +ℤ int_div (r.hi -ℤ r.lo) (pos 2)

-- a variable's place, and the number after which its range is split
pub record Cut : Type 0 where
  pub place : ℕ
  pub at : ℤ

-- the first variable that still has more than one value, and the middle of its range; the first range has this place
abbrev pub first_cut : ℕ → List Range → Option Cut
first_cut n [] = None
first_cut n (r ∷ rs) = cond (int_le r.hi r.lo) (first_cut (suc n) rs) (Some (record { place = n; at = middle r }))

-- the ranges with the variable at a place at most this, or at least this
abbrev pub with_high : List Range → ℕ → ℤ → List Range
with_high [] n k = []
with_high (r ∷ rs) zero k = record { lo = r.lo; hi = k } ∷ rs
with_high (r ∷ rs) (suc n) k = r ∷ with_high rs n k

abbrev pub with_low : List Range → ℕ → ℤ → List Range
with_low [] n k = []
with_low (r ∷ rs) zero k = record { lo = k; hi = r.hi } ∷ rs
with_low (r ∷ rs) (suc n) k = r ∷ with_low rs n k

abbrev pub waiting_only : Branch → List CForm → Branch
waiting_only b fs = record { facts = b.facts; waiting = fs; added = b.added }

-- the leaves below a branch where nothing waits, from those below its halves
abbrev pub cut_leaves : (List Range → Branch → ℕ) → List Range → Branch → Option Cut → ℕ
cut_leaves go rs b None = 1
cut_leaves go rs b (Some c) =
    go (with_high rs c.place c.at) (added b (at_most c.place c.at))
    + go (with_low rs c.place (c.at +ℤ pos 1)) (added b (at_least c.place (c.at +ℤ pos 1)))

-- the leaves below the two sides of a formula
abbrev pub side_leaves : List Variable → (List Range → Branch → ℕ) → List Range → Branch → CForm → ℕ
side_leaves vs go rs b f = go rs (settled vs (sides f).0 b) + go rs (settled vs (sides f).1 b)

-- those below a formula with a quotient taken
abbrev pub quot_leaves : List Variable → (List Range → Branch → ℕ) → List Range → Branch → Option Replaced → ℕ
quot_leaves vs go rs b None = 1
quot_leaves vs go rs b (Some r) = go rs (with_quotient vs r b)

-- the leaves below a branch of which no fact is out of reach, from those below the branches that it opens
abbrev pub open_leaves : List Variable → (List Range → Branch → ℕ) → List Range → Branch → List CForm → ℕ
open_leaves vs go rs b [] = cut_leaves go rs b (first_cut 0 rs)
open_leaves vs go rs b (f ∷ fs) =
    cond (is_either f) (side_leaves (scope_of vs b) go rs (waiting_only b fs) f)
    (quot_leaves (scope_of vs b) go rs (waiting_only b fs) (without_quotient (next_param (scope_of vs b)) f))

-- The leaves of the plain tree, of at most this many levels: a branch with a fact out of reach is a
-- leaf; another has the branches of its first waiting formula, or the one where that has a quotient taken; else
-- those of a split of the first variable of the obligation with more than one value; else it is a leaf.
abbrev pub plain_leaves : List Variable → ℕ → List Range → Branch → ℕ
plain_leaves vs zero rs b = 1
plain_leaves vs (suc k) rs b = cond (some_out_of_reach b.facts) 1 (open_leaves vs (plain_leaves vs k) rs b b.waiting)

-- the units that always suffice; the tree of an obligation has at most 960 levels below its root
abbrev pub enough : Obligation → ℕ
enough o = plain_leaves o.variables 960 (ranges_of o.variables) (first_branch o) * leaf_units_of o
