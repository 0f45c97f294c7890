-- The tables of bounds that the code keeps, and the sums that it makes with them.
use Rattle.std.specs.Prelude.{◌≡◌, ◌<◌, ◌≤◌, ◌^◌, ◌-◌, length, slice_get, ℕ, nat_le, ℤ, pos, negsuc, Bool, true, not}
use Rattle.std.specs.Prelude.{◌&&◌, Option, Some, None, List, [], ◌∷◌, ◌++◌, IfSome}
use Rattle.std.specs.Int.RustNames.{unsigned_abs}
use Rattle.obligations.specs.declared.branches.Fact.{Fact}
use Rattle.obligations.specs.declared.branches.Bound.{Bound}
use Rattle.linear_prover.specs.declared.bounds.Bounds.{Bounds}
use Rattle.linear_prover.specs.declared.bounds.Sum.{Sum}
use Rattle.obligations.specs.Reach.{tightest, Total, total_with, is_refuted_by, pair_for}

-- the bound that a table has for a variable
abbrev pub bound_here : Option (Option Bound) → Option Bound
bound_here None = None
bound_here (Some b) = b

abbrev pub bound_in : List (Option Bound) → ℕ → Option Bound
bound_in table v = bound_here (slice_get table v)

-- the bounds of a table have numbers: a place and one more
abbrev pub AreBoundPlaces : List (Option Bound) → Type 0
AreBoundPlaces table = (v : ℕ) → IfSome (bound_in table v) (λ b. b.place < 2 ^ 64 - 1)

-- a table has the tightest bound of each variable from one side
pub record AreBounds (count : ℕ) (side : ℤ) (facts : List Fact) (table : List (Option Bound)) : Type 0 where
  pub long : length table ≡ count
  pub tells : (v : ℕ) → v < count → bound_in table v ≡ tightest 0 v side facts

-- a total that refutes no fact: a bound is missing, or a number is too great
abbrev pub is_lost : Option Total → Bool
is_lost None = true
is_lost (Some t) = not (t.light && nat_le t.load (2 ^ 126))

-- the total that a sum of products stands for
abbrev pub light_total : Sum → Total
light_total s = record { value = s.value; load = s.load; light = true }

-- a sum after one product more
pub record IsNextSum (a : ℤ) (b : Option Bound) (old new : Sum) : Type 0 where
  pub is : total_with a b (Some (light_total old)) ≡ Some (light_total new)
  pub load : new.load ≤ 2 ^ 126
  pub value : unsigned_abs new.value ≤ new.load

-- the bound on the side on which a variable with this factor makes a fact greatest
abbrev pub against : Bounds → ℕ → ℤ → Option Bound
against bounds v (pos a) = bound_in bounds.highs v
against bounds v (negsuc a) = bound_in bounds.lows v

-- the total of a fact's factors with these bounds
abbrev pub total_in : Bounds → List (ℕ × ℤ) → Option Total
total_in bounds [] = Some (record { value = pos 0; load = 0; light = true })
total_in bounds (f ∷ fs) = total_with f.1 (against bounds f.0 f.1) (total_in bounds fs)

abbrev pub is_refuted_in : Bounds → Fact → Bool
is_refuted_in bounds f = is_refuted_by f.constant (total_in bounds f.factors)

abbrev pub pairs_in : Bounds → List (ℕ × ℤ) → List (ℤ × ℕ)
pairs_in bounds [] = []
pairs_in bounds (f ∷ fs) = pair_for f.1 (against bounds f.0 f.1) ++ pairs_in bounds fs

abbrev pub pairs_of : Option (ℤ × ℕ) → List (ℤ × ℕ)
pairs_of None = []
pairs_of (Some p) = p ∷ []

-- the item at a place passes a test
pub record IsAt {A : Type 0} (test : A → Bool) (xs : List A) (n : ℕ) : Type 0 where
  pub item : A
  pub there : slice_get xs n ≡ Some item
  pub passes : test item ≡ true

-- the tables of both sides
pub record BoundsTell (count : ℕ) (facts : List Fact) (bounds : Bounds) : Type 0 where
  pub lows : AreBounds count (pos 1) facts bounds.lows
  pub highs : AreBounds count (negsuc 0) facts bounds.highs
  pub low_numbers : AreBoundPlaces bounds.lows
  pub high_numbers : AreBoundPlaces bounds.highs
