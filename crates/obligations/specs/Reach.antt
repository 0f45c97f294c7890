-- Facts that are out of reach: the bounds of their variables refute them, or they clash with another fact.
use Rattle.std.specs.Prelude.{ℕ, zero, suc, ◌+◌, ◌*◌, ◌%◌, ◌^◌, nat_eq, nat_le, ℤ, pos, negsuc, ◌+ℤ◌, ◌*ℤ◌, Bool}
use Rattle.std.specs.Prelude.{true}
use Rattle.std.specs.Prelude.{false, cond, not, ◌&&◌, ◌||◌, Option, Some, None, List, [], ◌∷◌, ◌++◌}
use Rattle.std.specs.List.{list_all, list_any}
use Rattle.std.specs.Int.{int_div_euclid}
use Rattle.std.specs.Int.RustNames.{int_le, unsigned_abs}
use Rattle.obligations.specs.declared.branches.Fact.{Fact}
use Rattle.obligations.specs.declared.branches.Bound.{Bound}
use Rattle.core_terms.specs.from_meaning_states.State.{int_eq}

-- the factors' places rise, from this place on, and no factor is 0
abbrev pub is_exact : ℕ → List (ℕ × ℤ) → Bool
is_exact n [] = true
is_exact n (f ∷ fs) = (nat_le n f.0 && not (int_eq f.1 (pos 0))) && is_exact (suc f.0) fs

-- all places are below this number
abbrev pub is_within : ℕ → List (ℕ × ℤ) → Bool
is_within count fs = list_all (λ (f : ℕ × ℤ). nat_le (suc f.0) count) fs

abbrev pub are_exact : ℕ → List Fact → Bool
are_exact count facts = list_all (λ (f : Fact). is_exact 0 f.factors && is_within count f.factors) facts

-- whether these are the factors of a fact that bounds this variable alone, from below (factor 1) or from above
-- (factor -1)
abbrev pub is_bound_of : ℕ → ℤ → List (ℕ × ℤ) → Bool
is_bound_of v side [] = false
is_bound_of v side (f ∷ []) = nat_eq f.0 v && int_eq f.1 side
is_bound_of v side (f ∷ g ∷ fs) = false

-- the first bound, or a tighter second one: of two bounds from one side the one with the lesser constant is tighter
abbrev pub tighter_of : Bound → Option Bound → Bound
tighter_of b None = b
tighter_of b (Some c) = cond (int_le b.constant c.constant) b c

abbrev pub tighter : Option Bound → Option Bound → Option Bound
tighter None c = c
tighter (Some b) c = Some (tighter_of b c)

abbrev pub bound_at : ℕ → ℕ → ℤ → Fact → Option Bound
bound_at n v side f = cond (is_bound_of v side f.factors) (Some (record { place = n; constant = f.constant })) None

-- the tightest bound of a variable from one side; the first fact of the list has this place
abbrev pub tightest : ℕ → ℕ → ℤ → List Fact → Option Bound
tightest n v side [] = None
tightest n v side (f ∷ fs) = tighter (bound_at n v side f) (tightest (suc n) v side fs)

-- the side on which a variable with this factor makes a fact greatest
abbrev pub side_for : ℤ → ℤ
side_for (pos a) = negsuc 0
side_for (negsuc a) = pos 1

-- The products of factors with their variables' tightest bounds: their sum, the sum of their absolute values, and
-- whether no multiplier is past 2^62.
pub record Total : Type 0 where
  pub value : ℤ
  pub load : ℕ
  pub light : Bool

abbrev pub total_with : ℤ → Option Bound → Option Total → Option Total
total_with a None t = None
total_with a (Some b) None = None
total_with a (Some b) (Some t) = Some (record {
  value = pos (unsigned_abs a) *ℤ b.constant +ℤ t.value;
  load = unsigned_abs a * unsigned_abs b.constant + t.load;
  light = nat_le (unsigned_abs a) (2 ^ 62) && t.light;
})

abbrev pub total_of : List Fact → List (ℕ × ℤ) → Option Total
total_of facts [] = Some (record { value = pos 0; load = 0; light = true })
total_of facts (f ∷ fs) = total_with f.1 (tightest 0 f.0 (side_for f.1) facts) (total_of facts fs)

-- with the tightest bounds put in, the fact is negative, and no number is too great
abbrev pub is_refuted_by : ℤ → Option Total → Bool
is_refuted_by c None = false
is_refuted_by c (Some t) =
    (t.light && nat_le (unsigned_abs c + t.load) (2 ^ 126)) && not (int_le (pos 0) (c +ℤ t.value))

-- the bounds refute a fact
abbrev pub bounds_refute : List Fact → Fact → Bool
bounds_refute facts f = is_refuted_by f.constant (total_of facts f.factors)

-- the pair of a factor's bound: the factor's absolute value, and the bound's number
abbrev pub pair_for : ℤ → Option Bound → List (ℤ × ℕ)
pair_for a None = []
pair_for a (Some b) = (pos (unsigned_abs a), suc b.place) ∷ []

-- the pairs that take a fact's factors away
abbrev pub bound_pairs : List Fact → List (ℕ × ℤ) → List (ℤ × ℕ)
bound_pairs facts [] = []
bound_pairs facts (f ∷ fs) = pair_for f.1 (tightest 0 f.0 (side_for f.1) facts) ++ bound_pairs facts fs

-- each factor is the negative of the other's
abbrev pub are_opposite : List (ℕ × ℤ) → List (ℕ × ℤ) → Bool
are_opposite [] [] = true
are_opposite [] (g ∷ gs) = false
are_opposite (f ∷ fs) [] = false
are_opposite (f ∷ fs) (g ∷ gs) = (nat_eq f.0 g.0 && int_eq (f.1 +ℤ g.1) (pos 0)) && are_opposite fs gs

-- the greatest number that divides two, where the second is at most as great as the steps
unfoldable pub gcd_in : ℕ → ℕ → ℕ → ℕ
gcd_in zero a b = a
gcd_in (suc k) a zero = a
gcd_in (suc k) a (suc b) = gcd_in k (suc b) (a % suc b)

unfoldable pub gcd : ℕ → ℕ → ℕ
gcd a b = gcd_in (suc b) a b

-- the greatest number that divides all factors; 0 where there is none
abbrev pub divisor_of : List (ℕ × ℤ) → ℕ
divisor_of [] = 0
divisor_of (f ∷ fs) = gcd (unsigned_abs f.1) (divisor_of fs)

abbrev pub is_moderate : ℤ → Bool
is_moderate z = nat_le (unsigned_abs z) (2 ^ 124)

abbrev pub is_moderate_fact : Fact → Bool
is_moderate_fact f = is_moderate f.constant && list_all (λ (x : ℕ × ℤ). is_moderate x.1) f.factors

abbrev pub is_some_factor : List (ℕ × ℤ) → Bool
is_some_factor [] = false
is_some_factor (f ∷ fs) = true

-- two facts clash: divided by the greatest number that divides their factors and rounded down, they add up to less
-- than 0
abbrev pub clash : Fact → Fact → Bool
clash f g =
    ((are_opposite f.factors g.factors && is_some_factor f.factors)
    && ((is_moderate_fact f && is_moderate_fact g) && nat_le (divisor_of f.factors) (2 ^ 62)))
    && not (int_le (pos 0) (int_div_euclid f.constant (pos (divisor_of f.factors))
    +ℤ int_div_euclid g.constant (pos (divisor_of f.factors))))

-- a fact of a list is out of reach
abbrev pub is_out_of_reach : List Fact → Fact → Bool
is_out_of_reach facts f = bounds_refute facts f || list_any (clash f) facts

abbrev pub some_out_of_reach : List Fact → Bool
some_out_of_reach facts = list_any (is_out_of_reach facts) facts
