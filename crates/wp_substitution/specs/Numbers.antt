-- What is known of a node, from what is known of its parts.
use Rattle.std.specs.Prelude.{◌≤◌, ◌^◌, ℤ, pos, ◌+ℤ◌, ◌-ℤ◌, Bool, ◌&&◌, ◌||◌, Option, MatchOption}
use Rattle.std.specs.Option.{option_map}
use Rattle.std.specs.Int.RustNames.{int_le, unsigned_abs}
use Rattle.meaning_states.specs.State.{int_eq}
use Rattle.meaning_states.specs.Division.{floored, rest_of}
use Rattle.core_terms.specs.declared.known.Sense.{Sense}
use Rattle.core_terms.specs.declared.known.Joining.{Joining}
use Rattle.core_terms.specs.declared.known.Pairing.{Pairing}
use Rattle.core_terms.specs.declared.known.Dividing.{Dividing}
use Rattle.core_terms.specs.Folding.{joined}

-- whether a number is at least 0, or is 0
abbrev pub sense_truth : Sense → Option ℤ → Option Bool
sense_truth Sense.AtLeast m = option_map (λ x. int_le (pos 0) x) m
sense_truth Sense.Zero m = option_map (λ x. int_eq x (pos 0)) m

-- whether both truths hold, or one of them does
abbrev pub joined_truth : Joining → Option Bool → Option Bool → Option Bool
joined_truth Joining.Both a b = joined (λ x y. x && y) a b
joined_truth Joining.Either a b = joined (λ x y. x || y) a b

-- the sum of two numbers, or their difference
abbrev pub pair_number : Pairing → Option ℤ → Option ℤ → Option ℤ
pair_number Pairing.Sum a b = joined (λ x y. x +ℤ y) a b
pair_number Pairing.Difference a b = joined (λ x y. x -ℤ y) a b

-- the quotient of two numbers, or the remainder
abbrev pub divided_number : Dividing → Option ℤ → ℤ → Option ℤ
divided_number Dividing.Quotient m k = option_map (λ x. floored x k) m
divided_number Dividing.Remainder m k = option_map (λ x. rest_of x k) m

-- a number that is known is within plus or minus 2^124
abbrev pub IsBounded : Option ℤ → Type 0
IsBounded m = MatchOption m (Unit {0}) (λ z. unsigned_abs z ≤ 2 ^ 124)
