-- Numbers among the words.
use Rattle.std.specs.Prelude.{ℕ, nat_eq, nat_le, Bool, true, false, cond, not, ◌&&◌, List, [], ◌∷◌, Option, Some, None}
use Rattle.std.specs.List.{list_all}
use Rattle.std.specs.Str.Parse.{digits_value}

-- a decimal digit
abbrev pub is_digit : ℕ → Bool
is_digit b = nat_le 48 b && nat_le b 57

abbrev pub has_no_byte : List ℕ → Bool
has_no_byte [] = true
has_no_byte (b ∷ rest) = false

-- a zero stands before another digit
abbrev pub has_leading_zero : List ℕ → Bool
has_leading_zero [] = false
has_leading_zero (first ∷ rest) = nat_eq first 48 && not (has_no_byte rest)

-- decimal digits, one at least, with no sign and with no leading zero, but 0 itself
abbrev pub is_plain : List ℕ → Bool
is_plain word = not (has_no_byte word) && (list_all is_digit word && not (has_leading_zero word))

-- the number that a word is, where it is no greater than this one
abbrev pub number_in : ℕ → List ℕ → Option ℕ
number_in most word =
    cond (is_plain word && nat_le (digits_value 10 word) most) (Some (digits_value 10 word)) None
