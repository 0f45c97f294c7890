-- Laws of division.
use Rattle.std.specs.Prelude.{◌≡◌, ℤ, pos, ◌+ℤ◌, ◌*ℤ◌, IsTrue}
use Rattle.std.specs.Int.RustNames.{int_le, int_lt}
use Rattle.meaning_states.specs.Division.{divisor, floored, rest_of}

-- no number is divided by less than 1
abbrev pub DivisorIsPositive : Type 0
DivisorIsPositive = (k : ℤ) → IsTrue (int_le (pos 1) (divisor k))

-- the divisor times the quotient, and what is left, are the number
abbrev pub PartsMakeTheNumber : Type 0
PartsMakeTheNumber = (z k : ℤ) → z ≡ divisor k *ℤ floored z k +ℤ rest_of z k

-- what is left is at least 0
abbrev pub RestIsNoLess : Type 0
RestIsNoLess = (z k : ℤ) → IsTrue (int_le (pos 0) (rest_of z k))

-- and less than the divisor
abbrev pub RestIsBelow : Type 0
RestIsBelow = (z k : ℤ) → IsTrue (int_lt (rest_of z k) (divisor k))
