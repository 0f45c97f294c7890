-- Division of whole numbers, rounded down, of `div` and `mod`.
use Rattle.std.specs.Prelude.{ℤ, pos, cond}
use Rattle.std.specs.Int.{int_div_euclid, int_rem_euclid}
use Rattle.std.specs.Int.RustNames.{int_le}

-- what is divided by: 1 where the number is less
abbrev pub divisor : ℤ → ℤ
divisor k = cond (int_le (pos 1) k) k (pos 1)

-- the greatest whole number that, times the divisor, is at most z
abbrev pub floored : ℤ → ℤ → ℤ
floored z k = int_div_euclid z (divisor k)

-- what the division leaves of z
abbrev pub rest_of : ℤ → ℤ → ℤ
rest_of z k = int_rem_euclid z (divisor k)
