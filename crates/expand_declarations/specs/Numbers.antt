-- Numbers and ranges of the core form that stand for those of the text.
use Rattle.std.specs.Prelude.{◌≡◌, ◌^◌, ◌≤◌, ℤ, Result, IfOk}
use Rattle.std.specs.Int.RustNames.{unsigned_abs}
use Rattle.std.specs.declared.alloc.AllocError.{AllocError}
use Rattle.core_terms.specs.declared.trees.Range.{Range}

-- the range with these ends
abbrev pub core_range : ℤ × ℤ → Range
core_range ends = record { lo = ends.0; hi = ends.1 }

-- a number that is not past 2^62 on either side of 0
pub record IsLiteral (z : ℤ) : Type 0 where
  pub within : unsigned_abs z ≤ 2 ^ 62

-- a call that gives this number, which is not past 2^62
abbrev pub GivesLiteral : Result ℤ AllocError → ℤ → Type 0
GivesLiteral result z = IfOk result (λ k. (k ≡ z) × IsLiteral k)
