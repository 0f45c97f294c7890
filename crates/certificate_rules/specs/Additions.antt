-- A product and its sum with a number, within the limit of a certificate's numbers.
use Rattle.std.specs.Prelude.{◌≡◌, ℤ, ◌+ℤ◌, ◌*ℤ◌, Bool, ◌&&◌, true}
use Rattle.obligations.specs.Load.{in_limit}
use Rattle.certificate_rules.specs.declared.sums.MultipleSum.{MultipleSum}

-- neither is past the limit
abbrev pub fits_added : ℤ → ℤ → ℤ → Bool
fits_added m z sum = in_limit (m *ℤ z) && in_limit (sum +ℤ m *ℤ z)

-- these are the two, and neither is past the limit
pub record IsAdded (m z sum : ℤ) (a : MultipleSum) : Type 0 where
  pub by : a.by ≡ m *ℤ z
  pub total : a.total ≡ sum +ℤ m *ℤ z
  pub fits : fits_added m z sum ≡ true
