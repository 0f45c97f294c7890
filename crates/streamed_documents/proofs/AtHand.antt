-- A source of bytes at hand has no faults.
use Rattle.std.proofs.Common.{inl, inr, arith}
use Rattle.unity_base.specs.Streams.{Rose}

pub never_rose : Rose 0 0 → ⊥
never_rose (inl h) = omega (arith, h)
never_rose (inr h) = let greatest = h.0 in omega (arith, greatest)
