-- The ranges of one slot.
use Rattle.std.proofs.Common.{zero, suc, ◌≤ℤ◌, [], ◌∷◌, All, arith}
use Rattle.core_terms.specs.declared.programs.CSlot.{CSlot}

abbrev pub Ranged : CSlot → Type 0
Ranged s = s.range.lo ≤ℤ s.range.hi

pub one-ranged : (s : CSlot) → Ranged s → All Ranged (s ∷ [])
one-ranged s h zero d l = h
one-ranged s h (suc k) d l = absurd (omega arith)
