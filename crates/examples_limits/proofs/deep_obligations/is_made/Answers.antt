use Rattle.std.proofs.Common.{◌≡◌, pos, sym, subst, All, arith}
use Rattle.std.proofs.lemmas.Int.{ints}
use Rattle.core_terms.specs.declared.programs.CSlot.{CSlot}
use Rattle.examples_limits.proofs.RangeLaws.{Ranged, one-ranged}
use Rattle.examples_limits.proofs.deep_obligations.is_made.Goals as goal

bit-ranged : (s : CSlot) → s.range.lo ≡ pos 0 → s.range.hi ≡ pos 1 → Ranged s
bit-ranged s p q = omega (arith, ints, p, q)

pub make-requires-clause-slot_ranges : goal.make-requires-clause-slot_ranges
make-requires-clause-slot_ranges c =
    subst (All Ranged) (sym c.as_slice.ensures)
    (one-ranged c.bit.result (bit-ranged c.bit.result c.bit.ensures.low c.bit.ensures.high))
