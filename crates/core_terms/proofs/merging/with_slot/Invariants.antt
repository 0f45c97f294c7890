use Rattle.std.proofs.Common.{◌≡◌, take, filter}
use Rattle.std.specs.Prelude.{nat_lt}
use Rattle.core_terms.proofs.merging.with_slot.Given as goal

abbrev pub invariant-loop-lower : goal.invariant-loop-lower
invariant-loop-lower l = l.more ≡ filter (λ x. nat_lt x l.slot) (take l.lower-index l.slots)
