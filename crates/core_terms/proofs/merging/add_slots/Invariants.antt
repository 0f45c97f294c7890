use Rattle.std.proofs.Common.{◌≡◌, ◌++◌, take}
use Rattle.core_terms.proofs.merging.add_slots.Given as goal

abbrev pub invariant-loop-slot : goal.invariant-loop-slot
invariant-loop-slot l = l.slots ≡ l.fn.slots ++ take l.slot-index l.more
