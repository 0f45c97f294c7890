use Rattle.std.proofs.Common.{◌≡◌, take}
use Rattle.examples_bounds.proofs.opening.copied_slots.Given as goal

abbrev pub invariant-loop-slot : goal.invariant-loop-slot
invariant-loop-slot l = l.copy ≡ take l.slot-index l.slots
