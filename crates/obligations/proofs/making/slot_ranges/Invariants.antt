use Rattle.std.proofs.Common.{◌≡◌, take}
use Rattle.obligations.specs.Variables.{slot_ranges}
use Rattle.obligations.proofs.making.slot_ranges.Given as goal

abbrev pub invariant-loop-slot : goal.invariant-loop-slot
invariant-loop-slot l = l.ranges ≡ slot_ranges (take l.slot-index l.slots)
