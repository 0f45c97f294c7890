use Rattle.std.proofs.Common.{◌≡◌, take}
use Rattle.executor.specs.Placing.{lowest}
use Rattle.executor.proofs.start.lowest_numbers.Given as goal

abbrev pub invariant-loop-slot : goal.invariant-loop-slot
invariant-loop-slot l = l.state ≡ lowest (take l.slot-index l.slots)
