use Rattle.std.proofs.Common.{◌≡◌, drop}
use Rattle.core_terms.specs.Unions.{is_rising}
use Rattle.core_terms.proofs.merging.are_rising.Given as goal

abbrev pub invariant-loop-slot : goal.invariant-loop-slot
invariant-loop-slot l = is_rising l.least (drop l.slot-index l.slots) ≡ is_rising 0 l.slots
