use Rattle.std.proofs.Common.{◌≡◌, drop}
use Rattle.core_terms.specs.Unions.{merged}
use Rattle.core_terms.proofs.merging.slots_one_by_one.Given as goal

abbrev pub invariant-loop-slot : goal.invariant-loop-slot
invariant-loop-slot l = merged l.slots (drop l.slot-index l.second) ≡ merged l.first l.second
