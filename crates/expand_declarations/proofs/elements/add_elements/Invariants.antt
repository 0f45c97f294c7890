use Rattle.std.proofs.Common.{◌≡◌, ◌++◌, ◌-◌, pos, ◌+ℤ◌}
use Rattle.expand_declarations.specs.Slots.{element_slots}
use Rattle.expand_declarations.proofs.elements.add_elements.Given as goal

abbrev pub invariant-loop-k : goal.invariant-loop-k
invariant-loop-k l = l.slots ++ element_slots l.words l.v (l.range.lo +ℤ pos l.k) (l.count - l.k)
    ≡ l.initial.slots ++ element_slots l.words l.v l.range.lo l.count
