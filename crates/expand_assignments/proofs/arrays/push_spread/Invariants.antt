use Rattle.std.proofs.Common.{◌≡◌, ◌+◌, ◌-◌, ◌++◌, pos, ◌+ℤ◌}
use Rattle.meaning_executions.specs.Counting.{range_size}
use Rattle.expand_rules.specs.Assigning.{spread}
use Rattle.expand_assignments.specs.Adding.{slot_ends}
use Rattle.expand_assignments.proofs.arrays.push_spread.Given as goal

abbrev pub invariant-loop-place : goal.invariant-loop-place
invariant-loop-place l =
    l.writes ++ spread l.index.term (l.slots.ends.lo +ℤ pos l.place) (l.slots.first + l.place)
    (range_size (slot_ends l.slots) - l.place) l.c.form l.v ≡
    l.fn.writes ++ spread l.index.term l.slots.ends.lo l.slots.first (range_size (slot_ends l.slots)) l.c.form l.v
