use Rattle.std.proofs.Common.{◌≡◌, ◌-◌, pos, ◌+ℤ◌, fold}
use Rattle.core_terms.specs.Folding.{or_form, truth_of}
use Rattle.meaning_executions.specs.Counting.{range_size}
use Rattle.expand_rules.specs.Assigning.{any_of, equations}
use Rattle.expand_assignments.specs.Adding.{slot_ends}
use Rattle.expand_assignments.proofs.arrays.some_equal.Given as goal

abbrev pub invariant-loop-place : goal.invariant-loop-place
invariant-loop-place l =
    (fold or_form l.form
    (equations l.index.term (l.slots.ends.lo +ℤ pos l.place) (range_size (slot_ends l.slots) - l.place)) ≡
    any_of (equations l.index.term l.slots.ends.lo (range_size (slot_ends l.slots))))
    × (l.truth ≡ truth_of l.form)
