use Rattle.std.proofs.Common.{◌≡◌, ℕ, ◌||◌, length, take}
use Rattle.core_terms.specs.Conditions.{is_shown}
use Rattle.superposition.specs.Marks.{has_mark}
use Rattle.superposition.proofs.shown.mark_all.Given as goal

abbrev pub invariant-loop-slot : goal.invariant-loop-slot
invariant-loop-slot l = record {
  count : length l.marks ≡ length l.initial.marks;
  marked : (n : ℕ) → has_mark l.marks n ≡ (has_mark l.initial.marks n || is_shown (take l.slot-index l.slots) n);
}
