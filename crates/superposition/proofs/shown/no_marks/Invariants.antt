use Rattle.std.proofs.Common.{◌≡◌, ℕ, false, length}
use Rattle.superposition.specs.Marks.{has_mark}
use Rattle.superposition.proofs.shown.no_marks.Given as goal

abbrev pub invariant-loop-slot : goal.invariant-loop-slot
invariant-loop-slot l = record { count : length l.marks ≡ l._slot; none : (n : ℕ) → has_mark l.marks n ≡ false }
