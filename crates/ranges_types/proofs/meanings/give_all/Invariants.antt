use Rattle.std.proofs.Common.{◌≡◌, ℕ, ◌≤◌, drop, length}
use Rattle.names_rules.specs.WellNamed.{meaning_at}
use Rattle.ranges_types.specs.Numbers.{meaning_in}
use Rattle.ranges_types.proofs.meanings.give_all.Given as goal

abbrev pub invariant-loop-i : goal.invariant-loop-i
invariant-loop-i l = (l.i ≤ length l.words) × ((at : ℕ) → meaning_in l.meanings at ≡ meaning_at (drop l.i l.words) at)

abbrev pub decreases-loop-i : goal.decreases-loop-i
decreases-loop-i l = l.i
