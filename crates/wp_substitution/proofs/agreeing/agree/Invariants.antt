use Rattle.std.proofs.Common.{◌≡◌, ℕ, ◌≤◌, true, drop, length}
use Rattle.std.specs.Ordering.{nat_cmp}
use Rattle.std.specs.BTreeMap.{get}
use Rattle.wp_substitution.specs.Agreeing.{writes_agree, first_given}
use Rattle.wp_substitution.proofs.agreeing.agree.Given as goal

abbrev pub invariant-loop-left : goal.invariant-loop-left
invariant-loop-left l =
    ((n : ℕ) → get nat_cmp l.numbers n ≡ first_given n (drop l.left l.writes))
    × (writes_agree (drop l.left l.writes) ≡ true) × (l.left ≤ length l.writes)

abbrev pub decreases-loop-left : goal.decreases-loop-left
decreases-loop-left l = l.left
