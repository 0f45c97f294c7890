use Rattle.std.proofs.Common.{◌≡◌, ℕ, ◌≤◌, min, drop, length}
use Rattle.wp_substitution.specs.Preconditions.{writes_to}
use Rattle.wp_substitution.specs.Oversized.{count_at, pair_count}
use Rattle.wp_substitution.proofs.counting.count_pairs.Given as goal

abbrev pub invariant-loop-left : goal.invariant-loop-left
invariant-loop-left l =
    ((n : ℕ) → count_at l.counts n ≡ min (length (writes_to n (drop l.left l.writes))) 65537)
    × (l.pairs ≡ min (pair_count (drop l.left l.writes)) 65537) × (l.left ≤ length l.writes)

abbrev pub decreases-loop-left : goal.decreases-loop-left
decreases-loop-left l = l.left
