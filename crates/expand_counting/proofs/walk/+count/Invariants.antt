use Rattle.std.proofs.Common.{◌≡◌, ◌∷◌, ◌++◌, [], ◌+◌, ◌*◌, ◌-◌, ◌≤◌, min, length, pos, ◌+ℤ◌, ◌-ℤ◌}
use Rattle.expand_counting.specs.Nests.{most_turns, count_up, natural, between}
use Rattle.expand_counting.specs.Conditions.{meeting, sum_over}
use Rattle.expand_counting.proofs.walk.+count.Given as goal

abbrev pub invariant-each-loop-i : goal.invariant-each-loop-i
invariant-each-loop-i l = (l.values ≡ l.fn.values)
    × (l.fn.room + sum_over (λ z. meeting l.inner l.leaf (l.fn.values ++ z ∷ []))
    (count_up (l.interval.low +ℤ pos l.i) (natural (l.interval.high +ℤ pos 1 -ℤ l.interval.low) - l.i))
    ≡ l.left + sum_over (λ z. meeting l.inner l.leaf (l.fn.values ++ z ∷ [])) (between l.interval.low l.interval.high))
    × (min most_turns (l.fn.turns + l.fn.room) ≤ l.turns + l.left)

abbrev pub decreases-count : goal.decreases-count
decreases-count l = 3 * length l.ranges.now

abbrev pub decreases-each : goal.decreases-each
decreases-each l = 3 * length l.inner.now + 2

abbrev pub decreases-at : goal.decreases-at
decreases-at l = 3 * length l.inner.now + 1
