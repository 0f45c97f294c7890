use Rattle.std.proofs.Common.{◌≡◌, ◌∷◌, ◌++◌, [], ◌+◌, ◌*◌, ◌-◌, length, pos, ◌+ℤ◌, ◌-ℤ◌}
use Rattle.std.specs.List.{flat_map}
use Rattle.expand_counting.specs.Nests.{count_up, natural, between, instances}
use Rattle.expand_counting.proofs.walk.+list.Given as goal

abbrev pub invariant-push_each-loop-i : goal.invariant-push_each-loop-i
invariant-push_each-loop-i l = (l.values ≡ l.fn.values)
    × (l.list ++ flat_map (λ z. instances l.inner (l.fn.values ++ z ∷ []))
    (count_up (l.interval.low +ℤ pos l.i) (natural (l.interval.high +ℤ pos 1 -ℤ l.interval.low) - l.i)) ≡
    l.fn.list ++ flat_map (λ z. instances l.inner (l.fn.values ++ z ∷ [])) (between l.interval.low l.interval.high))

abbrev pub decreases-push_instances : goal.decreases-push_instances
decreases-push_instances l = 3 * length l.ranges.now

abbrev pub decreases-push_each : goal.decreases-push_each
decreases-push_each l = 3 * length l.inner.now + 2

abbrev pub decreases-push_at : goal.decreases-push_at
decreases-push_at l = 3 * length l.inner.now + 1
