use Rattle.std.proofs.Common.{◌≡◌, take}
use Rattle.wrong_rules.proofs.changes.copied_ranges.Given as goal

abbrev pub invariant-loop-range : goal.invariant-loop-range
invariant-loop-range l = l.copy ≡ take l.range-index l.ranges
