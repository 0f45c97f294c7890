use Rattle.std.proofs.Common.{◌≡◌, ◌≤◌, drop}
use Rattle.expand_rules.specs.Assigning.{beside, paired_effect}
use Rattle.expand_expressions.specs.Places.{scope}
use Rattle.expand_expressions.specs.Sound.{of_truth}
use Rattle.expand_assignments.proofs.alternatives.further_pairs.Given as goal

abbrev pub invariant-loop-i : goal.invariant-loop-i
invariant-loop-i l =
    (beside l.effect (paired_effect (scope l.known l.env) (drop l.i l.ts) (drop l.i l.es) (of_truth l.c)) ≡
    beside l.fn.effect (paired_effect (scope l.known l.env) l.ts l.es (of_truth l.c)))
    × (l.effect.count.size ≤ 65537)
