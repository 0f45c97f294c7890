use Rattle.std.proofs.Common.{◌≡◌, ◌-◌, ◌≤◌, ◌+ℤ◌, pos, drop, fold, map}
use Rattle.meaning_executions.specs.Counting.{count_up}
use Rattle.expand_rules.specs.Forming.{with_number}
use Rattle.expand_rules.specs.Assigning.{beside, component_effect, effect_of}
use Rattle.expand_expressions.specs.Places.{scope}
use Rattle.expand_assignments.proofs.components.+assign.Given as goal

abbrev pub invariant-quantified-loop-i : goal.invariant-quantified-loop-i
invariant-quantified-loop-i l =
    (fold beside l.effect (map (λ z. effect_of l.of (with_number (scope l.known l.env) l.name.text z))
    (count_up (l.numbers.first +ℤ pos l.i) (l.numbers.count - l.i))) ≡
    fold beside l.fn.effect (map (λ z. effect_of l.of (with_number (scope l.known l.env) l.name.text z))
    (count_up l.numbers.first l.numbers.count)))
    × (l.effect.count.size ≤ 65537)

abbrev pub invariant-further-loop-c : goal.invariant-further-loop-c
invariant-further-loop-c l =
    (fold beside l.effect (map (λ c. component_effect c (scope l.known l.env)) (drop l.c-index l.c-items)) ≡
    fold beside l.fn.effect (map (λ c. component_effect c (scope l.known l.env)) l.c-items))
    × (l.effect.count.size ≤ 65537)
