use Rattle.std.proofs.Common.{◌≡◌, ◌+◌, ◌*◌, ◌^◌, ◌≤◌, map, max, drop}
use Rattle.std.specs.Prelude.{fold}
use Rattle.case_tables.specs.declared.symbol_table.Symbol.{Symbol}
use Rattle.unity_syntax.specs.declared.expression.Expr.{Expr, size-Expr}
use Rattle.meaning_executions.specs.Counting.{count_up}
use Rattle.expand_rules.specs.Forming.{formed, factored, factor_in, plus, gathered, with_number}
use Rattle.expand_expressions.specs.Sound.{IsSound}
use Rattle.expand_expressions.specs.Joints.{joint_of}
use Rattle.expand_expressions.specs.Places.{scope}
use Rattle.expand_expressions.proofs.forming.+form.Given as goal

abbrev pub invariant-all-loop-e : goal.invariant-all-loop-e
invariant-all-loop-e l =
    (fold (joint_of l.joint) l.whole (map (λ (x : Expr). formed x (scope l.known l.env)) (drop l.e-index l.e-items))
    ≡ fold (joint_of l.joint) l.initial.whole (map (λ (x : Expr). formed x (scope l.known l.env)) l.e-items))
    × IsSound l.whole × (l.whole.measure.most ≤ 2 ^ 62)

abbrev pub invariant-added-loop-part : goal.invariant-added-loop-part
invariant-added-loop-part l =
    (fold plus l.whole (map (λ (p : Symbol × Expr). (p.0, formed p.1 (scope l.known l.env)))
    (drop l.part-index l.part-items))
    ≡ fold plus l.initial.whole (map (λ (p : Symbol × Expr). (p.0, formed p.1 (scope l.known l.env))) l.part-items))
    × IsSound l.whole × (l.whole.measure.most ≤ 2 ^ 62)

abbrev pub invariant-multiplied-loop-part : goal.invariant-multiplied-loop-part
invariant-multiplied-loop-part l =
    (fold factored l.whole (map (factor_in (scope l.known l.env)) (drop l.part-index l.part-items))
    ≡ fold factored l.initial.whole (map (factor_in (scope l.known l.env)) l.part-items))
    × IsSound l.whole × (l.whole.measure.most ≤ 2 ^ 62)

abbrev pub invariant-instances-loop-k : goal.invariant-instances-loop-k
invariant-instances-loop-k l =
    (fold (joint_of l.joint) l.whole (map (λ z. formed l.of (with_number (scope l.known l.env) l.name.text z))
    (drop l.k (count_up l.numbers.first l.numbers.count)))
    ≡ gathered l.fn.which (map (λ z. formed l.of (with_number (scope l.known l.env) l.name.text z))
    (count_up l.numbers.first l.numbers.count)))
    × IsSound l.whole × (l.whole.measure.most ≤ 2 ^ 62)

abbrev pub decreases-form : goal.decreases-form
decreases-form l = 4 * size-Expr l.e.now

abbrev pub decreases-implying : goal.decreases-implying
decreases-implying l = 4 * max (size-Expr l.left.now) (size-Expr l.right.now) + 1

abbrev pub decreases-denying : goal.decreases-denying
decreases-denying l = 4 * size-Expr l.of.now + 1

abbrev pub decreases-comparing : goal.decreases-comparing
decreases-comparing l = 4 * max (size-Expr l.left.now) (size-Expr l.right.now) + 1

abbrev pub decreases-all : goal.decreases-all
decreases-all l = 4 * max (size-Expr l.first.now) (goal.size-all l) + 1

abbrev pub decreases-added : goal.decreases-added
decreases-added l = 4 * max (size-Expr l.first.now) (goal.size-added l) + 2

abbrev pub decreases-first_part : goal.decreases-first_part
decreases-first_part l = 4 * size-Expr l.first.now + 1

abbrev pub decreases-multiplied : goal.decreases-multiplied
decreases-multiplied l = 4 * max (size-Expr l.first.now) (goal.size-multiplied l) + 1

abbrev pub decreases-quantified : goal.decreases-quantified
decreases-quantified l = 4 * size-Expr l.of.now + 2

abbrev pub decreases-instances : goal.decreases-instances
decreases-instances l = 4 * size-Expr l.of.now + 1
