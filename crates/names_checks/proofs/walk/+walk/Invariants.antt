use Rattle.std.proofs.Common.{◌+◌, ◌*◌, map, max, drop}
use Rattle.unity_syntax.specs.declared.expression.Expr.{size-Expr}
use Rattle.names_rules.specs.declared.named.Sort.{Sort}
use Rattle.names_rules.specs.Scope.{scope}
use Rattle.names_rules.specs.Reading.{read, joined, operands, factors}
use Rattle.names_checks.proofs.ReadingSteps.{Leads, LeadsLinear}
use Rattle.names_checks.proofs.walk.+walk.Given as goal

abbrev pub decreases-expression : goal.decreases-expression
decreases-expression l = 4 * size-Expr l.e.now

abbrev pub decreases-operand : goal.decreases-operand
decreases-operand l = 4 * size-Expr l.e.now + 1

abbrev pub decreases-left_side : goal.decreases-left_side
decreases-left_side l = 4 * size-Expr l.e.now + 2

abbrev pub decreases-implication : goal.decreases-implication
decreases-implication l = 4 * max (size-Expr l.left.now) (size-Expr l.right.now) + 2

abbrev pub decreases-comparison : goal.decreases-comparison
decreases-comparison l = 4 * max (size-Expr l.left.now) (size-Expr l.right.now) + 3

abbrev pub decreases-element : goal.decreases-element
decreases-element l = 4 * size-Expr l.index.now + 2

abbrev pub decreases-quantified : goal.decreases-quantified
decreases-quantified l = 4 * size-Expr l.of.now + 2

abbrev pub decreases-truths : goal.decreases-truths
decreases-truths l = 4 * goal.size-truths l + 1

abbrev pub decreases-parts : goal.decreases-parts
decreases-parts l = 4 * goal.size-parts l + 1

abbrev pub decreases-factors : goal.decreases-factors
decreases-factors l = 4 * goal.size-factors l + 1

abbrev pub invariant-truths-loop-e : goal.invariant-truths-loop-e
invariant-truths-loop-e l =
    Leads l.constant l.table (joined Sort.Boolean (operands Sort.Boolean (scope l.known l.env)
    (map read (drop l.e-index l.e-items))))
    l.initial.table (joined Sort.Boolean (operands Sort.Boolean (scope l.known l.env) (map read l.e-items)))

abbrev pub invariant-parts-loop-e : goal.invariant-parts-loop-e
invariant-parts-loop-e l =
    Leads l.constant l.table (joined Sort.Number (operands Sort.Number (scope l.known l.env)
    (map (λ p. read p.1) (drop l.e-index l.e-items))))
    l.initial.table (joined Sort.Number (operands Sort.Number (scope l.known l.env) (map (λ p. read p.1) l.e-items)))

abbrev pub invariant-factors-loop-operator : goal.invariant-factors-loop-operator
invariant-factors-loop-operator l =
    LeadsLinear l.linear l.constant l.table
    (factors (scope l.known l.env) (map (λ f. (f.0, read f.1)) (drop l.operator-index l.operator-items)))
    l.initial.constant l.initial.table (factors (scope l.known l.env) (map (λ f. (f.0, read f.1)) l.operator-items))
