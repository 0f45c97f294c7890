use Rattle.std.proofs.Common.{map, fold, drop}
use Rattle.case_tables.specs.declared.symbol_table.Symbol.{Symbol}
use Rattle.unity_syntax.specs.declared.expression.Expr.{Expr}
use Rattle.meaning_executions.specs.Counting.{count_up}
use Rattle.expand_rules.specs.declared.effects.Count.{Count}
use Rattle.expand_rules.specs.Counts.{both_counts}
use Rattle.expand_rules.specs.Forming.{unwritten_count, operand_in}
use Rattle.expand_expressions.specs.Places.{scope}
use Rattle.expand_assignments.specs.Adding.{TellsCount, inside_count, instances_count}
use Rattle.expand_assignments.proofs.UnwrittenLaws.{Halfway, numbered}
use Rattle.expand_assignments.proofs.unwritten.+unwritten.Given as goal

abbrev pub invariant-instances-loop-i : goal.invariant-instances-loop-i
invariant-instances-loop-i l =
    Halfway l.whole (numbered (inside_count (scope l.known l.env) l.name l.of) l.numbers.first l.i l.numbers.count)
    (instances_count (scope l.known l.env) l.name l.of (count_up l.numbers.first l.numbers.count))

abbrev pub invariant-parts-loop-e : goal.invariant-parts-loop-e
invariant-parts-loop-e l = (n : Count) → TellsCount l.fn.first n →
    Halfway l.whole (map (λ (x : Expr). unwritten_count x (scope l.known l.env)) (drop l.e-index l.e-items))
    (fold both_counts n (map (λ (x : Expr). unwritten_count x (scope l.known l.env)) l.e-items))

abbrev pub invariant-terms-loop-part : goal.invariant-terms-loop-part
invariant-terms-loop-part l = (n : Count) → TellsCount l.fn.first n →
    Halfway l.whole
    (map (λ (p : Symbol × Expr). unwritten_count p.1 (scope l.known l.env)) (drop l.part-index l.part-items))
    (fold both_counts n (map (λ (p : Symbol × Expr). unwritten_count p.1 (scope l.known l.env)) l.part-items))

abbrev pub invariant-factors-loop-part : goal.invariant-factors-loop-part
invariant-factors-loop-part l = (n : Count) → TellsCount l.fn.first n →
    Halfway l.whole
    (map (operand_in (scope l.known l.env)) (drop l.part-index l.part-items))
    (fold both_counts n (map (operand_in (scope l.known l.env)) l.part-items))
