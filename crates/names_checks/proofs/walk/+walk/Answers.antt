use Rattle.std.proofs.Common.{subst, map}
use Rattle.case_tables.specs.declared.symbol_table.Symbol.{Symbol}
use Rattle.unity_syntax.specs.declared.expression.Operator.{Operator}
use Rattle.unity_syntax.specs.declared.expression.Expr.{Expr}
use Rattle.names_rules.specs.declared.named.Meaning.{Meaning}
use Rattle.names_rules.specs.declared.named.Sort.{Sort}
use Rattle.names_rules.specs.Scope.{scope, Bounds, with_bound}
use Rattle.names_rules.specs.Reading.{read, needs, joined, operands, factors, left_side, beside, binding}
use Rattle.names_rules.specs.Reading.{range_reading, gathers, ReadingAt}
use Rattle.names_rules.specs.Answers.{GivesReading}
use Rattle.names_checks.proofs.ReadingSteps.{after_answers, beside_answers, product_answers, read-junction}
use Rattle.names_checks.proofs.ReadingSteps.{read-Implies, read-Compare, read-Sum, read-Product, read-Quantified}
use Rattle.names_checks.proofs.walk.+walk.Goals as goal

pub expression-returns-in-Implies : goal.expression-returns-in-Implies
expression-returns-in-Implies t c = rw (c.in-Implies.is, read-Implies) c.implication.ensures

pub expression-returns-in_ok-first-in-And : goal.expression-returns-in_ok-first-in-And
expression-returns-in_ok-first-in-And t c = let s = scope c.args.known.now c.args.env.now in
    let read_is = read-junction c.args.e.now s c.in-And.first c.in-And.rest c.in-And.is in
    rw read_is.1 (after_answers _ Sort.Boolean c.truths.result _ c.args.table.now
    c.operand-in-And.new.table _ (needs Sort.Boolean (read c.in-And.first s))
    (joined Sort.Boolean (operands Sort.Boolean s (map read c.in-And.rest))) c.in_ok-first-in-And.ensures
    c.truths.ensures c.after-in-And.ensures)

pub expression-returns-in-Compare : goal.expression-returns-in-Compare
expression-returns-in-Compare t c = rw (c.in-Compare.is, read-Compare) c.comparison.ensures

pub expression-returns-in_ok-first-in-Sum : goal.expression-returns-in_ok-first-in-Sum
expression-returns-in_ok-first-in-Sum t c = let s = scope c.args.known.now c.args.env.now in
    rw (c.in-Sum.is, read-Sum) (after_answers _ Sort.Number c.parts.result _ c.args.table.now c.operand-in-Sum.new.table
    _ (needs Sort.Number (read c.in-Sum.first s))
    (joined Sort.Number (operands Sort.Number s (map (λ (p : Symbol × Expr). read p.1) c.in-Sum.rest)))
    c.in_ok-first-in-Sum.ensures c.parts.ensures c.after.ensures)

pub expression-returns-in_ok-first-in-Product : goal.expression-returns-in_ok-first-in-Product
expression-returns-in_ok-first-in-Product t c = let s = scope c.args.known.now c.args.env.now in
    rw (c.in-Product.is, read-Product) (product_answers c.in-Product.at _ c.factors.result c.args.table.now
    c.operand-in-Product.new.table _ (needs Sort.Number (read c.in-Product.first s))
    (factors s (map (λ (f : Operator × Expr). let m : Operator × ReadingAt = (f.0, read f.1) in m) c.in-Product.rest))
    c.in_ok-first-in-Product.ensures c.factors.ensures)

pub expression-returns-in-Quantified : goal.expression-returns-in-Quantified
expression-returns-in-Quantified t c = rw (c.in-Quantified.is, read-Quantified) c.quantified.ensures

pub comparison-returns : goal.comparison-returns
comparison-returns t c = let s = scope c.args.known.now c.args.env.now in
    let l = left_side c.args.relation (read c.args.left.now s) in
    after_answers _ Sort.Boolean c.operand.result _ c.args.table.now c.left_side.new.table _ l
    (needs l.sort (read c.args.right.now s)) c.in_ok-first.ensures
    (subst (λ y. GivesReading c.operand.result c.left_side.new.table c.operand.new.table
    (needs y (read c.args.right.now s))) c.in_ok-first.ensures.1 c.operand.ensures)
    c.after.ensures

pub quantified-returns : goal.quantified-returns
quantified-returns t c = let s = scope c.args.known.now c.args.env.now in
    let name = c.args.name.now in
    let told : GivesReading c.operand.result c.bind_in.new.table c.operand.new.table
    (needs (gathers c.args.which) (read c.args.of.now (with_bound s name.text (Meaning.Bound name.at)))) =
    subst (λ w. GivesReading c.operand.result c.bind_in.new.table c.operand.new.table
    (needs w (read c.args.of.now (with_bound s name.text (Meaning.Bound name.at))))) c.gathered.ensures
    (subst (λ (b : Bounds). GivesReading c.operand.result c.bind_in.new.table c.operand.new.table
    (needs c.gathered.result (read c.args.of.now (record s { bounds = b })))) c.with_name-inner.ensures
    c.operand.ensures) in
    beside_answers c.operand.result c.args.table.now c.bind_in.new.table _
    (beside (binding s name (Meaning.Bound name.at)) (range_reading s.bounds c.args.range.now))
    (needs (gathers c.args.which) (read c.args.of.now (with_bound s name.text (Meaning.Bound name.at))))
    c.in_ok-bind_in.ensures told
