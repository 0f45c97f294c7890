use Rattle.std.proofs.Common.{◌+ℤ◌, pos, List, map, fold, drop}
use Rattle.std.proofs.Common.{subst}
use Rattle.case_tables.specs.declared.symbol_table.Symbol.{Symbol}
use Rattle.unity_syntax.specs.declared.expression.Expr.{Expr}
use Rattle.unity_syntax.specs.declared.expression.Operator.{Operator}
use Rattle.meaning_executions.specs.Counting.{count_up}
use Rattle.expand_rules.specs.Forming.{fit_values, numbers}
use Rattle.expand_rules.specs.Counts.{no_count, both_counts}
use Rattle.expand_rules.specs.Forming.{unwritten_count, operand_in, quantified_count}
use Rattle.expand_expressions.specs.Places.{scope}
use Rattle.expand_assignments.specs.Adding.{TellsCount, inside_count, instances_count}
use Rattle.expand_rules.proofs.Equations.{unwritten-And, unwritten-Or, unwritten-Sum, unwritten-Product}
use Rattle.expand_rules.proofs.Equations.{unwritten-Quantified}
use Rattle.expand_assignments.proofs.UnwrittenLaws.{halfway_begin, halfway_stops}
use Rattle.expand_assignments.proofs.UnwrittenLaws.{halfway_end, halfway_next, none_left, numbered, numbers_begin}
use Rattle.expand_assignments.proofs.UnwrittenLaws.{numbers_next, numbers_end}
use Rattle.expand_assignments.proofs.unwritten.+unwritten.Goals as goal

pub instances-loop-i-init : goal.instances-loop-i-init
instances-loop-i-init t c =
    numbers_begin (inside_count (scope c.args.known.now c.args.env.now) c.args.name.now c.args.of.now)
    c.args.numbers.now.first c.args.numbers.now.count c.nothing-whole.result no_count c.nothing-whole.ensures

pub instances-returns-then-is_err : goal.instances-returns-then-is_err
instances-returns-then-is_err t c = halfway_stops c.loop-i.whole _ _ c.is_err.result c.is_err.ensures.negation
    c.if-is_err.true c.loop-i.invariant

pub instances-loop-i-preserved : goal.instances-loop-i-preserved
instances-loop-i-preserved t c =
    let f = inside_count (scope c.args.known.now c.args.env.now) c.args.name.now c.args.of.now in
    let low = c.args.numbers.now.first in
    let n = c.args.numbers.now.count in
    numbers_next f low c.loop-i.i n c.loop-i.whole c.joined-whole.result
    (instances_count (scope c.args.known.now c.args.env.now) c.args.name.now c.args.of.now (count_up low n))
    c.loop-i-test.true (λ m h. c.joined-whole.ensures m (f (low +ℤ pos c.loop-i.i)) h c.instance.ensures)
    c.loop-i.invariant

pub instances-returns : goal.instances-returns
instances-returns t c =
    let f = inside_count (scope c.args.known.now c.args.env.now) c.args.name.now c.args.of.now in
    let low = c.args.numbers.now.first in
    let n = c.args.numbers.now.count in
    halfway_end c.loop-i.whole (numbered f low c.loop-i.i n) _ (numbers_end f low c.loop-i.i n c.loop-i-test.false)
    c.loop-i.invariant

pub parts-loop-e-init : goal.parts-loop-e-init
parts-loop-e-init t c =
    λ n h. halfway_begin c.args.first n
    (map (λ (x : Expr). unwritten_count x (scope c.args.known.now c.args.env.now)) c.as_slice-e-items.result.now) h

pub parts-returns-then-is_err : goal.parts-returns-then-is_err
parts-returns-then-is_err t c =
    let f = λ (x : Expr). unwritten_count x (scope c.args.known.now c.args.env.now) in
    λ n h. subst (λ (ys : List Expr). TellsCount c.loop-e.whole (fold both_counts n (map f ys)))
    c.as_slice-e-items.ensures (halfway_stops c.loop-e.whole _ _ c.is_err.result c.is_err.ensures.negation
    c.if-is_err.true (c.loop-e.invariant n h))

pub parts-loop-e-preserved : goal.parts-loop-e-preserved
parts-loop-e-preserved t c =
    let f = λ (x : Expr). unwritten_count x (scope c.args.known.now c.args.env.now) in
    let xs = c.as_slice-e-items.result.now in
    let item = c.e-item.result in
    λ n h. halfway_next f xs c.loop-e.e-index item c.loop-e.whole c.joined-whole.result
    (fold both_counts n (map f xs)) c.loop-e-test.true
    (λ m k. subst (λ (y : Expr). TellsCount c.joined-whole.result (both_counts m (f y))) c.e-item.is
    (c.joined-whole.ensures m (f item) k c.unwritten.ensures)) (c.loop-e.invariant n h)

pub parts-returns : goal.parts-returns
parts-returns t c =
    let f = λ (x : Expr). unwritten_count x (scope c.args.known.now c.args.env.now) in
    let xs = c.as_slice-e-items.result.now in
    λ n h. subst (λ (ys : List Expr). TellsCount c.loop-e.whole (fold both_counts n (map f ys)))
    c.as_slice-e-items.ensures
    (halfway_end c.loop-e.whole (map f (drop c.loop-e.e-index xs)) (fold both_counts n (map f xs))
    (none_left f xs c.loop-e.e-index c.loop-e-test.false) (c.loop-e.invariant n h))

pub terms-loop-part-init : goal.terms-loop-part-init
terms-loop-part-init t c =
    λ n h. halfway_begin c.args.first n
    (map (λ (p : Symbol × Expr). unwritten_count p.1 (scope c.args.known.now c.args.env.now))
    c.as_slice-part-items.result.now) h

pub terms-returns-then-is_err : goal.terms-returns-then-is_err
terms-returns-then-is_err t c =
    let f = λ (p : Symbol × Expr). unwritten_count p.1 (scope c.args.known.now c.args.env.now) in
    λ n h. subst (λ (ys : List (Symbol × Expr)). TellsCount c.loop-part.whole (fold both_counts n (map f ys)))
    c.as_slice-part-items.ensures (halfway_stops c.loop-part.whole _ _ c.is_err.result c.is_err.ensures.negation
    c.if-is_err.true (c.loop-part.invariant n h))

pub terms-loop-part-preserved : goal.terms-loop-part-preserved
terms-loop-part-preserved t c =
    let f = λ (p : Symbol × Expr). unwritten_count p.1 (scope c.args.known.now c.args.env.now) in
    let xs = c.as_slice-part-items.result.now in
    let item = c.part-item.result in
    λ n h. halfway_next f xs c.loop-part.part-index item c.loop-part.whole c.joined-whole.result
    (fold both_counts n (map f xs)) c.loop-part-test.true
    (λ m k. subst (λ (y : Symbol × Expr). TellsCount c.joined-whole.result (both_counts m (f y))) c.part-item.is
    (c.joined-whole.ensures m (f item) k c.unwritten.ensures)) (c.loop-part.invariant n h)

pub terms-returns : goal.terms-returns
terms-returns t c =
    let f = λ (p : Symbol × Expr). unwritten_count p.1 (scope c.args.known.now c.args.env.now) in
    let xs = c.as_slice-part-items.result.now in
    λ n h. subst (λ (ys : List (Symbol × Expr)). TellsCount c.loop-part.whole (fold both_counts n (map f ys)))
    c.as_slice-part-items.ensures
    (halfway_end c.loop-part.whole (map f (drop c.loop-part.part-index xs)) (fold both_counts n (map f xs))
    (none_left f xs c.loop-part.part-index c.loop-part-test.false) (c.loop-part.invariant n h))

pub factors-loop-part-init : goal.factors-loop-part-init
factors-loop-part-init t c =
    λ n h. halfway_begin c.args.first n (map (operand_in (scope c.args.known.now c.args.env.now))
    c.as_slice-part-items.result.now) h

pub factors-returns-then-is_err : goal.factors-returns-then-is_err
factors-returns-then-is_err t c =
    let f = operand_in (scope c.args.known.now c.args.env.now) in
    λ n h. subst (λ (ys : List (Operator × Expr)). TellsCount c.loop-part.whole (fold both_counts n (map f ys)))
    c.as_slice-part-items.ensures (halfway_stops c.loop-part.whole _ _ c.is_err.result c.is_err.ensures.negation
    c.if-is_err.true (c.loop-part.invariant n h))

pub factors-loop-part-preserved : goal.factors-loop-part-preserved
factors-loop-part-preserved t c =
    let f = operand_in (scope c.args.known.now c.args.env.now) in
    let xs = c.as_slice-part-items.result.now in
    let item = c.part-item.result in
    λ n h. halfway_next f xs c.loop-part.part-index item c.loop-part.whole c.joined-whole.result
    (fold both_counts n (map f xs)) c.loop-part-test.true
    (λ m k. subst (λ (y : Operator × Expr). TellsCount c.joined-whole.result (both_counts m (f y))) c.part-item.is
    (c.joined-whole.ensures m (f item) k c.operand.ensures)) (c.loop-part.invariant n h)

pub factors-returns : goal.factors-returns
factors-returns t c =
    let f = operand_in (scope c.args.known.now c.args.env.now) in
    let xs = c.as_slice-part-items.result.now in
    λ n h. subst (λ (ys : List (Operator × Expr)). TellsCount c.loop-part.whole (fold both_counts n (map f ys)))
    c.as_slice-part-items.ensures
    (halfway_end c.loop-part.whole (map f (drop c.loop-part.part-index xs)) (fold both_counts n (map f xs))
    (none_left f xs c.loop-part.part-index c.loop-part-test.false) (c.loop-part.invariant n h))

pub unwritten-returns-in-And : goal.unwritten-returns-in-And
unwritten-returns-in-And t c =
    let f = λ (x : Expr). unwritten_count x (scope c.args.known.now c.args.env.now) in
    rw (c.in-And.is, unwritten-And) (c.parts.ensures (f c.in-And.first)
    (subst (λ (x : Expr). TellsCount c.unwritten-first.result (f x)) c.get-in-And.ensures c.unwritten-first.ensures))

pub unwritten-returns-in-Or : goal.unwritten-returns-in-Or
unwritten-returns-in-Or t c =
    let f = λ (x : Expr). unwritten_count x (scope c.args.known.now c.args.env.now) in
    rw (c.in-Or.is, unwritten-Or) (c.parts-in-Or.ensures (f c.in-Or.first)
    (subst (λ (x : Expr). TellsCount c.unwritten-first-in-Or.result (f x)) c.get-in-Or.ensures
    c.unwritten-first-in-Or.ensures))

pub unwritten-returns-in-Sum : goal.unwritten-returns-in-Sum
unwritten-returns-in-Sum t c =
    let f = λ (x : Expr). unwritten_count x (scope c.args.known.now c.args.env.now) in
    rw (c.in-Sum.is, unwritten-Sum) (c.terms.ensures (f c.in-Sum.first)
    (subst (λ (x : Expr). TellsCount c.unwritten-first-in-Sum.result (f x)) c.get-in-Sum.ensures
    c.unwritten-first-in-Sum.ensures))

pub unwritten-returns-in-Product : goal.unwritten-returns-in-Product
unwritten-returns-in-Product t c =
    let f = λ (x : Expr). unwritten_count x (scope c.args.known.now c.args.env.now) in
    rw (c.in-Product.is, unwritten-Product) (c.factors.ensures (f c.in-Product.first)
    (subst (λ (x : Expr). TellsCount c.unwritten-first-in-Product.result (f x)) c.get-in-Product.ensures
    c.unwritten-first-in-Product.ensures))

pub unwritten-returns-in-Quantified : goal.unwritten-returns-in-Quantified
unwritten-returns-in-Quantified t c =
    let s = scope c.args.known.now c.args.env.now in
    let q = c.in-Quantified in
    rw (q.is, unwritten-Quantified) (subst (λ (x : Expr). TellsCount c.quantified.result
    (quantified_count s.bound q.range (instances_count s q.name x (fit_values (numbers s.bound) q.range))))
    c.get-in-Quantified.ensures c.quantified.ensures)
