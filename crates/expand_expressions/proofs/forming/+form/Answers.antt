use Rattle.std.proofs.Common.{◌≡◌, ℕ, ℤ, pos, ◌+ℤ◌, List, ◌∷◌, map, drop, ◌&&◌, Err}
use Rattle.std.proofs.Common.{sym, ap, ◌∙◌, subst, arith}
use Rattle.std.proofs.lemmas.Result.{err_from_is_err_and}
use Rattle.std.specs.Prelude.{fold}
use Rattle.case_tables.specs.declared.symbol_table.Symbol.{Symbol}
use Rattle.unity_syntax.specs.declared.expression.Expr.{Expr}
use Rattle.meaning_executions.specs.Counting.{count_up}
use Rattle.expand_rules.specs.from_meaning_documents.Names.{variable_named}
use Rattle.expand_rules.specs.declared.cores.Bound.{Bound}
use Rattle.expand_rules.specs.Measures.{quantifier_measure, range_misfit}
use Rattle.expand_rules.specs.Forming.{with_number, implication, factored, factor_in, plus}
use Rattle.expand_rules.specs.Forming.{signed, denial, comparison, gathered, numbers, fit_values, quantified}
use Rattle.expand_rules.specs.Forming.{formed}
use Rattle.expand_rules.proofs.Equations.{formed-And, formed-Or, formed-Sum}
use Rattle.expand_rules.proofs.Equations.{formed-Product, formed-Element, formed-Quantified}
use Rattle.expand_rules.proofs.Growing.{denial_keeps, disjunction_second, comparison_first, comparison_second}
use Rattle.expand_rules.proofs.Growing.{signed_keeps, element_keeps, quantified_keeps, factored_first, factored_second}
use Rattle.expand_rules.proofs.Growing.{plus_first, plus_second, large_of_size}
use Rattle.expand_expressions.specs.Sound.{GivesCore, GivesWhole}
use Rattle.expand_expressions.specs.Joints.{joint_of, begin_of, word_joint}
use Rattle.expand_expressions.specs.Places.{scope, bound_names}
use Rattle.expand_expressions.proofs.Growth.{passes, passes_whole, passes_back, passes_at, fold_past, begin_keeps}
use Rattle.expand_expressions.proofs.Growth.{plus_fold, factored_fold, list_next, list_joined, marked_next}
use Rattle.expand_expressions.proofs.Growth.{marked_joined, instances_begin, instances_more, instances_end}
use Rattle.expand_expressions.proofs.Growth.{instance_large, joined_large, whole_large, begin_large, first_large}
use Rattle.expand_expressions.proofs.forming.+form.Goals as goal

pub form-returns-in-And-clause-formed : goal.form-returns-in-And-clause-formed
form-returns-in-And-clause-formed t c = rw (c.in-And.is, formed-And) c.all.ensures.formed

pub form-returns-in-Or-clause-formed : goal.form-returns-in-Or-clause-formed
form-returns-in-Or-clause-formed t c = rw (c.in-Or.is, formed-Or) c.all-in-Or.ensures.formed

pub form-returns-in-Product-clause-formed : goal.form-returns-in-Product-clause-formed
form-returns-in-Product-clause-formed t c = rw (c.in-Product.is, formed-Product) c.multiplied.ensures.formed

pub form-returns-in-Sum-clause-formed : goal.form-returns-in-Sum-clause-formed
form-returns-in-Sum-clause-formed t c = rw (c.in-Sum.is, formed-Sum) c.added.ensures.formed

pub implying-returns-in_err-right-clause-formed : goal.implying-returns-in_err-right-clause-formed
implying-returns-in_err-right-clause-formed t c =
    let f = λ (x : Expr). formed x (scope c.args.known.now c.args.env.now) in
    let a = f c.args.left.now in
    let b = f c.args.right.now in
    let p = err_from_is_err_and c.from_residual-in_err-right.result c.from_residual-in_err-right.ensures.1 in
    rw (p.1, p.2)
    (passes_at c.in_err-right.field-0.0 f c.get-2.result.now c.args.right.now (implication a b)
    c.get-2.ensures (disjunction_second (denial a) b) c.in_err-right.ensures.formed)

pub denying-returns-in_err-of-clause-formed : goal.denying-returns-in_err-of-clause-formed
denying-returns-in_err-of-clause-formed t c =
    let f = λ (x : Expr). formed x (scope c.args.known.now c.args.env.now) in
    let p = err_from_is_err_and c.from_residual.result c.from_residual.ensures.1 in
    rw (p.1, p.2)
    (passes_at c.in_err-of.field-0.0 f c.get.result.now c.args.of.now (denial (f c.args.of.now))
    c.get.ensures (denial_keeps (f c.args.of.now)) c.in_err-of.ensures.formed)

pub comparing-returns-in_err-left-clause-formed : goal.comparing-returns-in_err-left-clause-formed
comparing-returns-in_err-left-clause-formed t c =
    let f = λ (x : Expr). formed x (scope c.args.known.now c.args.env.now) in
    let a = f c.args.left.now in
    let b = f c.args.right.now in
    let p = err_from_is_err_and c.from_residual.result c.from_residual.ensures.1 in
    rw (p.1, p.2)
    (passes_at c.in_err-left.field-0.0 f c.get.result.now c.args.left.now (comparison c.args.relation a b)
    c.get.ensures (comparison_first c.args.relation a b) c.in_err-left.ensures.formed)

pub comparing-returns-in_err-right-clause-formed : goal.comparing-returns-in_err-right-clause-formed
comparing-returns-in_err-right-clause-formed t c =
    let f = λ (x : Expr). formed x (scope c.args.known.now c.args.env.now) in
    let a = f c.args.left.now in
    let b = f c.args.right.now in
    let p = err_from_is_err_and c.from_residual-in_err-right.result c.from_residual-in_err-right.ensures.1 in
    rw (p.1, p.2)
    (passes_at c.in_err-right.field-0.0 f c.get-2.result.now c.args.right.now (comparison c.args.relation a b)
    c.get-2.ensures (comparison_second c.args.relation a b) c.in_err-right.ensures.formed)

pub form-returns-in_err-index-in-Some-clause-formed : goal.form-returns-in_err-index-in-Some-clause-formed
form-returns-in_err-index-in-Some-clause-formed t c =
    let s = scope c.args.known.now c.args.env.now in
    let f = λ (x : Expr). formed x s in
    let p = err_from_is_err_and c.from_residual-in_err-index-in-Some.result
    c.from_residual-in_err-index-in-Some.ensures.1 in
    rw (p.1, p.2, c.in-Word.is, c.in-Some.is, formed-Element)
    (passes_at c.in_err-index-in-Some.field-0.0 f c.get.result.now c.in-Some.index _ c.get.ensures
    (element_keeps (variable_named c.in-Word.name.text s.variables) (f c.in-Some.index))
    c.in_err-index-in-Some.ensures.formed)

pub form-returns-in-Quantified-clause-formed : goal.form-returns-in-Quantified-clause-formed
form-returns-in-Quantified-clause-formed t c =
    let s = scope c.args.known.now c.args.env.now in
    let f = λ (x : Expr). formed x s in
    let q = c.in-Quantified in
    rw (q.is, formed-Quantified)
    (subst (λ (x : Expr). GivesCore c.quantified.result (quantified s.bound q.range (gathered q.which
    (map (λ z. formed x (with_number s q.name.text z)) (fit_values (numbers s.bound) q.range)))))
    c.get-in-Quantified.ensures c.quantified.ensures.formed)

pub all-returns-in_err-first-clause-formed : goal.all-returns-in_err-first-clause-formed
all-returns-in_err-first-clause-formed t c =
    let f = λ (x : Expr). formed x (scope c.args.known.now c.args.env.now) in
    let begin = begin_of c.args.joint (f c.args.first.now) in
    let p = err_from_is_err_and c.from_residual.result c.from_residual.ensures.1 in
    rw (p.1, p.2) (passes_at c.in_err-first.field-0.0 f c.get.result.now c.args.first.now
    (fold (joint_of c.args.joint) begin (map f c.args.rest.now)) c.get.ensures
    (λ h. fold_past c.args.joint begin (map f c.args.rest.now) (begin_keeps c.args.joint (f c.args.first.now) h))
    c.in_err-first.ensures.formed)

pub all-returns-in_err-whole-clause-formed : goal.all-returns-in_err-whole-clause-formed
all-returns-in_err-whole-clause-formed t c =
    let f = λ (x : Expr). formed x (scope c.args.known.now c.args.env.now) in
    let begin = begin_of c.args.joint (f c.args.first.now) in
    let p = err_from_is_err_and c.from_residual-in_err-whole.result c.from_residual-in_err-whole.ensures.1 in
    rw (p.1, p.2) (passes c.in_err-whole.field-0.0 begin (fold (joint_of c.args.joint) begin (map f c.args.rest.now))
    (fold_past c.args.joint begin (map f c.args.rest.now))
    (subst (λ a. GivesCore (Err c.in_err-whole.field-0.0) (begin_of c.args.joint a))
    (c.in_ok-first.ensures.formed ∙ ap f c.get.ensures) c.in_err-whole.ensures.formed))

pub all-returns-in_err-next-clause-formed : goal.all-returns-in_err-next-clause-formed
all-returns-in_err-next-clause-formed t c =
    let f = λ (x : Expr). formed x (scope c.args.known.now c.args.env.now) in
    let begin = begin_of c.args.joint (f c.args.first.now) in
    let begun : c.in_ok-whole.whole ≡ begin = c.in_ok-whole.ensures.formed ∙ ap (begin_of c.args.joint)
    (c.in_ok-first.ensures.formed ∙ ap f c.get.ensures) in
    let p = err_from_is_err_and c.from_residual-in_err-next.result c.from_residual-in_err-next.ensures.1 in
    rw (p.1, p.2) (passes c.in_err-next.field-0.0 (f c.e-item.result)
    (fold (joint_of c.args.joint) begin (map f c.args.rest.now))
    (list_next f c.args.joint c.loop-e.whole c.as_slice-e-items.result.now c.args.rest.now c.loop-e.e-index begin
    c.in_ok-whole.whole c.loop-e-test.true begun c.as_slice-e-items.ensures
    c.loop-e.invariant.0 c.e-item.result c.e-item.is) c.in_err-next.ensures.formed)

pub all-returns-in_err-whole-2-clause-formed : goal.all-returns-in_err-whole-2-clause-formed
all-returns-in_err-whole-2-clause-formed t c =
    let f = λ (x : Expr). formed x (scope c.args.known.now c.args.env.now) in
    let begin = begin_of c.args.joint (f c.args.first.now) in
    let begun : c.in_ok-whole.whole ≡ begin = c.in_ok-whole.ensures.formed ∙ ap (begin_of c.args.joint)
    (c.in_ok-first.ensures.formed ∙ ap f c.get.ensures) in
    let p = err_from_is_err_and c.from_residual-in_err-whole-2.result c.from_residual-in_err-whole-2.ensures.1 in
    rw (p.1, p.2) (passes c.in_err-whole-2.field-0.0 (joint_of c.args.joint c.loop-e.whole c.in_ok-next.next)
    (fold (joint_of c.args.joint) begin (map f c.args.rest.now))
    (list_joined f c.args.joint c.loop-e.whole c.as_slice-e-items.result.now c.args.rest.now c.loop-e.e-index begin
    c.in_ok-whole.whole c.loop-e-test.true begun c.as_slice-e-items.ensures
    c.loop-e.invariant.0 c.e-item.result c.in_ok-next.next c.e-item.is c.in_ok-next.ensures.formed)
    c.in_err-whole-2.ensures.formed)

pub first_part-returns-in_err-first-clause-formed : goal.first_part-returns-in_err-first-clause-formed
first_part-returns-in_err-first-clause-formed t c =
    let f = λ (x : Expr). formed x (scope c.args.known.now c.args.env.now) in
    let p = err_from_is_err_and c.from_residual.result c.from_residual.ensures.1 in
    rw (p.1, p.2)
    (passes_at c.in_err-first.field-0.0 f c.get.result.now c.args.first.now (signed c.args.minus (f c.args.first.now))
    c.get.ensures (signed_keeps c.args.minus (f c.args.first.now)) c.in_err-first.ensures.formed)

pub added-returns-in_err-whole-clause-formed : goal.added-returns-in_err-whole-clause-formed
added-returns-in_err-whole-clause-formed t c =
    let s = scope c.args.known.now c.args.env.now in
    let begin = signed c.args.minus (formed c.args.first.now s) in
    let parts = map (λ (q : Symbol × Expr). (q.0, formed q.1 s)) c.args.rest.now in
    let p = err_from_is_err_and c.from_residual.result c.from_residual.ensures.1 in
    rw (p.1, p.2) (passes c.in_err-whole.field-0.0 begin (fold plus begin parts) (plus_fold begin parts)
    c.in_err-whole.ensures.formed)

pub added-returns-in_err-next-clause-formed : goal.added-returns-in_err-next-clause-formed
added-returns-in_err-next-clause-formed t c =
    let s = scope c.args.known.now c.args.env.now in
    let f = λ (x : Expr). formed x s in
    let begin = signed c.args.minus (f c.args.first.now) in
    let parts = map (λ (q : Symbol × Expr). (q.0, formed q.1 s)) c.args.rest.now in
    let p = err_from_is_err_and c.from_residual-in_err-next.result c.from_residual-in_err-next.ensures.1 in
    rw (p.1, p.2) (passes c.in_err-next.field-0.0 (f c.part-item.result.1) (fold plus begin parts)
    (marked_next plus plus_first plus_second (λ (q : Symbol × Expr). (q.0, formed q.1 s)) c.loop-part.whole
    c.as_slice-part-items.result.now c.args.rest.now c.loop-part.part-index begin
    c.in_ok-whole.whole c.loop-part-test.true c.in_ok-whole.ensures.formed c.as_slice-part-items.ensures
    c.loop-part.invariant.0 c.part-item.result c.part-item.is) c.in_err-next.ensures.formed)

pub added-returns-in_err-whole-2-clause-formed : goal.added-returns-in_err-whole-2-clause-formed
added-returns-in_err-whole-2-clause-formed t c =
    let s = scope c.args.known.now c.args.env.now in
    let f = λ (x : Expr). formed x s in
    let begin = signed c.args.minus (f c.args.first.now) in
    let parts = map (λ (q : Symbol × Expr). (q.0, formed q.1 s)) c.args.rest.now in
    let p = err_from_is_err_and c.from_residual-in_err-whole-2.result c.from_residual-in_err-whole-2.ensures.1 in
    rw (p.1, p.2) (passes c.in_err-whole-2.field-0.0 (plus c.loop-part.whole
    (c.part-item.result.0, c.in_ok-next.next)) (fold plus begin parts)
    (marked_joined plus plus_first plus_second (λ (q : Symbol × Expr). (q.0, formed q.1 s)) c.loop-part.whole
    c.as_slice-part-items.result.now c.args.rest.now c.loop-part.part-index begin
    c.in_ok-whole.whole c.loop-part-test.true c.in_ok-whole.ensures.formed c.as_slice-part-items.ensures
    c.loop-part.invariant.0 c.part-item.result c.in_ok-next.next c.part-item.is c.in_ok-next.ensures.formed)
    c.in_err-whole-2.ensures.formed)

pub multiplied-returns-in_err-whole-clause-formed : goal.multiplied-returns-in_err-whole-clause-formed
multiplied-returns-in_err-whole-clause-formed t c =
    let s = scope c.args.known.now c.args.env.now in
    let f = λ (x : Expr). formed x s in
    let begin = f c.args.first.now in
    let parts = map (factor_in s) c.args.rest.now in
    let p = err_from_is_err_and c.from_residual.result c.from_residual.ensures.1 in
    rw (p.1, p.2) (passes_at c.in_err-whole.field-0.0 f c.get.result.now c.args.first.now (fold factored begin parts)
    c.get.ensures (factored_fold begin parts) c.in_err-whole.ensures.formed)

pub multiplied-returns-in_err-next-clause-formed : goal.multiplied-returns-in_err-next-clause-formed
multiplied-returns-in_err-next-clause-formed t c =
    let s = scope c.args.known.now c.args.env.now in
    let f = λ (x : Expr). formed x s in
    let begin = f c.args.first.now in
    let parts = map (factor_in s) c.args.rest.now in
    let p = err_from_is_err_and c.from_residual-in_err-next.result c.from_residual-in_err-next.ensures.1 in
    rw (p.1, p.2) (passes c.in_err-next.field-0.0 (f c.part-item.result.1) (fold factored begin parts)
    (marked_next factored factored_first factored_second (factor_in s) c.loop-part.whole
    c.as_slice-part-items.result.now c.args.rest.now c.loop-part.part-index begin c.in_ok-whole.whole
    c.loop-part-test.true (c.in_ok-whole.ensures.formed ∙ ap f c.get.ensures)
    c.as_slice-part-items.ensures c.loop-part.invariant.0 c.part-item.result c.part-item.is)
    c.in_err-next.ensures.formed)

pub multiplied-returns-in_err-whole-2-clause-formed : goal.multiplied-returns-in_err-whole-2-clause-formed
multiplied-returns-in_err-whole-2-clause-formed t c =
    let s = scope c.args.known.now c.args.env.now in
    let f = λ (x : Expr). formed x s in
    let begin = f c.args.first.now in
    let parts = map (factor_in s) c.args.rest.now in
    let mark = (factor_in s c.part-item.result).0 in
    let p = err_from_is_err_and c.from_residual-in_err-whole-2.result c.from_residual-in_err-whole-2.ensures.1 in
    rw (p.1, p.2) (passes c.in_err-whole-2.field-0.0 (factored c.loop-part.whole (mark, c.in_ok-next.next))
    (fold factored begin parts)
    (marked_joined factored factored_first factored_second (factor_in s) c.loop-part.whole
    c.as_slice-part-items.result.now c.args.rest.now c.loop-part.part-index begin c.in_ok-whole.whole
    c.loop-part-test.true (c.in_ok-whole.ensures.formed ∙ ap f c.get.ensures)
    c.as_slice-part-items.ensures c.loop-part.invariant.0 c.part-item.result c.in_ok-next.next c.part-item.is
    c.in_ok-next.ensures.formed) (subst (λ n. GivesCore (Err c.in_err-whole-2.field-0.0) (factored c.loop-part.whole
    ((c.part-item.result.0, n), c.in_ok-next.next))) c.first_byte.ensures c.in_err-whole-2.ensures.formed))

pub quantified-returns-in_err-whole-clause-formed : goal.quantified-returns-in_err-whole-clause-formed
quantified-returns-in_err-whole-clause-formed t c =
    let s = scope c.args.known.now c.args.env.now in
    let f = λ (z : ℤ). formed c.args.of.now (with_number s c.args.name.now.text z) in
    let values : count_up c.range_numbers-numbers.result.first c.range_numbers-numbers.result.count ≡ fit_values
    (numbers s.bound) c.args.range.now = sym c.range_numbers-numbers.ensures.values in
    let p = err_from_is_err_and c.from_residual.result c.from_residual.ensures.1 in
    let goal = gathered c.args.which (map f (fit_values (numbers s.bound) c.args.range.now)) in
    rw (p.1, p.2) (passes_back c.in_err-whole.field-0.0 goal (quantified s.bound c.args.range.now goal)
    (quantified_keeps s.bound c.args.range.now goal)
    (subst (λ zs. GivesWhole (Err c.in_err-whole.field-0.0) (gathered c.args.which (map f zs))) values
    c.in_err-whole.ensures.formed))

pub quantified-returns-clause-formed : goal.quantified-returns-clause-formed
quantified-returns-clause-formed t c =
    let s = scope c.args.known.now c.args.env.now in
    let f = λ (z : ℤ). formed c.args.of.now (with_number s c.args.name.now.text z) in
    let values : count_up c.range_numbers-numbers.result.first c.range_numbers-numbers.result.count ≡ fit_values
    (numbers s.bound) c.args.range.now = sym c.range_numbers-numbers.ensures.values in
    let whole : c.in_ok-whole.whole ≡ gathered c.args.which (map f (fit_values (numbers s.bound) c.args.range.now)) =
    c.in_ok-whole.ensures.formed ∙ ap (λ zs. gathered c.args.which (map f zs)) values in
    subst (λ a. GivesCore c.limited.result a)
    (ap (λ m. record c.in_ok-whole.whole {
      exact = c.is_fixed_range.result && c.in_ok-whole.whole.exact;
      measure = m;
    }) (c.quantifier_measure-measure.ensures ∙ ap (λ w. quantifier_measure w c.in_ok-whole.whole.measure)
    c.range_misfit.ensures)
    ∙ ap (λ b. record c.in_ok-whole.whole {
      exact = b && c.in_ok-whole.whole.exact;
      measure = quantifier_measure
          (range_misfit (numbers s.bound) c.args.range.now) c.in_ok-whole.whole.measure;
    }) c.is_fixed_range.ensures
    ∙ ap (λ a. quantified s.bound c.args.range.now a) whole)
    c.limited.ensures.formed

pub instances-joined-requires-clause-first : goal.instances-joined-requires-clause-first
instances-joined-requires-clause-first t c =
    c.loop-k.invariant.1

pub instances-joined-requires-clause-first_light : goal.instances-joined-requires-clause-first_light
instances-joined-requires-clause-first_light t c =
    c.loop-k.invariant.2

pub instances-returns-clause-sound : goal.instances-returns-clause-sound
instances-returns-clause-sound t c =
    c.loop-k.invariant.1

pub instances-returns-clause-light : goal.instances-returns-clause-light
instances-returns-clause-light t c =
    c.loop-k.invariant.2

pub instances-loop-k-init : goal.instances-loop-k-init
instances-loop-k-init t c =
    let s = scope c.args.known.now c.args.env.now in
    let f = λ (z : ℤ). formed c.args.of.now (with_number s c.args.name.now.text z) in
    let low = c.args.numbers.first in
    let n = c.args.numbers.count in
    let goal = gathered c.args.which (map f (count_up low n)) in
    let same : formed c.args.of.now (scope c.args.known.now c.with_bound.result) ≡ f (low +ℤ pos 0) =
    ap (λ (bs : List (List ℕ × Bound)). formed c.args.of.now (record s { bound = bs }))
    (c.with_bound.ensures ∙ ap (λ b. (c.args.name.now.text, b) ∷ bound_names c.args.env.now) c.bound_at.ensures) in
    let j : c.joint_of_word-joint.result ≡ word_joint c.args.which = c.joint_of_word-joint.ensures in
    let whole : c.in_ok-whole.whole ≡ begin_of (word_joint c.args.which) (f (low +ℤ pos 0)) =
    c.in_ok-whole.ensures.formed ∙ ap (λ k. begin_of k c.in_ok-first.first) j ∙ ap
    (λ a. begin_of (word_joint c.args.which) a) (c.in_ok-first.ensures.formed ∙ same) in (
      ap (λ k. fold (joint_of k) c.in_ok-whole.whole (map f (drop 1 (count_up low n)))) j
          ∙ ap (λ a. fold (joint_of (word_joint c.args.which)) a (map f (drop 1 (count_up low n)))) whole
          ∙ instances_begin c.args.which f low n c.if-numbers-eq0.false,
      c.in_ok-whole.ensures.sound,
      c.in_ok-whole.ensures.light,
    )

pub instances-loop-k-preserved : goal.instances-loop-k-preserved
instances-loop-k-preserved t c =
    let s = scope c.args.known.now c.args.env.now in
    let f = λ (z : ℤ). formed c.args.of.now (with_number s c.args.name.now.text z) in
    let low = c.args.numbers.first in
    let n = c.args.numbers.count in
    let goal = gathered c.args.which (map f (count_up low n)) in
    let same : formed c.args.of.now (scope c.args.known.now c.with_bound-in-loop-k.result) ≡ f (low +ℤ pos c.loop-k.k)
    =
    ap (λ (bs : List (List ℕ × Bound)). formed c.args.of.now (record s { bound = bs }))
    (c.with_bound-in-loop-k.ensures ∙ ap (λ b. (c.args.name.now.text, b) ∷ bound_names c.args.env.now)
    c.bound_at-in-loop-k.ensures) in (
      instances_more c.joint_of_word-joint.result f low c.loop-k.k n c.loop-k.whole c.in_ok-whole-2.whole goal
          c.loop-k-test.true
          (c.in_ok-whole-2.ensures.formed ∙ ap (λ a. joint_of c.joint_of_word-joint.result c.loop-k.whole a)
          (c.in_ok-next.ensures.formed ∙ same)) c.loop-k.invariant.0,
      c.in_ok-whole-2.ensures.sound,
      c.in_ok-whole-2.ensures.light,
    )

pub instances-returns-clause-formed : goal.instances-returns-clause-formed
instances-returns-clause-formed t c =
    let s = scope c.args.known.now c.args.env.now in
    let f = λ (z : ℤ). formed c.args.of.now (with_number s c.args.name.now.text z) in
    let low = c.args.numbers.first in
    let n = c.args.numbers.count in
    let goal = gathered c.args.which (map f (count_up low n)) in
    let e : c.loop-k.k ≡ n = omega (arith, c.loop-k-test.false, c.loop-k.auto.k-end) in
    instances_end c.joint_of_word-joint.result f low c.loop-k.k n c.loop-k.whole goal e c.loop-k.invariant.0

pub instances-returns-in_err-first-clause-formed : goal.instances-returns-in_err-first-clause-formed
instances-returns-in_err-first-clause-formed t c =
    let s = scope c.args.known.now c.args.env.now in
    let f = λ (z : ℤ). formed c.args.of.now (with_number s c.args.name.now.text z) in
    let low = c.args.numbers.first in
    let n = c.args.numbers.count in
    let goal = gathered c.args.which (map f (count_up low n)) in
    let same : formed c.args.of.now (scope c.args.known.now c.with_bound.result) ≡ f (low +ℤ pos 0) =
    ap (λ (bs : List (List ℕ × Bound)). formed c.args.of.now (record s { bound = bs }))
    (c.with_bound.ensures ∙ ap (λ b. (c.args.name.now.text, b) ∷ bound_names c.args.env.now) c.bound_at.ensures) in
    let p = err_from_is_err_and c.from_residual-in_err-first.result c.from_residual-in_err-first.ensures.1 in
    rw (p.1, p.2) (passes_whole c.in_err-first.field-0.0 (f (low +ℤ pos 0)) goal
    (first_large c.args.which f low n c.if-numbers-eq0.false)
    (subst (λ a. GivesCore (Err c.in_err-first.field-0.0) a) same c.in_err-first.ensures.formed))

pub instances-returns-in_err-whole-clause-formed : goal.instances-returns-in_err-whole-clause-formed
instances-returns-in_err-whole-clause-formed t c =
    let s = scope c.args.known.now c.args.env.now in
    let f = λ (z : ℤ). formed c.args.of.now (with_number s c.args.name.now.text z) in
    let low = c.args.numbers.first in
    let n = c.args.numbers.count in
    let goal = gathered c.args.which (map f (count_up low n)) in
    let same : formed c.args.of.now (scope c.args.known.now c.with_bound.result) ≡ f (low +ℤ pos 0) =
    ap (λ (bs : List (List ℕ × Bound)). formed c.args.of.now (record s { bound = bs }))
    (c.with_bound.ensures ∙ ap (λ b. (c.args.name.now.text, b) ∷ bound_names c.args.env.now) c.bound_at.ensures) in
    let j : c.joint_of_word-joint.result ≡ word_joint c.args.which = c.joint_of_word-joint.ensures in
    let p = err_from_is_err_and c.from_residual-in_err-whole.result c.from_residual-in_err-whole.ensures.1 in
    let part : begin_of c.joint_of_word-joint.result c.in_ok-first.first ≡ begin_of (word_joint c.args.which)
    (f (low +ℤ pos 0)) =
    ap (λ k. begin_of k c.in_ok-first.first) j ∙ ap (λ a. begin_of (word_joint c.args.which) a)
    (c.in_ok-first.ensures.formed ∙ same) in
    rw (p.1, p.2) (passes_whole c.in_err-whole.field-0.0 (begin_of (word_joint c.args.which) (f (low +ℤ pos 0))) goal
    (begin_large c.args.which f low n c.if-numbers-eq0.false)
    (subst (λ a. GivesCore (Err c.in_err-whole.field-0.0) a) part c.in_err-whole.ensures.formed))

pub instances-returns-then-whole-gt65536-clause-formed : goal.instances-returns-then-whole-gt65536-clause-formed
instances-returns-then-whole-gt65536-clause-formed t c =
    let s = scope c.args.known.now c.args.env.now in
    let f = λ (z : ℤ). formed c.args.of.now (with_number s c.args.name.now.text z) in
    let low = c.args.numbers.first in
    let n = c.args.numbers.count in
    let goal = gathered c.args.which (map f (count_up low n)) in
    whole_large c.joint_of_word-joint.result f low c.loop-k.k n c.loop-k.whole goal c.loop-k.invariant.0
    (large_of_size c.loop-k.whole c.if-whole-gt65536.true)

pub instances-returns-in_err-next-clause-formed : goal.instances-returns-in_err-next-clause-formed
instances-returns-in_err-next-clause-formed t c =
    let s = scope c.args.known.now c.args.env.now in
    let f = λ (z : ℤ). formed c.args.of.now (with_number s c.args.name.now.text z) in
    let low = c.args.numbers.first in
    let n = c.args.numbers.count in
    let goal = gathered c.args.which (map f (count_up low n)) in
    let same : formed c.args.of.now (scope c.args.known.now c.with_bound-in-loop-k.result) ≡ f (low +ℤ pos c.loop-k.k)
    =
    ap (λ (bs : List (List ℕ × Bound)). formed c.args.of.now (record s { bound = bs }))
    (c.with_bound-in-loop-k.ensures ∙ ap (λ b. (c.args.name.now.text, b) ∷ bound_names c.args.env.now)
    c.bound_at-in-loop-k.ensures) in
    let p = err_from_is_err_and c.from_residual-in_err-next.result c.from_residual-in_err-next.ensures.1 in
    rw (p.1, p.2) (passes_whole c.in_err-next.field-0.0 (f (low +ℤ pos c.loop-k.k)) goal
    (instance_large c.joint_of_word-joint.result f low c.loop-k.k n c.loop-k.whole goal c.loop-k-test.true
    c.loop-k.invariant.0)
    (subst (λ a. GivesCore (Err c.in_err-next.field-0.0) a) same c.in_err-next.ensures.formed))

pub instances-returns-in_err-whole-2-clause-formed : goal.instances-returns-in_err-whole-2-clause-formed
instances-returns-in_err-whole-2-clause-formed t c =
    let s = scope c.args.known.now c.args.env.now in
    let f = λ (z : ℤ). formed c.args.of.now (with_number s c.args.name.now.text z) in
    let low = c.args.numbers.first in
    let n = c.args.numbers.count in
    let goal = gathered c.args.which (map f (count_up low n)) in
    let same : formed c.args.of.now (scope c.args.known.now c.with_bound-in-loop-k.result) ≡ f (low +ℤ pos c.loop-k.k)
    =
    ap (λ (bs : List (List ℕ × Bound)). formed c.args.of.now (record s { bound = bs }))
    (c.with_bound-in-loop-k.ensures ∙ ap (λ b. (c.args.name.now.text, b) ∷ bound_names c.args.env.now)
    c.bound_at-in-loop-k.ensures) in
    let p = err_from_is_err_and c.from_residual-in_err-whole-2.result c.from_residual-in_err-whole-2.ensures.1 in
    let part : joint_of c.joint_of_word-joint.result c.loop-k.whole c.in_ok-next.next ≡ joint_of
    c.joint_of_word-joint.result c.loop-k.whole (f (low +ℤ pos c.loop-k.k)) =
    ap (λ a. joint_of c.joint_of_word-joint.result c.loop-k.whole a) (c.in_ok-next.ensures.formed ∙ same) in
    rw (p.1, p.2) (passes_whole c.in_err-whole-2.field-0.0 (joint_of c.joint_of_word-joint.result c.loop-k.whole
    (f (low +ℤ pos c.loop-k.k))) goal
    (joined_large c.joint_of_word-joint.result f low c.loop-k.k n c.loop-k.whole goal c.loop-k-test.true
    c.loop-k.invariant.0)
    (subst (λ a. GivesCore (Err c.in_err-whole-2.field-0.0) a) part c.in_err-whole-2.ensures.formed))
