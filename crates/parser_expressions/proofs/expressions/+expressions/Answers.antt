use Rattle.std.proofs.Common.{sym, ◌∙◌, ◌++◌, [], ◌∷◌, map, Ok, ap, refl}
use Rattle.case_tables.specs.declared.symbol_table.Symbol.{Symbol}
use Rattle.case_tables.specs.declared.word_table.Word.{Word}
use Rattle.grammar_theory.specs.Ebnf.{Tree, choice, node, one_of}
use Rattle.grammar_theory.specs.Reader.{after, read}
use Rattle.unity_syntax.specs.declared.expression.Expr.{Expr}
use Rattle.unity_syntax.specs.Classes.{reserved, symbol}
use Rattle.unity_syntax.specs.Kinds.{Kind, kind}
use Rattle.unity_syntax.specs.Grammar.{grammar, over_range, pred_, quantified_}
use Rattle.std.proofs.lemmas.Result.{err_from_is_err_and}
use Rattle.unity_syntax.specs.View.{view_expr}
use Rattle.parser_expressions.specs.Gives.{remaining}
use Rattle.parser_expressions.proofs.Repetition.{goes_on, ends, fails, shorter}
use Rattle.parser_expressions.proofs.Failing.{through, second_fails, both_read}
use Rattle.parser_expressions.proofs.BoundReading.{bound_fails, form_read, form_fails}
use Rattle.parser_expressions.proofs.OperandForms.{is_joined, is_summand, is_factor}
use Rattle.parser_expressions.proofs.JoinedReading.{gives_ands, gives_ors}
use Rattle.parser_expressions.proofs.expressions.+expressions.Goals as goal

pub more_units-items-smaller : goal.more_units-items-smaller
more_units-items-smaller t c = shorter (is_joined c.args.by) c.args.depth _ _ _ c.in_ok-item.ensures

pub more_units-items-preserved : goal.more_units-items-preserved
more_units-items-preserved t c = goes_on (is_joined c.args.by) c.items.invariant
    (sym c.goes_on.ensures ∙ c.items-test.true) c.in_ok-item.item _ c.in_ok-item.ensures _
    (c.in_ok-push.ensures.ok ∙ ap (λ (x : Expr). c.items.found ++ x ∷ []) c.into_inner.ensures)

pub more_units-returns : goal.more_units-returns
more_units-returns t c = ends (is_joined c.args.by) c.items.invariant (sym c.goes_on.ensures ∙ c.items-test.false)

pub more_units-returns-in_err-item : goal.more_units-returns-in_err-item
more_units-returns-in_err-item t c = let p = err_from_is_err_and c.from_residual.result c.from_residual.ensures.1 in rw
    (p.1, p.2)
    (fails (is_joined c.args.by) c.items.invariant (sym c.goes_on.ensures ∙ c.items-test.true) _ c.in_err-item.ensures)

pub more_products-items-smaller : goal.more_products-items-smaller
more_products-items-smaller t c = shorter is_summand c.args.depth _ _ _ c.in_ok-item.ensures

pub more_products-items-preserved : goal.more_products-items-preserved
more_products-items-preserved t c = goes_on is_summand c.items.invariant
    (sym c.begins_sign.ensures ∙ c.items-test.true) c.in_ok-item.item _ c.in_ok-item.ensures _
    (c.in_ok-push.ensures.ok ∙ ap (λ (x : Expr). c.items.found ++ (c.in_ok-item.item.0, x) ∷ []) c.into_inner.ensures)

pub more_products-returns : goal.more_products-returns
more_products-returns t c = ends is_summand c.items.invariant (sym c.begins_sign.ensures ∙ c.items-test.false)

pub more_products-returns-in_err-item : goal.more_products-returns-in_err-item
more_products-returns-in_err-item t c = let p = err_from_is_err_and c.from_residual.result c.from_residual.ensures.1 in
    rw (p.1, p.2)
    (fails is_summand c.items.invariant (sym c.begins_sign.ensures ∙ c.items-test.true) _
    c.in_err-item.ensures)

pub more_factors-items-smaller : goal.more_factors-items-smaller
more_factors-items-smaller t c = shorter is_factor c.args.depth _ _ _ c.in_ok-item.ensures

pub more_factors-items-preserved : goal.more_factors-items-preserved
more_factors-items-preserved t c = goes_on is_factor c.items.invariant
    (sym c.begins_operator.ensures ∙ c.items-test.true) c.in_ok-item.item _ c.in_ok-item.ensures _
    (c.in_ok-push.ensures.ok ∙ ap (λ (x : Expr). c.items.found ++ (c.in_ok-item.item.0, x) ∷ []) c.into_inner.ensures)

pub more_factors-returns : goal.more_factors-returns
more_factors-returns t c = ends is_factor c.items.invariant (sym c.begins_operator.ensures ∙ c.items-test.false)

pub more_factors-returns-in_err-item : goal.more_factors-returns-in_err-item
more_factors-returns-in_err-item t c = let p = err_from_is_err_and c.from_residual.result c.from_residual.ensures.1 in
    rw (p.1, p.2)
    (fails is_factor c.items.invariant (sym c.begins_operator.ensures ∙ c.items-test.true) _
    c.in_err-item.ensures)

pub joined-returns-then-begins_reserved : goal.joined-returns-then-begins_reserved
joined-returns-then-begins_reserved t c = gives_ands c.args.depth c.place-at.result (remaining c.args.text)
    (remaining c.in_ok-first.text) (view_expr c.in_ok-first.first) c.joined_by.result c.place-at.ensures
    c.in_ok-first.ensures
    (sym c.begins_reserved.ensures ∙ c.if-begins_reserved.true) c.joined_by.ensures

pub joined-returns-then-begins_reserved-2 : goal.joined-returns-then-begins_reserved-2
joined-returns-then-begins_reserved-2 t c = gives_ors c.args.depth c.place-at.result (remaining c.args.text)
    (remaining c.in_ok-first.text) (view_expr c.in_ok-first.first) c.joined_by-then-begins_reserved-2.result
    c.place-at.ensures c.in_ok-first.ensures
    (sym c.begins_reserved.ensures ∙ c.if-begins_reserved.false)
    (sym c.begins_reserved-2.ensures ∙ c.if-begins_reserved-2.true) c.joined_by-then-begins_reserved-2.ensures

pub quantified-returns : goal.quantified-returns
unfolding quantified_
quantified-returns t c =
    ap (after (node (kind Kind.expr_quantified) c.args.at))
    (both_read c.args.depth (one_of (map reserved (Word.All ∷ Word.Any ∷ Word.Sum ∷ [])))
    (over_range (symbol Symbol.DoubleColon) pred_) (remaining c.args.text) (remaining c.in_ok-which.text)
    (choice (reserved c.in_ok-which.which)) c.in_ok-which.ensures
    _ _ (form_read c.args.depth Symbol.DoubleColon pred_ (remaining c.in_ok-which.text) c.in_ok-bound.bound
    (remaining c.in_ok-bound.text) c.in_ok-bound.ensures _ _ c.in_ok-of.ensures))
    ∙ ap (λ (x : Tree). Ok (x, remaining c.in_ok-of.text)) (sym c.in_ok-whole.ensures)

pub quantified-returns-in_err-bound : goal.quantified-returns-in_err-bound
unfolding quantified_
quantified-returns-in_err-bound t c =
    let p = err_from_is_err_and c.from_residual-in_err-bound.result c.from_residual-in_err-bound.ensures.1 in rw
    (p.1, p.2)
    (through (after (node (kind Kind.expr_quantified) c.args.at)) (λ d. refl) _
    (read grammar c.args.depth quantified_ (remaining c.args.text))
    (second_fails c.args.depth (one_of (map reserved (Word.All ∷ Word.Any ∷ Word.Sum ∷ [])))
    (over_range (symbol Symbol.DoubleColon) pred_) (remaining c.args.text) (remaining c.in_ok-which.text)
    (choice (reserved c.in_ok-which.which)) c.in_ok-which.ensures
    _ (bound_fails c.args.depth Symbol.DoubleColon pred_ (remaining c.in_ok-which.text) _ c.in_err-bound.ensures)))

pub quantified-returns-in_err-of : goal.quantified-returns-in_err-of
unfolding quantified_
quantified-returns-in_err-of t c =
    let p = err_from_is_err_and c.from_residual-in_err-of.result c.from_residual-in_err-of.ensures.1 in rw (p.1, p.2)
    (through (after (node (kind Kind.expr_quantified) c.args.at)) (λ d. refl) _
    (read grammar c.args.depth quantified_ (remaining c.args.text))
    (second_fails c.args.depth (one_of (map reserved (Word.All ∷ Word.Any ∷ Word.Sum ∷ [])))
    (over_range (symbol Symbol.DoubleColon) pred_) (remaining c.args.text) (remaining c.in_ok-which.text)
    (choice (reserved c.in_ok-which.which)) c.in_ok-which.ensures
    _ (form_fails c.args.depth Symbol.DoubleColon pred_ (remaining c.in_ok-which.text) c.in_ok-bound.bound
    (remaining c.in_ok-bound.text) c.in_ok-bound.ensures _ c.in_err-of.ensures)))
