use Rattle.std.proofs.Common.{sym, ◌∙◌}
use Rattle.std.proofs.lemmas.Result.{err_from_is_err_and}
use Rattle.parser_expressions.proofs.Failing.{same_fails}
use Rattle.parser_expressions.proofs.Repetition.{goes_on, ends, fails}
use Rattle.parser_expressions.proofs.lists.repeated.Goals as goal

pub items-preserved : goal.items-preserved
items-preserved g c view form depth is reads = goes_on is (c.items.invariant view form depth is reads)
    (sym c.begins.ensures ∙ c.items-test.true) c.in_ok-one.one _
    (c.in_ok-inner.ensures.read form depth ∙ reads _ _ c.in_ok-one.ensures) _ c.in_ok-push.ensures.ok

pub returns : goal.returns
returns g c view form depth is reads = ends is (c.items.invariant view form depth is reads)
    (sym c.begins.ensures ∙ c.items-test.false)

pub returns-in_err-inner : goal.returns-in_err-inner
returns-in_err-inner g c view form depth is reads =
    let p = err_from_is_err_and c.from_residual.result c.from_residual.ensures.1 in rw (p.1, p.2)
    (fails is (c.items.invariant view form depth is reads) (sym c.begins.ensures ∙ c.items-test.true) _
    (c.in_err-inner.ensures.read form depth))

pub returns-in_err-one : goal.returns-in_err-one
returns-in_err-one g c view form depth is reads =
    let p = err_from_is_err_and c.from_residual-in_err-one.result c.from_residual-in_err-one.ensures.1 in rw (p.1, p.2)
    (fails is (c.items.invariant view form depth is reads) (sym c.begins.ensures ∙ c.items-test.true) _
    (same_fails _ (c.in_ok-inner.ensures.read form depth) (reads _ _ c.in_err-one.ensures)))
