use Rattle.std.proofs.Common.{sym, ◌∙◌}
use Rattle.std.proofs.lemmas.Result.{err_from_is_err_and}
use Rattle.parser_programs.proofs.lemmas_from_parser_expressions.Repetition.{goes_on, ends, fails, shorter}
use Rattle.unity_parser.proofs.NodeForms.{is_inst}
use Rattle.unity_parser.proofs.schedules.more_insts.Goals as goal

pub items-smaller : goal.items-smaller
items-smaller c = shorter is_inst c.args.depth _ _ _ c.in_ok-item.ensures

pub items-preserved : goal.items-preserved
items-preserved c = goes_on is_inst c.items.invariant (sym c.begins_symbol.ensures ∙ c.items-test.true)
    c.in_ok-item.item _ c.in_ok-item.ensures _ c.in_ok-push.ensures.ok

pub returns : goal.returns
returns c = ends is_inst c.items.invariant (sym c.begins_symbol.ensures ∙ c.items-test.false)

pub returns-in_err-item : goal.returns-in_err-item
returns-in_err-item c = let p = err_from_is_err_and c.from_residual.result c.from_residual.ensures.1 in rw (p.1, p.2)
    (fails is_inst c.items.invariant (sym c.begins_symbol.ensures ∙ c.items-test.true) _ c.in_err-item.ensures)
