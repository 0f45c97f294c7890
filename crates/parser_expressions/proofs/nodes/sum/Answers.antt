use Rattle.std.proofs.Common.{◌<◌, length, sym, ◌∙◌, arith}
use Rattle.std.proofs.lemmas.Result.{IfOk-weaker}
use Rattle.unity_syntax.specs.View.{view_expr}
use Rattle.parser_expressions.proofs.ExpressionTrees.{long_sum}
use Rattle.parser_expressions.proofs.nodes.sum.Goals as goal

pub returns-in-len1-up : goal.returns-in-len1-up
returns-in-len1-up c =
    let h : 0 < length c.args.rest = rw (← c.as_slice.ensures) (omega arith) in
    rw c.if-minus.false (IfOk-weaker c.long_sum-in-len1-up.result _ _
    (λ x e. (rw c.if-minus.false at e) ∙ sym (long_sum c.args.at (view_expr c.args.first) c.args.rest h))
    c.long_sum-in-len1-up.ensures)
