use Rattle.std.proofs.Common.{◌<◌, length, sym, ◌∙◌, arith}
use Rattle.std.proofs.lemmas.Result.{IfOk-weaker}
use Rattle.unity_syntax.specs.View.{view_expr}
use Rattle.parser_expressions.proofs.ExpressionTrees.{long_product}
use Rattle.parser_expressions.proofs.nodes.product.Goals as goal

pub returns-in-len1-up : goal.returns-in-len1-up
returns-in-len1-up c =
    let h : 0 < length c.args.rest = rw (← c.as_slice.ensures) (omega arith) in
    IfOk-weaker c.long_product.result _ _ (λ x e. e ∙ sym (long_product c.args.at (view_expr c.args.first) c.args.rest
    h)) c.long_product.ensures
