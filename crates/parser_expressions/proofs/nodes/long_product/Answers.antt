use Rattle.std.proofs.Common.{◌∙◌, ap}
use Rattle.std.proofs.lemmas.Result.{IfOk-weaker}
use Rattle.unity_syntax.specs.View.{view_expr}
use Rattle.parser_expressions.proofs.ExpressionTrees.{product_tree}
use Rattle.parser_expressions.proofs.nodes.long_product.Goals as goal

pub returns : goal.returns
returns c = IfOk-weaker c.new.result _ _ (λ x e. ap view_expr e ∙ product_tree c.args.at c.args.first c.args.rest)
    c.new.ensures
