use Rattle.std.proofs.Common.{◌∙◌, ap}
use Rattle.std.proofs.lemmas.Result.{IfOk-weaker}
use Rattle.unity_syntax.specs.View.{view_expr}
use Rattle.parser_expressions.proofs.ExpressionTrees.{indexed_tree}
use Rattle.parser_expressions.proofs.nodes.indexed.Goals as goal

pub returns : goal.returns
returns c = IfOk-weaker c.new.result _ _ (λ x e. ap view_expr e ∙ indexed_tree c.args.at c.args.name c.args.index)
    c.new.ensures
