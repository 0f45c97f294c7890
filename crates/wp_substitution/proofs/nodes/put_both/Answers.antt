use Rattle.std.proofs.Common.{length}
use Rattle.std.proofs.lemmas.Result.{IfOk-weaker}
use Rattle.wp_substitution.proofs.TurnLaws.{both_put}
use Rattle.wp_substitution.proofs.nodes.put_both.Goals as goal

pub put_form_node-requires : goal.put_form_node-requires
put_form_node-requires c =
    let p = c.args.pool.now in
    c.folded_form_node-folded.ensures.parts (length p.forms) (length p.terms) (c.requires.first, c.requires.second)

pub returns-clause-tree : goal.returns-clause-tree
returns-clause-tree c =
    λ f g is its.
    let p = c.args.pool.now in
    IfOk-weaker c.put_form_node.result _ _ (λ id there. both_put p c.put_form_node.new.self f g c.args.first
    c.args.second
    c.folded_form_node-folded.result c.joined_truth-truth.result id.place is its c.joined_truth-truth.ensures
    (c.folded_form_node-folded.ensures.tree p.forms p.terms) there) c.put_form_node.ensures.tree
