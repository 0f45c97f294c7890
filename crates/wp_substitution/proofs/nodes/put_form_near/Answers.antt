use Rattle.std.proofs.Common.{◌≡◌, Some}
use Rattle.std.specs.Prelude.{slice_get}
use Rattle.std.proofs.lemmas.Bool.{OnTrue_at}
use Rattle.core_terms.specs.Pools.{form_of_node}
use Rattle.wp_substitution.proofs.nodes.put_form_near.Goals as goal

pub returns-then-is_form_node-clause-tree : goal.returns-then-is_form_node-clause-tree
returns-then-is_form_node-clause-tree c =
    let p = c.args.pool.now in
    OnTrue_at {P = slice_get p.forms c.args.near.place ≡ Some (form_of_node p.forms p.terms c.args.node)}
    c.if-is_form_node.true c.is_form_node.ensures
