use Rattle.std.proofs.lemmas.Option.{get_or_from_slice_get}
use Rattle.core_terms.specs.declared.trees.CForm.TheVariants.{Top}
use Rattle.core_terms.specs.Pools.{form_of_node}
use Rattle.wp_substitution.proofs.TurnLaws.{form_parts}
use Rattle.wp_substitution.proofs.turning.form_node.Goals as goal

pub returns-clause-tree : goal.returns-clause-tree
returns-clause-tree c =
    let p = c.args.pool.now in
    get_or_from_slice_get p.forms c.args.id.place (form_of_node p.forms p.terms c.form_node.result) Top
    c.form_node.ensures.tree

pub returns-clause-parts : goal.returns-clause-parts
returns-clause-parts c =
    form_parts c.args.pool.now c.args.memo.now.mark c.args.id.place c.form_node.result
    (c.form_node.ensures.parts c.args.memo.now.mark c.requires.fits c.requires.part.place) (returns-clause-tree c)
    c.requires.part
