use Rattle.std.proofs.lemmas.Option.{get_or_from_slice_get}
use Rattle.std.proofs.Common.{pos}
use Rattle.core_terms.specs.declared.trees.CTerm.TheVariants.{Const}
use Rattle.core_terms.specs.Pools.{term_of_node}
use Rattle.wp_substitution.proofs.TurnLaws.{term_parts}
use Rattle.wp_substitution.proofs.turning.term_node.Goals as goal

pub returns-clause-tree : goal.returns-clause-tree
returns-clause-tree c =
    let p = c.args.pool.now in
    get_or_from_slice_get p.terms c.args.id.place (term_of_node p.forms p.terms c.term_node.result) (Const (pos 0))
    c.term_node.ensures.tree

pub returns-clause-parts : goal.returns-clause-parts
returns-clause-parts c =
    term_parts c.args.pool.now c.args.memo.now.mark c.args.id.place c.term_node.result
    (c.term_node.ensures.parts c.args.memo.now.mark c.requires.fits c.requires.part.place) (returns-clause-tree c)
    c.requires.part
