use Rattle.std.proofs.Common.{length, refl}
use Rattle.core_terms.specs.Pools.{term_or}
use Rattle.wp_substitution.specs.Chains.{term_by}
use Rattle.wp_substitution.proofs.TurnLaws.{term_put}
use Rattle.wp_substitution.proofs.nodes.put_node_turn.Goals as goal

pub put_term_near-requires-clause-parts : goal.put_term_near-requires-clause-parts
put_term_near-requires-clause-parts c =
    c.folded_term_node-folded.ensures.parts (length c.args.pool.now.forms) (length c.args.pool.now.terms)
    c.requires.turn.parts

pub returns-clause-known : goal.returns-clause-known
returns-clause-known c =
    let p = c.args.pool.now in
    term_put p _ (term_by c.args.chains.now (term_or p.terms c.args.id.place)) c.args.node
    c.folded_term_node-folded.result c.args.number _ c.requires.turn
    (c.folded_term_node-folded.ensures.tree p.forms p.terms) c.in_ok-id.ensures.tree refl
