use Rattle.std.proofs.Common.{length}
use Rattle.wp_substitution.specs.Chains.{term_by}
use Rattle.core_terms.specs.Pools.{term_or}
use Rattle.wp_substitution.proofs.TurnLaws.{pair_turns}
use Rattle.wp_substitution.proofs.turning.pair_turn.Goals as goal

pub returns-clause-turn : goal.returns-clause-turn
returns-clause-turn c =
    pair_turns c.args.pool.now c.args.which (term_by c.args.chains.now (term_or c.args.pool.now.terms c.args.a.place))
    (term_by c.args.chains.now (term_or c.args.pool.now.terms c.args.b.place)) c.in_ok-first.first c.in_ok-second.second
    c.pair_node-node.result c.pair_number-number.result c.in_ok-first.ensures.known c.in_ok-second.ensures.known
    (c.pair_node-node.ensures.tree c.args.pool.now.forms c.args.pool.now.terms)
    (c.pair_node-node.ensures.parts (length c.args.pool.now.forms) (length c.args.pool.now.terms))
    c.pair_number-number.ensures
