use Rattle.std.proofs.Common.{length}
use Rattle.wp_substitution.specs.Chains.{term_by}
use Rattle.core_terms.specs.Pools.{term_or}
use Rattle.wp_substitution.proofs.TurnLaws.{sense_turns}
use Rattle.wp_substitution.proofs.turning.sense_turn.Goals as goal

pub returns-clause-turn : goal.returns-clause-turn
returns-clause-turn c =
    sense_turns c.args.pool.now c.args.sense (term_by c.args.chains.now (term_or c.args.pool.now.terms c.args.t.place))
    c.in_ok-part.part _ c.in_ok-part.ensures.known (c.sense_node-node.ensures.tree c.args.pool.now.forms
    c.args.pool.now.terms)
    (c.sense_node-node.ensures.parts (length c.args.pool.now.forms) (length c.args.pool.now.terms))
    c.sense_truth-truth.ensures
