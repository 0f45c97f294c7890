use Rattle.std.proofs.Common.{length}
use Rattle.wp_substitution.specs.Chains.{form_by}
use Rattle.core_terms.specs.Pools.{form_or}
use Rattle.wp_substitution.proofs.TurnLaws.{joined_turns}
use Rattle.wp_substitution.proofs.turning.joined_turn.Goals as goal

pub returns-clause-turn : goal.returns-clause-turn
returns-clause-turn c =
    joined_turns c.args.pool.now c.args.joining (form_by c.args.chains.now (form_or c.args.pool.now.forms
    c.args.f.place))
    (form_by c.args.chains.now (form_or c.args.pool.now.forms c.args.g.place)) c.in_ok-first.first
    c.in_ok-second.second _
    c.in_ok-first.ensures.known c.in_ok-second.ensures.known
    (c.joined_node-node.ensures.tree c.args.pool.now.forms c.args.pool.now.terms)
    (c.joined_node-node.ensures.parts (length c.args.pool.now.forms) (length c.args.pool.now.terms))
    c.joined_truth-truth.ensures
