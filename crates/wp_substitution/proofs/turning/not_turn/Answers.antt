use Rattle.wp_substitution.specs.Chains.{form_by}
use Rattle.core_terms.specs.Pools.{form_or}
use Rattle.wp_substitution.proofs.TurnLaws.{not_turns}
use Rattle.wp_substitution.proofs.turning.not_turn.Goals as goal

pub returns-clause-turn : goal.returns-clause-turn
returns-clause-turn c =
    not_turns c.args.pool.now (form_by c.args.chains.now (form_or c.args.pool.now.forms c.args.f.place))
    c.in_ok-part.part
    c.other_truth-truth.result c.in_ok-part.ensures.known c.other_truth-truth.ensures
