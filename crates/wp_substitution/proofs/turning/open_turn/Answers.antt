use Rattle.core_terms.specs.Pools.{term_or}
use Rattle.wp_substitution.specs.Chains.{term_by}
use Rattle.wp_substitution.proofs.TurnLaws.{choice_turns}
use Rattle.wp_substitution.proofs.turning.open_turn.Goals as goal

pub returns-clause-turn : goal.returns-clause-turn
returns-clause-turn c =
    λ f is.
    let p = c.args.pool.now in
    choice_turns p f (term_by c.args.chains.now (term_or p.terms c.args.a.place))
    (term_by c.args.chains.now (term_or p.terms c.args.b.place)) c.args.condition c.in_ok-first.first
    c.in_ok-second.second is c.requires.open c.in_ok-first.ensures.known c.in_ok-second.ensures.known
