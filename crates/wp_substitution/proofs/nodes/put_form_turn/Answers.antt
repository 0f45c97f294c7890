use Rattle.std.proofs.Common.{length, refl}
use Rattle.core_terms.specs.Pools.{form_or}
use Rattle.wp_substitution.specs.Chains.{form_by}
use Rattle.wp_substitution.proofs.TurnLaws.{form_put}
use Rattle.wp_substitution.proofs.nodes.put_form_turn.Goals as goal

pub put_form_near-requires-clause-parts : goal.put_form_near-requires-clause-parts
put_form_near-requires-clause-parts c =
    c.folded_form_node-folded.ensures.parts (length c.args.pool.now.forms) (length c.args.pool.now.terms)
    c.requires.turn.parts

pub returns-clause-known : goal.returns-clause-known
returns-clause-known c =
    let p = c.args.pool.now in
    form_put p _ (form_by c.args.chains.now (form_or p.forms c.args.id.place)) c.args.turn
    c.folded_form_node-folded.result _ c.requires.turn (c.folded_form_node-folded.ensures.tree p.forms p.terms)
    c.in_ok-id.ensures.tree refl
