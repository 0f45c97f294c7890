use Rattle.std.proofs.Common.{subst}
use Rattle.std.specs.Prelude.{IfOk}
use Rattle.core_terms.specs.declared.trees.CForm.TheVariants.{Top, Bottom}
use Rattle.core_terms.specs.Pools.{form_or, term_or}
use Rattle.wp_substitution.specs.Memos.{IsFormTurn}
use Rattle.wp_substitution.proofs.TurnLaws.{form_turned, by-Top, by-Bottom, by-AtLeast, by-Zero, by-Not, by-And, by-Or}
use Rattle.wp_substitution.proofs.TurnLaws.{truth_turns, untruth_turns}
use Rattle.wp_substitution.proofs.turning.form_turn.Goals as goal

pub returns-in-Top-clause-turn : goal.returns-in-Top-clause-turn
returns-in-Top-clause-turn c =
    let p = c.args.pool.now in
    let turn = c.truth_turn in
    subst (λ t. IsFormTurn p t turn.result)
    (form_turned c.args.chains.now p c.args.id.place Top Top c.in-Top.ensures.tree (by-Top c.args.chains.now))
    (truth_turns p turn.result (turn.ensures.node, turn.ensures.truth))

pub returns-in-Bottom-clause-turn : goal.returns-in-Bottom-clause-turn
returns-in-Bottom-clause-turn c =
    let p = c.args.pool.now in
    let turn = c.truth_turn-in-Bottom in
    subst (λ t. IsFormTurn p t turn.result)
    (form_turned c.args.chains.now p c.args.id.place Bottom Bottom c.in-Bottom.ensures.tree (by-Bottom
    c.args.chains.now))
    (untruth_turns p turn.result (turn.ensures.node, turn.ensures.truth))

pub returns-in-AtLeast-clause-turn : goal.returns-in-AtLeast-clause-turn
returns-in-AtLeast-clause-turn c =
    let p = c.args.pool.now in
    subst (λ t. IfOk c.sense_turn.result (IsFormTurn p t))
    (form_turned c.args.chains.now p c.args.id.place _ _ c.in-AtLeast.ensures.tree (by-AtLeast c.args.chains.now
    (term_or p.terms c.in-AtLeast.t.place))) c.sense_turn.ensures.turn

pub returns-in-Zero-clause-turn : goal.returns-in-Zero-clause-turn
returns-in-Zero-clause-turn c =
    let p = c.args.pool.now in
    subst (λ t. IfOk c.sense_turn-in-Zero.result (IsFormTurn p t))
    (form_turned c.args.chains.now p c.args.id.place _ _ c.in-Zero.ensures.tree (by-Zero c.args.chains.now
    (term_or p.terms c.in-Zero.t.place))) c.sense_turn-in-Zero.ensures.turn

pub returns-in-Not-clause-turn : goal.returns-in-Not-clause-turn
returns-in-Not-clause-turn c =
    let p = c.args.pool.now in
    subst (λ t. IfOk c.not_turn.result (IsFormTurn p t))
    (form_turned c.args.chains.now p c.args.id.place _ _ c.in-Not.ensures.tree (by-Not c.args.chains.now
    (form_or p.forms c.in-Not.f.place))) c.not_turn.ensures.turn

pub returns-in-And-clause-turn : goal.returns-in-And-clause-turn
returns-in-And-clause-turn c =
    let p = c.args.pool.now in
    subst (λ t. IfOk c.joined_turn.result (IsFormTurn p t))
    (form_turned c.args.chains.now p c.args.id.place _ _ c.in-And.ensures.tree (by-And c.args.chains.now
    (form_or p.forms c.in-And.f.place) (form_or p.forms c.in-And.g.place))) c.joined_turn.ensures.turn

pub returns-in-Or-clause-turn : goal.returns-in-Or-clause-turn
returns-in-Or-clause-turn c =
    let p = c.args.pool.now in
    subst (λ t. IfOk c.joined_turn-in-Or.result (IsFormTurn p t))
    (form_turned c.args.chains.now p c.args.id.place _ _ c.in-Or.ensures.tree (by-Or c.args.chains.now
    (form_or p.forms c.in-Or.f.place) (form_or p.forms c.in-Or.g.place))) c.joined_turn-in-Or.ensures.turn
