use Rattle.std.proofs.Common.{◌≡◌, true, false, Some, sym, ◌∙◌, subst}
use Rattle.std.specs.Prelude.{IfOk}
use Rattle.core_terms.specs.Pools.{form_or, term_or}
use Rattle.wp_substitution.specs.Chains.{form_by, term_by}
use Rattle.wp_substitution.specs.Memos.{IsTermTurn}
use Rattle.wp_substitution.proofs.TurnLaws.{choice_is}
use Rattle.wp_substitution.proofs.turning.choice_turn.Goals as goal

pub returns-in-Some-true-clause-turn : goal.returns-in-Some-true-clause-turn
returns-in-Some-true-clause-turn c =
    let p = c.args.pool.now in
    let chains = c.args.chains.now in
    let is : c.in_ok-condition.condition.truth ≡ Some true = cc in
    let told = sym c.in_ok-condition.ensures.known.truth ∙ is in
    subst (λ t. IfOk c.branch_turn.result (IsTermTurn chains p t))
    (sym (choice_is (form_by chains (form_or p.forms c.args.c.place)) (term_by chains (term_or p.terms c.args.a.place))
    (term_by chains (term_or p.terms c.args.b.place)) (Some true) told)) c.branch_turn.ensures.turn

pub returns-in-Some-false-clause-turn : goal.returns-in-Some-false-clause-turn
returns-in-Some-false-clause-turn c =
    let p = c.args.pool.now in
    let chains = c.args.chains.now in
    let is : c.in_ok-condition.condition.truth ≡ Some false = cc in
    let told = sym c.in_ok-condition.ensures.known.truth ∙ is in
    subst (λ t. IfOk c.branch_turn-in-Some-false.result (IsTermTurn chains p t))
    (sym (choice_is (form_by chains (form_or p.forms c.args.c.place)) (term_by chains (term_or p.terms c.args.a.place))
    (term_by chains (term_or p.terms c.args.b.place)) (Some false) told)) c.branch_turn-in-Some-false.ensures.turn

pub returns-in-None-clause-turn : goal.returns-in-None-clause-turn
returns-in-None-clause-turn c =
    c.open_turn.ensures.turn (form_by c.args.chains.now (form_or c.args.pool.now.forms c.args.c.place))
    c.in_ok-condition.ensures.known
