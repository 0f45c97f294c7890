use Rattle.std.proofs.Common.{Some, None, sym, ap, ◌∙◌, rules, subst, FitsSigned, w64}
use Rattle.std.specs.Prelude.{IfOk}
use Rattle.std.proofs.lemmas.Int.{to_z-of_z}
use Rattle.core_terms.specs.declared.trees.CTerm.TheVariants.{Const, Param}
use Rattle.core_terms.specs.declared.nodes.TermNode.{TermNode}
use Rattle.core_terms.specs.declared.known.Dividing.{Dividing}
use Rattle.core_terms.specs.Folding.{scaled_term}
use Rattle.core_terms.specs.Senses.{divided_term}
use Rattle.core_terms.specs.Pools.{form_or, term_or}
use Rattle.wp_substitution.specs.declared.turning.TermTurn.{TermTurn}
use Rattle.wp_substitution.specs.Chains.{term_by}
use Rattle.wp_substitution.specs.Memos.{IsTermTurn}
use Rattle.wp_substitution.proofs.TurnLaws.{term_turned, by-Const, by-Slot, by-Param, by-Add, by-Sub, by-Scale, by-Div}
use Rattle.wp_substitution.proofs.TurnLaws.{by-Mod, by-Ite, constant_turns, param_turns}
use Rattle.wp_substitution.proofs.turning.term_turn.Goals as goal

pub returns-in-Const-clause-turn : goal.returns-in-Const-clause-turn
returns-in-Const-clause-turn c =
    let p = c.args.pool.now in
    let chains = c.args.chains.now in
    let z = c.in-Const.c in
    let fits : FitsSigned w64 z = search rules in
    let turn = c.constant_turn.ensures ∙ ap (λ y. TermTurn.Node (TermNode.Const y) (Some y)) (to_z-of_z w64 z fits) in
    subst (λ t. IsTermTurn chains p t c.constant_turn.result)
    (term_turned chains p c.args.id.place (Const z) (Const z) c.in-Const.ensures.tree (by-Const chains z))
    (subst (λ x. IsTermTurn chains p (Const z) x) (sym turn) (constant_turns p z))

pub returns-in-Slot-clause-turn : goal.returns-in-Slot-clause-turn
returns-in-Slot-clause-turn c =
    term_turned c.args.chains.now c.args.pool.now c.args.id.place _ _ c.in-Slot.ensures.tree
    (by-Slot c.args.chains.now c.in-Slot.n)

pub returns-in-Param-clause-turn : goal.returns-in-Param-clause-turn
returns-in-Param-clause-turn c =
    let p = c.args.pool.now in
    let chains = c.args.chains.now in
    let n = c.in-Param.n in
    subst (λ t. IsTermTurn chains p t (TermTurn.Node (TermNode.Param n) None))
    (term_turned chains p c.args.id.place (Param n) (Param n) c.in-Param.ensures.tree (by-Param chains n))
    (param_turns p n)

pub returns-in-Add-clause-turn : goal.returns-in-Add-clause-turn
returns-in-Add-clause-turn c =
    let p = c.args.pool.now in
    subst (λ t. IfOk c.pair_turn.result (IsTermTurn c.args.chains.now p t))
    (term_turned c.args.chains.now p c.args.id.place _ _ c.in-Add.ensures.tree (by-Add c.args.chains.now
    (term_or p.terms c.in-Add.a.place) (term_or p.terms c.in-Add.b.place))) c.pair_turn.ensures.turn

pub returns-in-Sub-clause-turn : goal.returns-in-Sub-clause-turn
returns-in-Sub-clause-turn c =
    let p = c.args.pool.now in
    subst (λ t. IfOk c.pair_turn-in-Sub.result (IsTermTurn c.args.chains.now p t))
    (term_turned c.args.chains.now p c.args.id.place _ _ c.in-Sub.ensures.tree (by-Sub c.args.chains.now
    (term_or p.terms c.in-Sub.a.place) (term_or p.terms c.in-Sub.b.place))) c.pair_turn-in-Sub.ensures.turn

pub returns-in-Scale-clause-turn : goal.returns-in-Scale-clause-turn
returns-in-Scale-clause-turn c =
    let p = c.args.pool.now in
    let chains = c.args.chains.now in
    let k = c.in-Scale.k in
    let t = term_or p.terms c.in-Scale.a.place in
    let fits : FitsSigned w64 k = search rules in
    let turn = subst (λ z. IfOk c.multiple_turn.result (IsTermTurn chains p (scaled_term z (term_by chains t))))
    (to_z-of_z w64 k fits) c.multiple_turn.ensures.turn in
    subst (λ u. IfOk c.multiple_turn.result (IsTermTurn chains p u))
    (term_turned chains p c.args.id.place _ _ c.in-Scale.ensures.tree (by-Scale chains k t)) turn

pub returns-in-Div-clause-turn : goal.returns-in-Div-clause-turn
returns-in-Div-clause-turn c =
    let p = c.args.pool.now in
    let chains = c.args.chains.now in
    let k = c.in-Div.k in
    let t = term_or p.terms c.in-Div.a.place in
    let fits : FitsSigned w64 k = search rules in
    let turn = subst (λ z. IfOk c.divided_turn.result
    (IsTermTurn chains p (divided_term Dividing.Quotient z (term_by chains t)))) (to_z-of_z w64 k fits)
    c.divided_turn.ensures.turn in
    subst (λ u. IfOk c.divided_turn.result (IsTermTurn chains p u))
    (term_turned chains p c.args.id.place _ _ c.in-Div.ensures.tree (by-Div chains t k)) turn

pub returns-in-Mod-clause-turn : goal.returns-in-Mod-clause-turn
returns-in-Mod-clause-turn c =
    let p = c.args.pool.now in
    let chains = c.args.chains.now in
    let k = c.in-Mod.k in
    let t = term_or p.terms c.in-Mod.a.place in
    let fits : FitsSigned w64 k = search rules in
    let turn = subst (λ z. IfOk c.divided_turn-in-Mod.result
    (IsTermTurn chains p (divided_term Dividing.Remainder z (term_by chains t)))) (to_z-of_z w64 k fits)
    c.divided_turn-in-Mod.ensures.turn in
    subst (λ u. IfOk c.divided_turn-in-Mod.result (IsTermTurn chains p u))
    (term_turned chains p c.args.id.place _ _ c.in-Mod.ensures.tree (by-Mod chains t k)) turn

pub returns-in-Ite-clause-turn : goal.returns-in-Ite-clause-turn
returns-in-Ite-clause-turn c =
    let p = c.args.pool.now in
    subst (λ t. IfOk c.choice_turn.result (IsTermTurn c.args.chains.now p t))
    (term_turned c.args.chains.now p c.args.id.place _ _ c.in-Ite.ensures.tree (by-Ite c.args.chains.now
    (form_or p.forms c.in-Ite.c.place) (term_or p.terms c.in-Ite.a.place)
    (term_or p.terms c.in-Ite.b.place))) c.choice_turn.ensures.turn
