use Rattle.std.proofs.Common.{◌≡◌, Some, ap, ◌∙◌, subst}
use Rattle.core_terms.specs.Folding.{number_of}
use Rattle.core_terms.specs.Pools.{term_or}
use Rattle.wp_substitution.specs.Chains.{chain_at, term_by}
use Rattle.wp_substitution.specs.Memos.{IsTermTurn}
use Rattle.wp_substitution.proofs.MemoLaws.{from_both}
use Rattle.wp_substitution.proofs.nodes.put_term_turn.Goals as goal

pub put_node_turn-requires-clause-turn : goal.put_node_turn-requires-clause-turn
put_node_turn-requires-clause-turn c =
    let p = c.args.pool.now in
    subst (IsTermTurn c.args.chains.now p (term_by c.args.chains.now (term_or p.terms c.args.id.place))) c.in-Node.is
    c.requires.turn

pub returns-in-Term-clause-known : goal.returns-in-Term-clause-known
returns-in-Term-clause-known c =
    let p = c.args.pool.now in
    subst (IsTermTurn c.args.chains.now p (term_by c.args.chains.now (term_or p.terms c.args.id.place))) c.in-Term.is
    c.requires.turn

pub returns-in-Slot-clause-known : goal.returns-in-Slot-clause-known
returns-in-Slot-clause-known c =
    let p = c.args.pool.now in
    let t = term_by c.args.chains.now (term_or p.terms c.args.id.place) in
    let same : chain_at c.args.chains.now c.in-Slot.slot ≡ t =
    subst (IsTermTurn c.args.chains.now p t) c.in-Slot.is c.requires.turn in
    from_both c.put_slot.result _ _ _
    (λ k there e. record { tree = there ∙ ap (λ x. Some x) same; number = e ∙ ap number_of same })
    c.put_slot.ensures.tree c.put_slot.ensures.number
