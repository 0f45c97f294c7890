use Rattle.std.proofs.Common.{length, rules, ap, ◌∙◌, FitsSigned, w64}
use Rattle.std.proofs.lemmas.Int.{to_z-of_z}
use Rattle.core_terms.specs.Pools.{term_or}
use Rattle.core_terms.specs.Senses.{divided_node}
use Rattle.wp_substitution.specs.Chains.{term_by}
use Rattle.wp_substitution.specs.Numbers.{divided_number}
use Rattle.wp_substitution.proofs.TurnLaws.{divided_turns}
use Rattle.wp_substitution.proofs.turning.divided_turn.Goals as goal

pub returns-clause-turn : goal.returns-clause-turn
returns-clause-turn c =
    let p = c.args.pool.now in
    let t = term_by c.args.chains.now (term_or p.terms c.args.a.place) in
    let k = c.in_ok-part.part in
    let fits : FitsSigned w64 c.args.k = search rules in
    let same = to_z-of_z w64 c.args.k fits in
    divided_turns p c.args.which c.args.k t k c.divided_node-node.result c.divided_number-number.result
    c.in_ok-part.ensures.known
    (c.divided_node-node.ensures.tree p.forms p.terms
    ∙ ap (divided_node c.args.which (term_or p.terms k.id.place)) same)
    (c.divided_node-node.ensures.parts (length p.forms) (length p.terms))
    (c.divided_number-number.ensures ∙ ap (divided_number c.args.which k.number) same)
