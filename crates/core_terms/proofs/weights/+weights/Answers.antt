use Rattle.std.proofs.Common.{◌≡◌, ◌∙◌, ◌^◌, min, subst, rules, to_z, of_z, FitsSigned, w64}
use Rattle.std.proofs.lemmas.Int.{to_z-of_z}
use Rattle.core_terms.specs.Weights.{term_weights, slot_weight, place_weight}
use Rattle.core_terms.proofs.CapLaws.{scaled_own, scaled_most}
use Rattle.core_terms.proofs.weights.+weights.Goals as goal

pub weigh_term-returns-in-Scale-clause-own : goal.weigh_term-returns-in-Scale-clause-own
weigh_term-returns-in-Scale-clause-own t c =
    let fits : FitsSigned w64 c.in-Scale.k = search rules in
    let slots = slot_weight c.args.slots.now in
    let params = place_weight c.args.params.now in
    let own = subst (λ x. c.weigh_term.result.0 ≡ min (term_weights slots params x).own (2 ^ 63))
    c.get.ensures c.weigh_term.ensures.own in
    c.multiple.ensures.own
    ∙ scaled_own slots params c.in-Scale.k (to_z w64 (of_z w64 c.in-Scale.k)) c.args.t.now c.in-Scale.a c.in-Scale.is
    (to_z-of_z w64 c.in-Scale.k fits) _ own

pub weigh_term-returns-in-Scale-clause-most : goal.weigh_term-returns-in-Scale-clause-most
weigh_term-returns-in-Scale-clause-most t c =
    let fits : FitsSigned w64 c.in-Scale.k = search rules in
    let slots = slot_weight c.args.slots.now in
    let params = place_weight c.args.params.now in
    let own = subst (λ x. c.weigh_term.result.0 ≡ min (term_weights slots params x).own (2 ^ 63))
    c.get.ensures c.weigh_term.ensures.own in
    let most = subst (λ x. c.weigh_term.result.1 ≡ min (term_weights slots params x).most (2 ^ 63))
    c.get.ensures c.weigh_term.ensures.most in
    c.multiple.ensures.most
    ∙ scaled_most slots params c.in-Scale.k (to_z w64 (of_z w64 c.in-Scale.k)) c.args.t.now c.in-Scale.a c.in-Scale.is
    (to_z-of_z w64 c.in-Scale.k fits) _ _ own most
