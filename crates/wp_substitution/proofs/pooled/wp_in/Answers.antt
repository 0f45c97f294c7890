use Rattle.std.proofs.Common.{◌≡◌, ◌<◌, ◌≤◌, ◌^◌, length, Some, sym, ◌∙◌, subst}
use Rattle.std.specs.Prelude.{slice_get, IfOk, IfErr}
use Rattle.std.proofs.lemmas.Option.{slice_get-get_or, slice_get_within, get_or_from_slice_get}
use Rattle.std.proofs.lemmas.Result.{IfOk-weaker}
use Rattle.core_terms.specs.declared.trees.CForm.{CForm}
use Rattle.core_terms.specs.declared.trees.CForm.TheVariants.{Top}
use Rattle.core_terms.specs.Sizes.{form_nodes}
use Rattle.core_terms.specs.Weights.{plain_weight}
use Rattle.core_terms.specs.Places.{form_slots, form_params}
use Rattle.core_terms.specs.Pools.{form_or}
use Rattle.wp_substitution.specs.declared.pooled.WpError.{WpError}
use Rattle.wp_substitution.specs.Preconditions.{wp_form}
use Rattle.wp_substitution.specs.Exact.{HoldsBefore}
use Rattle.wp_substitution.proofs.ExactLaws.{precondition}
use Rattle.wp_substitution.proofs.LightLaws.{outside_light, writes_light}
use Rattle.wp_substitution.proofs.MemoLaws.{from_both}
use Rattle.wp_substitution.proofs.NamedLaws.{wp_slots, wp_params}
use Rattle.wp_substitution.proofs.pooled.wp_in.Goals as goal

same_tree : (f g : CForm) → Some f ≡ Some g → f ≡ g
same_tree f g e = cc

pub wp_put-requires-clause-outside : goal.wp_put-requires-clause-outside
wp_put-requires-clause-outside c = outside_light c.args.slots.now c.args.s.now c.requires.statement

pub wp_put-requires-clause-writes : goal.wp_put-requires-clause-writes
wp_put-requires-clause-writes c = writes_light c.args.slots.now c.args.s.now c.requires.statement

pub wp_put-requires-clause-weight : goal.wp_put-requires-clause-weight
wp_put-requires-clause-weight c =
    let forms = c.args.pool.now.forms in
    c.requires.weight (form_or forms c.args.q.place) (slice_get-get_or forms c.args.q.place Top c.requires.id)

pub returns-clause-id : goal.returns-clause-id
returns-clause-id c =
    let f = wp_form c.args.slots.now c.args.s.now (form_or c.args.pool.now.forms c.args.q.place) in
    IfOk-weaker c.wp_put.result _ _ (λ id e. slice_get_within c.wp_put.new.pool.forms id.place f e)
    c.wp_put.ensures.tree

pub returns-clause-tree : goal.returns-clause-tree
returns-clause-tree c =
    λ f there.
    let same = get_or_from_slice_get c.args.pool.now.forms c.args.q.place f Top there in
    subst (λ q. IfOk c.wp_put.result (λ id. slice_get c.wp_put.new.pool.forms id.place ≡
    Some (wp_form c.args.slots.now c.args.s.now q))) same c.wp_put.ensures.tree

pub returns-clause-meaning : goal.returns-clause-meaning
returns-clause-meaning c =
    λ f there.
    let slots = c.args.slots.now in
    let s = c.args.s.now in
    IfOk-weaker c.wp_put.result _ _ (λ id e g here.
    subst (λ h. HoldsBefore slots s f h) (same_tree (wp_form slots s f) g (sym e ∙ here))
    (precondition slots s f c.requires.statement)) (returns-clause-tree c f there)

pub returns-clause-weight : goal.returns-clause-weight
returns-clause-weight c =
    let slots = c.args.slots.now in
    let s = c.args.s.now in
    let f = form_or c.args.pool.now.forms c.args.q.place in
    from_both c.wp_put.result _ _ _ (λ id w e g here.
    subst (λ h. plain_weight h ≤ 2 ^ 125) (same_tree (wp_form slots s f) g (sym e ∙ here)) w)
    c.wp_put.ensures.weight c.wp_put.ensures.tree

pub returns-clause-slots : goal.returns-clause-slots
returns-clause-slots c =
    let slots = c.args.slots.now in
    let s = c.args.s.now in
    let f = form_or c.args.pool.now.forms c.args.q.place in
    let there = slice_get-get_or c.args.pool.now.forms c.args.q.place Top c.requires.id in
    IfOk-weaker c.wp_put.result _ _ (λ id e g here.
    subst (λ h. form_slots h ≤ length slots) (same_tree (wp_form slots s f) g (sym e ∙ here))
    (wp_slots slots s f c.requires.statement (c.requires.slots_exist f there))) c.wp_put.ensures.tree

pub returns-clause-params : goal.returns-clause-params
returns-clause-params c =
    λ f there.
    let slots = c.args.slots.now in
    let s = c.args.s.now in
    IfOk-weaker c.wp_put.result _ _ (λ id e g here.
    subst (λ h. form_params h ≤ form_params f) (same_tree (wp_form slots s f) g (sym e ∙ here))
    (wp_params slots s f c.requires.statement)) (returns-clause-tree c f there)

pub returns-clause-within : goal.returns-clause-within
returns-clause-within c =
    λ f there.
    let same = get_or_from_slice_get c.args.pool.now.forms c.args.q.place f Top there in
    subst (λ q. IfOk c.wp_put.result (λ id. form_nodes (wp_form c.args.slots.now c.args.s.now q) ≤ c.args.limit)) same
    c.wp_put.ensures.within

pub returns-clause-too_large : goal.returns-clause-too_large
returns-clause-too_large c =
    λ f there.
    let same = get_or_from_slice_get c.args.pool.now.forms c.args.q.place f Top there in
    subst (λ q. IfErr c.wp_put.result (λ e. e ≡ WpError.TooLarge →
    c.args.limit < form_nodes (wp_form c.args.slots.now c.args.s.now q))) same c.wp_put.ensures.too_large
