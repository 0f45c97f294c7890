use Rattle.std.proofs.Common.{◌≡◌, ◌<◌, ◌≤◌, ◌^◌, Some, sym, ap, ◌∙◌, subst}
use Rattle.std.proofs.lemmas.Bool.{OnTrue_at, ltb-true, ltb-false}
use Rattle.std.proofs.lemmas.Option.{slice_get_within, get_or_from_slice_get}
use Rattle.core_terms.specs.declared.trees.CForm.{CForm}
use Rattle.core_terms.specs.declared.trees.CForm.TheVariants.{Top}
use Rattle.core_terms.specs.Folding.{truth_of, and_form}
use Rattle.core_terms.specs.Pools.{form_or}
use Rattle.core_terms.specs.Sizes.{form_nodes}
use Rattle.core_terms.specs.Weights.{plain_weight}
use Rattle.wp_substitution.specs.Preconditions.{form_after, wp_form}
use Rattle.wp_substitution.proofs.LightLaws.{wp_light}
use Rattle.wp_substitution.proofs.pooled.wp_put.Goals as goal

pub stays_larger-requires : goal.stays_larger-requires
stays_larger-requires c = c.in_ok-defined.ensures.truth ∙ ap truth_of (sym c.get.ensures)

pub returns-then-stays_larger-clause-too_large : goal.returns-then-stays_larger-clause-too_large
returns-then-stays_larger-clause-too_large c =
    λ e.
    let rest = form_after c.args.s.now.writes (form_or c.args.pool.now.forms c.args.q.place) in
    let larger = OnTrue_at {P = (g : CForm) → c.args.limit < form_nodes (and_form c.get.result.now g)}
    c.if-stays_larger.true c.stays_larger.ensures in
    subst (λ f. c.args.limit < form_nodes (and_form f rest)) (c.get.ensures ∙ c.in_ok-defined.ensures.tree) (larger
    rest)

pub put_before-requires-clause-truth : goal.put_before-requires-clause-truth
put_before-requires-clause-truth c = c.in_ok-defined.ensures.truth ∙ ap truth_of (sym c.get-2.ensures)

pub is_larger-requires : goal.is_larger-requires
is_larger-requires c =
    slice_get_within c.put_before.new.pool.forms c.in_ok-before.before.place _ c.in_ok-before.ensures.tree

pub returns-then-larger-clause-too_large : goal.returns-then-larger-clause-too_large
returns-then-larger-clause-too_large c =
    λ e.
    let old = form_or c.args.pool.now.forms c.args.q.place in
    let forms = c.put_before.new.pool.forms in
    let at = c.in_ok-before.before.place in
    let made = and_form c.get-2.result.now (form_after c.as_slice.result.now old) in
    let whole : made ≡ wp_form c.args.slots.now c.args.s.now old =
    λ i. and_form ((c.get-2.ensures ∙ c.in_ok-defined.ensures.tree) i) (form_after (c.as_slice.ensures i) old) in
    subst (λ f. c.args.limit < form_nodes f) (get_or_from_slice_get forms at made Top c.in_ok-before.ensures.tree ∙
    whole)
    (ltb-true c.args.limit (form_nodes (form_or forms at)) (sym c.in_ok-larger.ensures ∙ c.if-larger.true))

pub returns-clause-tree : goal.returns-clause-tree
returns-clause-tree c =
    let old = form_or c.args.pool.now.forms c.args.q.place in
    let whole : and_form c.get-2.result.now (form_after c.as_slice.result.now old) ≡
    wp_form c.args.slots.now c.args.s.now old =
    λ i. and_form ((c.get-2.ensures ∙ c.in_ok-defined.ensures.tree) i) (form_after (c.as_slice.ensures i) old) in
    c.in_ok-before.ensures.tree ∙ ap (λ f. Some f) whole

pub returns-clause-weight : goal.returns-clause-weight
returns-clause-weight c =
    wp_light c.args.slots.now c.args.s.now (form_or c.args.pool.now.forms c.args.q.place) c.requires.writes
    c.requires.weight (subst (λ f. plain_weight f ≤ 2 ^ 65) c.in_ok-defined.ensures.tree c.in_ok-defined.ensures.weight)

pub returns-clause-within : goal.returns-clause-within
returns-clause-within c =
    let old = form_or c.args.pool.now.forms c.args.q.place in
    let forms = c.put_before.new.pool.forms in
    let at = c.in_ok-before.before.place in
    let made = and_form c.get-2.result.now (form_after c.as_slice.result.now old) in
    let whole : made ≡ wp_form c.args.slots.now c.args.s.now old =
    λ i. and_form ((c.get-2.ensures ∙ c.in_ok-defined.ensures.tree) i) (form_after (c.as_slice.ensures i) old) in
    subst (λ f. form_nodes f ≤ c.args.limit) (get_or_from_slice_get forms at made Top c.in_ok-before.ensures.tree ∙
    whole)
    (ltb-false c.args.limit (form_nodes (form_or forms at)) (sym c.in_ok-larger.ensures ∙ c.if-larger.false))
