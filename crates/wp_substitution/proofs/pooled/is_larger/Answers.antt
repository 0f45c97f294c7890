use Rattle.std.proofs.Common.{◌≡◌, nat_lt, sym, ap, ◌∙◌}
use Rattle.std.proofs.lemmas.Option.{slice_get-get_or, get_or_from_slice_get}
use Rattle.core_terms.specs.declared.trees.CForm.TheVariants.{Top}
use Rattle.core_terms.specs.Pools.{form_or}
use Rattle.core_terms.specs.Sizes.{form_nodes}
use Rattle.wp_substitution.proofs.OversizedLaws.{capped_larger, looked_larger}
use Rattle.wp_substitution.proofs.pooled.is_larger.Goals as goal

pub returns-then-limit : goal.returns-then-limit
returns-then-limit c =
    let forms = c.args.pool.now.forms in
    let f = form_or forms c.args.id.place in
    capped_larger c.args.limit c.form_size.result (form_nodes f)
    (c.form_size.ensures f (slice_get-get_or forms c.args.id.place Top c.requires)) c.if-limit.true

pub returns : goal.returns
returns c =
    let forms = c.args.pool.now.forms in
    let same : c.in_ok-f.f ≡ form_or forms c.args.id.place =
    sym (get_or_from_slice_get forms c.args.id.place c.in_ok-f.f Top c.in_ok-f.ensures) in
    looked_larger c.size_within.result c.is_none.result c.args.limit (form_nodes c.in_ok-f.f) c.is_none.ensures
    c.size_within.ensures
    ∙ ap (λ f. nat_lt c.args.limit (form_nodes f)) same
