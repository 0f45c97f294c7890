use Rattle.std.proofs.Common.{◌≡◌, ◌∙◌, ap, sym, ℤ, Bool, to_z, of_z}
use Rattle.std.proofs.lemmas.Int.{to_z-of_z}
use mir.Syntax.{w128}
use Rattle.core_terms.specs.Values.{form_step}
use Rattle.core_terms.specs.declared.trees.CForm.TheOpen.{CForm-F}
use Rattle.core_terms.specs.declared.trees.CForm.{fold-roll-CForm}
use Rattle.core_terms.specs.declared.trees.CForm.TheVariants.{rolls-AtLeast, rolls-Zero}
use Rattle.core_terms.specs.declared.trees.CForm.TheVariants as form
use Rattle.obligations.specs.Settling as settling
use Rattle.proof_search.proofs.values.+evaluating.Goals as goal

pub least_at-returns-in-Ok : goal.least_at-returns-in-Ok
least_at-returns-in-Ok t c =
    let same : to_z w128 (of_z w128 c.term_at.new.value) ≡ c.term_at.new.value =
    to_z-of_z w128 c.term_at.new.value c.in-Ok.ensures.fits in
    let step : form_step (CForm-F.AtLeast (settling.term_at c.args.at.now.vs.now c.args.at.now.values.now c.args.t.now))
    ≡ settling.form_at c.args.at.now.vs.now c.args.at.now.values.now (form.AtLeast c.args.t.now)
    = sym (ap (settling.form_at c.args.at.now.vs.now c.args.at.now.values.now) (sym (rolls-AtLeast c.args.t.now))
    ∙ fold-roll-CForm Bool ℤ form_step (settling.term_at_step c.args.at.now.vs.now c.args.at.now.values.now)
    (CForm-F.AtLeast c.args.t.now)) in
    c.is_least.ensures ∙ ap (λ z. form_step (CForm-F.AtLeast z)) (same ∙ c.in-Ok.ensures.value) ∙ step

pub zero_at-returns-in-Ok : goal.zero_at-returns-in-Ok
zero_at-returns-in-Ok t c =
    let same : to_z w128 (of_z w128 c.term_at.new.value) ≡ c.term_at.new.value =
    to_z-of_z w128 c.term_at.new.value c.in-Ok.ensures.fits in
    let step : form_step (CForm-F.Zero (settling.term_at c.args.at.now.vs.now c.args.at.now.values.now c.args.t.now))
    ≡ settling.form_at c.args.at.now.vs.now c.args.at.now.values.now (form.Zero c.args.t.now)
    = sym (ap (settling.form_at c.args.at.now.vs.now c.args.at.now.values.now) (sym (rolls-Zero c.args.t.now))
    ∙ fold-roll-CForm Bool ℤ form_step (settling.term_at_step c.args.at.now.vs.now c.args.at.now.values.now)
    (CForm-F.Zero c.args.t.now)) in
    c.is_zero.ensures ∙ ap (λ z. form_step (CForm-F.Zero z)) (same ∙ c.in-Ok.ensures.value) ∙ step
