use Rattle.std.proofs.Common.{◌≤◌, ◌^◌, List, sym, subst, ap, ◌∙◌, arith}
use Rattle.core_terms.specs.declared.trees.Range.{Range}
use Rattle.core_terms.specs.declared.trees.CForm.{CForm}
use Rattle.core_terms.specs.declared.programs.CSlot.{CSlot}
use Rattle.core_terms.specs.Folding.{not_form}
use Rattle.core_terms.specs.Weights.{plain_weight}
use Rattle.safety_rules.proofs.UsableLaws.{usable, both_usable, light_not}
use Rattle.safety_rules.proofs.JoinLaws.{premises_are, all_foldable}
use Rattle.safety_rules.proofs.meanings.premises.Goals as goal

pub not_form-requires : goal.not_form-requires
not_form-requires c =
    let light = (usable c.args.pl.now.slots.now c.args.pl.now.params.now c.args.q.now c.requires.q).light in
    subst (λ f. plain_weight f ≤ 2 ^ 126) (sym c.in_ok-copy_form.ensures) (omega (arith, light))

pub add_equations-requires-clause-foldable : goal.add_equations-requires-clause-foldable
add_equations-requires-clause-foldable c =
    let slots : List CSlot = c.args.pl.now.slots.now in
    let params : List Range = c.args.pl.now.params.now in
    let using : List CForm = c.args.pl.now.using.now in
    let p : CForm = c.args.p.now in
    let q : CForm = c.args.q.now in
    all_foldable slots params c.push.new.self
    (both_usable slots params using p (not_form q) c.push.new.self
    (premises_are using c.in_ok-all.all c.push.new.self p c.in_ok-not_form.field-0 (not_form q) c.in_ok-all.ensures
    (c.in_ok-not_form.ensures.tree ∙ ap not_form c.in_ok-copy_form.ensures) c.in_ok-push.ensures.ok)
    c.requires.place.using (usable slots params p c.requires.p)
    (light_not slots params q (usable slots params q c.requires.q)))
