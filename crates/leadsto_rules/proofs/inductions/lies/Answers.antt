use Rattle.std.proofs.Common.{◌++◌, ◌∷◌, [], List, ap, ◌∙◌, arith}
use Rattle.std.proofs.lemmas.Result.{IfOk-weaker}
use Rattle.core_terms.specs.Folding.{and_form, not_form}
use Rattle.core_terms.specs.Weights.{plain_weight}
use Rattle.core_terms.specs.declared.trees.CForm.{CForm}
use Rattle.safety_rules.specs.Foldable.{IsFoldable}
use Rattle.safety_rules.proofs.JoinLaws.{premises_are}
use Rattle.rules_table.specs.Forms.{imply}
use Rattle.leadsto_rules.proofs.InductionLaws.{premises_foldable}
use Rattle.leadsto_rules.proofs.NodeLaws.{some_premise}
use Rattle.leadsto_rules.proofs.inductions.lies.Goals as goal

pub implied-requires-clause-premises : goal.implied-requires-clause-premises
implied-requires-clause-premises c =
    let light = c.requires.light.q in
    let p_light = c.requires.light.p in
    let less = c.in_ok-not_form.ensures.weight in
    let same = ap plain_weight c.in_ok-copy_form.ensures in
    let other : IsFoldable c.in_ok-not_form.field-0 = omega (arith, light, less, same) in
    let own : IsFoldable c.args.i.now.p.now = omega (arith, p_light) in
    premises_foldable c.args.pl.now.slots.now c.args.pl.now.using.now c.in_ok-premises.premises c.as_slice.result.now
    c.args.i.now.p.now c.in_ok-not_form.field-0 c.in_ok-premises.ensures (c.as_slice.ensures ∙ c.in_ok-push.ensures.ok)
    c.requires.place.using own other

pub implied-requires-clause-some : goal.implied-requires-clause-some
implied-requires-clause-some c =
    some_premise c.in_ok-premises.premises c.as_slice.result.now c.in_ok-not_form.field-0
    (c.as_slice.ensures ∙ c.in_ok-push.ensures.ok)

pub returns : goal.returns
returns c =
    let using : List CForm = c.args.pl.now.using.now in
    let p : CForm = c.args.i.now.p.now in
    let q : CForm = c.args.i.now.q.now in
    let are = premises_are using c.in_ok-premises.premises c.as_slice.result.now p c.in_ok-not_form.field-0 (not_form q)
    c.in_ok-premises.ensures (c.in_ok-not_form.ensures.tree ∙ ap not_form c.in_ok-copy_form.ensures)
    (c.as_slice.ensures ∙ c.in_ok-push.ensures.ok) in
    let within = c.in_ok-within.ensures.tree ∙ ap (λ f. and_form f c.in_ok-high.high) c.in_ok-low.ensures.tree
    ∙ ap (and_form _) c.in_ok-high.ensures.tree in
    let tree = ap (λ fs. imply fs c.in_ok-within.within) are
    ∙ ap (imply (using ++ (p ∷ not_form q ∷ []))) within in
    IfOk-weaker c.implied.result _ _ (λ f h. h ∙ tree) c.implied.ensures
