use Rattle.std.proofs.Common.{◌++◌, ◌∷◌, [], List, refl, ap, ◌∙◌}
use Rattle.core_terms.specs.declared.programs.CSlot.{CSlot}
use Rattle.core_terms.specs.declared.trees.CForm.{CForm}
use Rattle.core_terms.specs.declared.trees.Range.{Range}
use Rattle.safety_rules.specs.Answers.{site_of}
use Rattle.safety_rules.proofs.UsableLaws.{fits_exist}
use Rattle.leadsto_rules.proofs.InductionLaws.{light, form_exists}
use Rattle.leadsto_rules.proofs.NodeLaws.{node_gives, claim_fits, both_exist, one_exists}
use Rattle.leadsto_rules.proofs.inductions.fallen.Goals as goal

pub lies-requires-clause-light : goal.lies-requires-clause-light
lies-requires-clause-light c = light c.args.pl.now.slots.now c.args.ranges.now c.args.i.now c.requires.induction

pub node-requires : goal.node-requires
node-requires c =
    let slots : List CSlot = c.args.pl.now.slots.now in
    let ranges : List Range = c.args.ranges.now in
    let using : List CForm = c.args.pl.now.using.now in
    let t = c.args.t in
    let i = c.args.i.now in
    claim_fits slots ranges c.in_ok-held_form.ensures c.in_ok-held_form-2.ensures refl
    (c.in_ok-push.ensures.ok ∙ ap (λ f. t.forms ++ f ∷ []) (c.in_ok-owned_form.ensures ∙ c.in_ok-form.ensures))
    (fits_exist slots ranges i.p.now c.requires.induction.p) (fits_exist slots ranges i.q.now c.requires.induction.q)
    c.requires.t.under
    (both_exist slots ranges t.forms (_ ∷ []) c.requires.t.forms
    (one_exists slots ranges _ (form_exists slots ranges using i c.requires.place.using c.requires.induction)))

pub returns-clause-answer : goal.returns-clause-answer
returns-clause-answer c =
    node_gives (site_of c.args.pl.now) c.args.ranges.now c.node.result c.in_ok-held_form.ensures
    c.in_ok-held_form-2.ensures c.rounds_down.ensures refl
    (c.in_ok-push.ensures.ok ∙ ap (λ f. c.args.t.forms ++ f ∷ []) (c.in_ok-owned_form.ensures ∙ c.in_ok-form.ensures))
    c.node.ensures.answer
