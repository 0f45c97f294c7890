use Rattle.std.proofs.Common.{◌++◌, ◌∷◌, [], List, ap, ◌∙◌}
use Rattle.std.proofs.lemmas.List.Elements.{All-nil}
use Rattle.core_terms.specs.Conditions.{FormFits}
use Rattle.core_terms.specs.declared.programs.CSlot.{CSlot}
use Rattle.core_terms.specs.declared.trees.CForm.{CForm}
use Rattle.core_terms.specs.declared.trees.Range.{Range}
use Rattle.safety_rules.proofs.UsableLaws.{fits_exist}
use Rattle.rules_table.specs.Forms.{imply}
use Rattle.leadsto_rules.proofs.NodeLaws.{foldable, claim_fits, follows_exist, one_exists}
use Rattle.leadsto_rules.proofs.parts.led_by.Goals as goal

pub follows-requires-clause-p : goal.follows-requires-clause-p
follows-requires-clause-p c = foldable c.args.pl.now.slots.now c.args.ranges.now c.args.p.now c.requires.p

pub follows-requires-clause-q : goal.follows-requires-clause-q
follows-requires-clause-q c = foldable c.args.pl.now.slots.now c.args.ranges.now c.args.q.now c.requires.q

pub node-requires : goal.node-requires
node-requires c =
    let slots : List CSlot = c.args.pl.now.slots.now in
    let ranges : List Range = c.args.ranges.now in
    let using : List CForm = c.args.pl.now.using.now in
    let p : CForm = c.args.p.now in
    let q : CForm = c.args.q.now in
    claim_fits slots ranges {under = []} {forms = imply (using ++ p ∷ []) q ∷ []} c.in_ok-held_form.ensures
    c.in_ok-held_form-2.ensures c.new.ensures
    (c.in_ok-push.ensures.ok ∙ ap (λ fs. fs ++ c.in_ok-owned_form.field-0 ∷ []) c.new-forms.ensures
    ∙ ap (λ f. f ∷ []) (c.in_ok-owned_form.ensures ∙ c.in_ok-form.ensures))
    (fits_exist slots ranges p c.requires.p) (fits_exist slots ranges q c.requires.q) (All-nil (FormFits slots []))
    (one_exists slots ranges _ (follows_exist slots ranges using p q c.requires.place.using c.requires.p c.requires.q))
