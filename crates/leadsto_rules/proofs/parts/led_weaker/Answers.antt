use Rattle.std.proofs.Common.{◌++◌, ◌∷◌, [], List, refl, sym, ap, subst, ◌∙◌}
use Rattle.core_terms.specs.declared.programs.CSlot.{CSlot}
use Rattle.core_terms.specs.declared.trees.CForm.{CForm}
use Rattle.core_terms.specs.declared.trees.Range.{Range}
use Rattle.safety_rules.specs.Answers.{site_of}
use Rattle.safety_rules.proofs.UsableLaws.{fits_exist}
use Rattle.safety_rules.specs.Foldable.{IsFoldable}
use Rattle.rules_table.specs.Forms.{imply}
use Rattle.leadsto_rules.proofs.NodeLaws.{node_gives, claim_fits, foldable, both_exist}
use Rattle.leadsto_rules.proofs.NodeLaws.{follows_exist, two_exist, two_pushed}
use Rattle.leadsto_rules.proofs.parts.led_weaker.Goals as goal

pub follows-requires-clause-p : goal.follows-requires-clause-p
follows-requires-clause-p c = foldable c.args.pl.now.slots.now c.args.ranges.now c.args.p.now c.requires.p

pub follows-requires-clause-q : goal.follows-requires-clause-q
follows-requires-clause-q c =
    subst (λ f. IsFoldable f) (sym c.get.ensures)
    (foldable c.args.pl.now.slots.now c.args.ranges.now c.args.t.p c.requires.t.p)

pub follows-requires-2-clause-p : goal.follows-requires-2-clause-p
follows-requires-2-clause-p c =
    subst (λ f. IsFoldable f) (sym c.get-2.ensures)
    (foldable c.args.pl.now.slots.now c.args.ranges.now c.args.t.q c.requires.t.q)

pub follows-requires-2-clause-q : goal.follows-requires-2-clause-q
follows-requires-2-clause-q c = foldable c.args.pl.now.slots.now c.args.ranges.now c.args.q.now c.requires.q

pub node-requires : goal.node-requires
node-requires c =
    let slots : List CSlot = c.args.pl.now.slots.now in
    let ranges : List Range = c.args.ranges.now in
    let using : List CForm = c.args.pl.now.using.now in
    let t = c.args.t in
    let p : CForm = c.args.p.now in
    let q : CForm = c.args.q.now in
    let one : CForm = imply (using ++ p ∷ []) t.p in
    let two : CForm = imply (using ++ t.q ∷ []) q in
    claim_fits slots ranges c.in_ok-held_form.ensures
    c.in_ok-held_form-2.ensures refl
    (two_pushed t.forms c.in_ok-push.ensures.ok c.in_ok-push-2.ensures.ok
    (c.in_ok-owned_form.ensures ∙ c.in_ok-before.ensures ∙ ap (λ f. imply (using ++ p ∷ []) f) c.get.ensures)
    (c.in_ok-owned_form-2.ensures ∙ c.in_ok-after.ensures ∙ ap (λ f. imply (using ++ f ∷ []) q) c.get-2.ensures))
    (fits_exist slots ranges p c.requires.p) (fits_exist slots ranges q c.requires.q) c.requires.t.under
    (both_exist slots ranges t.forms (one ∷ two ∷ []) c.requires.t.forms
    (two_exist slots ranges one two (follows_exist slots ranges using p t.p c.requires.place.using c.requires.p
    c.requires.t.p) (follows_exist slots ranges using t.q q c.requires.place.using c.requires.t.q c.requires.q)))

pub returns-clause-answer : goal.returns-clause-answer
returns-clause-answer c =
    let using : List CForm = c.args.pl.now.using.now in
    let t = c.args.t in
    let p : CForm = c.args.p.now in
    let q : CForm = c.args.q.now in
    node_gives (site_of c.args.pl.now) c.args.ranges.now c.node.result c.in_ok-held_form.ensures
    c.in_ok-held_form-2.ensures c.from.ensures refl
    (two_pushed t.forms c.in_ok-push.ensures.ok c.in_ok-push-2.ensures.ok
    (c.in_ok-owned_form.ensures ∙ c.in_ok-before.ensures ∙ ap (λ f. imply (using ++ p ∷ []) f) c.get.ensures)
    (c.in_ok-owned_form-2.ensures ∙ c.in_ok-after.ensures ∙ ap (λ f. imply (using ++ f ∷ []) q) c.get-2.ensures))
    c.node.ensures.answer
