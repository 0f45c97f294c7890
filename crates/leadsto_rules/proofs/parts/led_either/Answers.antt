use Rattle.std.proofs.Common.{List, sym, ap, subst, ◌∙◌}
use Rattle.std.specs.Prelude.{IfOk}
use Rattle.core_terms.specs.declared.programs.CSlot.{CSlot}
use Rattle.core_terms.specs.declared.trees.Range.{Range}
use Rattle.core_terms.specs.Folding.{or_form}
use Rattle.safety_rules.specs.Foldable.{IsFoldable}
use Rattle.safety_rules.proofs.UsableLaws.{fits_exist}
use Rattle.leadsto_rules.specs.Leading.{LedFits}
use Rattle.leadsto_rules.proofs.NodeLaws.{claim_fits, both_closed, both_exist, either_exists, foldable}
use Rattle.leadsto_rules.proofs.parts.led_either.Goals as goal

pub either_of-requires-clause-p : goal.either_of-requires-clause-p
either_of-requires-clause-p c =
    subst (λ f. IsFoldable f) (sym c.get-3.ensures)
    (foldable c.args.pl.now.slots.now c.args.ranges.now c.args.t.p c.requires.t.p)

pub either_of-requires-clause-q : goal.either_of-requires-clause-q
either_of-requires-clause-q c =
    let fits : LedFits c.args.pl.now.slots.now c.args.ranges.now c.in_ok-u.u =
    subst (λ r. IfOk r (LedFits c.args.pl.now.slots.now c.args.ranges.now)) c.in_ok-u.was c.requires.u in
    subst (λ f. IsFoldable f) (sym c.get-4.ensures)
    (foldable c.args.pl.now.slots.now c.args.ranges.now c.in_ok-u.u.p fits.p)

pub node-requires : goal.node-requires
node-requires c =
    let slots : List CSlot = c.args.pl.now.slots.now in
    let ranges : List Range = c.args.ranges.now in
    let t = c.args.t in
    let u = c.in_ok-u.u in
    let fits : LedFits slots ranges u = subst (λ r. IfOk r (LedFits slots ranges)) c.in_ok-u.was c.requires.u in
    claim_fits slots ranges
    (c.in_ok-claim.ensures.p ∙ c.in_ok-p.ensures ∙ ap (λ f. or_form f c.get-4.result.now) c.get-3.ensures
    ∙ ap (or_form t.p) c.get-4.ensures) (c.in_ok-claim.ensures.q ∙ c.in_ok-q.ensures)
    c.in_ok-claim.ensures.under c.in_ok-claim.ensures.forms
    (either_exists slots ranges t.p u.p c.requires.t.p fits.p) (fits_exist slots ranges t.q c.requires.t.q)
    (both_closed slots ranges t.under u.under c.requires.t.under fits.under)
    (both_exist slots ranges t.forms u.forms c.requires.t.forms fits.forms)
