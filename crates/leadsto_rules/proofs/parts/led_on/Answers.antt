use Rattle.std.proofs.Common.{List, subst, ◌∙◌}
use Rattle.std.specs.Prelude.{IfOk}
use Rattle.core_terms.specs.declared.programs.CSlot.{CSlot}
use Rattle.core_terms.specs.declared.trees.Range.{Range}
use Rattle.safety_rules.proofs.UsableLaws.{fits_exist}
use Rattle.leadsto_rules.specs.Leading.{LedFits}
use Rattle.leadsto_rules.proofs.NodeLaws.{claim_fits, both_closed, both_exist}
use Rattle.leadsto_rules.proofs.parts.led_on.Goals as goal

pub node-requires : goal.node-requires
node-requires c =
    let slots : List CSlot = c.args.pl.now.slots.now in
    let ranges : List Range = c.args.ranges.now in
    let t = c.args.t in
    let u = c.in_ok-u.u in
    let fits : LedFits slots ranges u = subst (λ r. IfOk r (LedFits slots ranges)) c.in_ok-u.was c.requires.u in
    claim_fits slots ranges (c.in_ok-claim.ensures.p ∙ c.in_ok-p.ensures) (c.in_ok-claim.ensures.q ∙ c.in_ok-q.ensures)
    c.in_ok-claim.ensures.under c.in_ok-claim.ensures.forms
    (fits_exist slots ranges t.p c.requires.t.p) (fits_exist slots ranges u.q fits.q)
    (both_closed slots ranges t.under u.under c.requires.t.under fits.under)
    (both_exist slots ranges t.forms u.forms c.requires.t.forms fits.forms)
