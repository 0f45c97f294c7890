use Rattle.std.proofs.Common.{◌++◌, List, refl, ap, ◌∙◌}
use Rattle.core_terms.specs.declared.programs.CSlot.{CSlot}
use Rattle.core_terms.specs.declared.trees.Range.{Range}
use Rattle.leadsto_rules.proofs.NodeLaws.{claim_fits, both_closed}
use Rattle.leadsto_rules.proofs.cited.beside.Goals as goal

pub node-requires : goal.node-requires
node-requires c =
    let slots : List CSlot = c.args.pl.now.slots.now in
    let ranges : List Range = c.args.ranges.now in
    let t = c.args.t in
    let a = c.args.a.now in
    claim_fits slots ranges c.in_ok-held_form.ensures c.in_ok-held_form-2.ensures
    (c.in_ok-under.ensures ∙ ap (λ fs. t.under ++ fs) (c.in_ok-more_under.ensures ∙ c.as_slice.ensures)) refl
    c.requires.p c.requires.q
    (both_closed slots ranges t.under a.under c.requires.t.under c.requires.record.under) c.requires.t.forms
