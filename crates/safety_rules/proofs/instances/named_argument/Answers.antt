use Rattle.std.proofs.Common.{◌≡◌, Some, ap, sym, subst, ◌∙◌, slice_index_or, pos, w64}
use Rattle.std.proofs.lemmas.Int.{to_z-of_z}
use Rattle.core_terms.specs.declared.trees.Range.{Range}
use Rattle.rules_table.specs.Table.{lies_in}
use Rattle.safety_rules.proofs.ArgumentLaws.{got_within, got_past}
use Rattle.safety_rules.proofs.instances.named_argument.Goals as goal

pub returns-then-name-ranges : goal.returns-then-name-ranges
returns-then-name-ranges c =
    let d : Range = record { lo = pos 0; hi = pos 0 } in
    let given : c.contains.result ≡ lies_in c.args.range (Some
    (slice_index_or c.args.ranges.now c.args.name d)) c.args.add =
    subst (λ a. c.contains.result ≡ lies_in c.args.range (Some (slice_index_or c.args.ranges.now c.args.name d)) a)
    (to_z-of_z w64 c.args.add c.ranges.add) c.contains.ensures in
    given ∙ sym (ap (λ o. lies_in c.args.range o c.args.add)
    (got_within c.args.ranges.now c.args.name d c.if-name-ranges.true))

pub returns-else-name-ranges : goal.returns-else-name-ranges
returns-else-name-ranges c =
    sym (ap (λ o. lies_in c.args.range o c.args.add) (got_past c.args.ranges.now c.args.name c.if-name-ranges.false))
