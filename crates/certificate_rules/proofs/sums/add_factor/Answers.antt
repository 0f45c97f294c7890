use Rattle.std.proofs.Common.{◌∙◌, ap, arith, slice_set}
use Rattle.std.proofs.lemmas.Int.{to_z-of_z}
use mir.Syntax.{w128}
use Rattle.obligations.proofs.LinearLaws.{set-add, past-add}
use Rattle.certificate_rules.proofs.sums.add_factor.Goals as goal

pub returns-then-place-len : goal.returns-then-place-len
returns-then-place-len c =
    c.replace.ensures.rest ∙ ap (slice_set c.args.sum.now c.args.place) (to_z-of_z w128 c.args.total c.ranges.total)
    ∙ set-add _ _ _ _ c.requires (grind arith)

pub returns-else-place-len : goal.returns-else-place-len
returns-else-place-len c = past-add _ _ _ (grind arith)
