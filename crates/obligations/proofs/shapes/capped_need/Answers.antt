use Rattle.std.proofs.Common.{◌*◌, ◌^◌, min, length, ap, ◌∙◌}
use Rattle.obligations.specs.Shapes.{shapes}
use Rattle.obligations.specs.Plain.{volume, ranges_of, leaf_units}
use Rattle.obligations.proofs.FoldLaws.{product-capped}
use Rattle.obligations.proofs.shapes.capped_need.Goals as goal

pub returns : goal.returns
returns c =
    let vs = c.as_slice-vs.ensures in
    let first = product-capped (2 ^ 127) (shapes c.args.o.now.form).no.leaves
    (volume (ranges_of c.as_slice-vs.result.now)) c.form_leaves.result.1 c.volume_of.result
    c.times-leaves.result c.form_leaves.ensures.no c.volume_of.ensures c.times-leaves.ensures in
    let whole = product-capped (2 ^ 127)
    ((shapes c.args.o.now.form).no.leaves * volume (ranges_of c.as_slice-vs.result.now))
    (leaf_units (length c.as_slice-vs.result.now) (shapes c.args.o.now.form).no.quotients)
    c.times-leaves.result c.capped_units.result c.times.result first
    (c.capped_units.ensures (shapes c.args.o.now.form).no.quotients c.form_counts.ensures.no) c.times.ensures in
    whole ∙ ap (λ xs. min (((shapes c.args.o.now.form).no.leaves * volume (ranges_of xs))
    * leaf_units (length xs) (shapes c.args.o.now.form).no.quotients) (2 ^ 127)) vs
