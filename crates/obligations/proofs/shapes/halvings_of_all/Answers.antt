use Rattle.std.proofs.Common.{arith, ap}
use Rattle.obligations.specs.Plain.{cuts_of, ranges_of}
use Rattle.obligations.proofs.FoldLaws.{drop-end}
use Rattle.obligations.proofs.shapes.halvings_of_all.Goals as goal

pub returns : goal.returns
returns c =
    let none = ap (λ vs. cuts_of (ranges_of vs)) (drop-end c.args.vs.now c.loop-v.v-index c.loop-v-test.false) in
    omega (arith, none, c.loop-v.invariant.rest, c.loop-v.invariant.capped)
