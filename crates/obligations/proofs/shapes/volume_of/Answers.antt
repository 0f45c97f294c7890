use Rattle.std.proofs.Common.{◌*◌, ◌^◌, arith, ap}
use Rattle.obligations.specs.Plain.{volume, ranges_of}
use Rattle.obligations.proofs.FoldLaws.{drop-end}
use Rattle.obligations.proofs.PlainLaws.{volume-more}
use Rattle.obligations.proofs.shapes.volume_of.Goals as goal

pub loop-v-preserved : goal.loop-v-preserved
loop-v-preserved c = record {
  capped = omega (arith, c.times-total.ensures);
  rest =
      volume-more (2 ^ 127) c.args.vs.now c.loop-v.v-index _ c.loop-v.total c.times-total.result
      c.size_of_range.result _ c.loop-v-test.true c.size_of_range.ensures.value c.times-total.ensures
      c.loop-v.invariant.rest;
}

pub returns : goal.returns
returns c =
    let none = ap (λ vs. c.loop-v.total * volume (ranges_of vs))
    (drop-end c.args.vs.now c.loop-v.v-index c.loop-v-test.false) in
    omega (arith, none, c.loop-v.invariant.rest, c.loop-v.invariant.capped)
