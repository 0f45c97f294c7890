use Rattle.std.proofs.Common.{arith, ap}
use Rattle.obligations.specs.Certificates.{units}
use Rattle.obligations.proofs.FoldLaws.{drop-end}
use Rattle.obligations.proofs.certificates.units.Goals as goal

pub returns : goal.returns
returns c =
    let none = ap units (drop-end c.as_slice-nodes.result.now c.loop-node.node-index c.loop-node-test.false) in
    let same = ap units c.as_slice-nodes.ensures in
    omega (arith, none, same, c.loop-node.invariant.rest, c.loop-node.invariant.fits)
