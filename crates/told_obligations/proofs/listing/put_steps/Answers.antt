use Rattle.told_obligations.specs.Listing.{told_in}
use Rattle.told_obligations.proofs.ListingLaws.{take_one, told_none, told_same, told_then}
use Rattle.told_obligations.proofs.listing.put_steps.Goals as goal

pub loop-step-init : goal.loop-step-init
loop-step-init g c =
    told_none (told_in c.args.listing.now) c.args.from (g.K.Sink.written c.args.out.now)
    (g.K.Sink.faults c.args.out.now) c.args.text.now

pub loop-step-preserved : goal.loop-step-preserved
loop-step-preserved g c =
    told_same (take_one c.args.steps.now c.loop-step.step-index c.step-item.result c.loop-step-test.true c.step-item.is)
    (told_then c.loop-step.invariant c.put_step-at.ensures)
