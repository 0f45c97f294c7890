use Rattle.std.proofs.Common.{take}
use Rattle.told_obligations.specs.Listing.{told_in}
use Rattle.told_obligations.specs.Following.{IsTold}
use Rattle.told_obligations.proofs.listing.put_steps.Given as goal

abbrev pub invariant-loop-step : goal.invariant-loop-step
invariant-loop-step g l =
    IsTold (told_in l.listing) l.fn.from l.at (take l.step-index l.steps) (g.K.Sink.written l.initial.out)
    (g.K.Sink.written l.out) (g.K.Sink.faults l.initial.out) (g.K.Sink.faults l.out) l.initial.text l.text
