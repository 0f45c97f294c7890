use Rattle.fair_rounds.specs.Records.{holding}
use Rattle.trace_watch.proofs.TryLaws.{some_help}
use Rattle.trace_watch.proofs.trying.is_helped.Goals as goal

pub returns : goal.returns
returns c =
    some_help c.args.here.now.slots.now c.args.here.now.program.now (holding c.args.values.now c.args.claim.now.q)
    c.in-Some.choice c.args.here.now.state.now c.args.helper c.gives.result c.in-Some.is c.gives.ensures
