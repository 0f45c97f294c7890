use Rattle.executor.proofs.TryingLaws.{chosen_defined}
use Rattle.executor.proofs.trying.can_step.Goals as goal

pub is_step_defined-requires-clause-fits : goal.is_step_defined-requires-clause-fits
is_step_defined-requires-clause-fits c =
    c.requires.fits c.args.choice c.chosen.result.now c.chosen.ensures

pub returns : goal.returns
returns c =
    chosen_defined c.args.slots.now c.args.p.now c.args.choice c.args.state.now c.chosen.result.now
    c.is_step_defined.result c.chosen.ensures c.is_step_defined.ensures
