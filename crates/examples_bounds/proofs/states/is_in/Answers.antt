use Rattle.examples_bounds.proofs.states.is_in.Goals as goal
use Rattle.examples_bounds.proofs.StateLaws.{wrong_count}

pub returns-then-slots-state : goal.returns-then-slots-state
returns-then-slots-state c = wrong_count c.args.slots.now c.args.state.now c.if-slots-state.true
