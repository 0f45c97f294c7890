use Rattle.examples_limits.proofs.SwapLaws.{has_step}
use Rattle.examples_limits.proofs.preconditions.swap_is_made.Goals as goal

pub returns : goal.returns
returns c = has_step
