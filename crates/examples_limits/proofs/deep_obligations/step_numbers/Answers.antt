use Rattle.examples_limits.proofs.CountLaws.{has-numbers}
use Rattle.examples_limits.proofs.deep_obligations.step_numbers.Goals as goal

pub returns : goal.returns
returns c = has-numbers
