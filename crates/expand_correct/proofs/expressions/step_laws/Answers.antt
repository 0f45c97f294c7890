use Rattle.expand_correct.proofs.Values.DocumentSteps.{core_has_step}
use Rattle.expand_correct.proofs.expressions.step_laws.Goals as goal

pub returns : goal.returns
returns c = core_has_step
