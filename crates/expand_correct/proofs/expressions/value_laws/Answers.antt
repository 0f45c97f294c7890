use Rattle.expand_correct.proofs.Values.DocumentValues.{core_has_value}
use Rattle.expand_correct.proofs.expressions.value_laws.Goals as goal

pub returns : goal.returns
returns c = core_has_value
