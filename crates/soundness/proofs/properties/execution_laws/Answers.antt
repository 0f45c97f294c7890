use Rattle.soundness.proofs.Starts.{executions_exist}
use Rattle.soundness.proofs.properties.execution_laws.Goals as goal

pub returns : goal.returns
returns c = executions_exist
