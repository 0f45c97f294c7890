use Rattle.examples_definitions.proofs.StepTrials.{instance_examples}
use Rattle.examples_definitions.proofs.meanings.instance_examples.Goals as goal

pub returns : goal.returns
returns c = instance_examples
