use Rattle.examples_definitions.proofs.DivisionTrials.{division_examples}
use Rattle.examples_definitions.proofs.values.division_examples.Goals as goal

pub returns : goal.returns
returns c = division_examples
