use Rattle.examples_definitions.proofs.ProgramTrials.{union_examples, round_examples}
use Rattle.examples_definitions.proofs.meanings.program_examples.Goals as goal

pub returns-clause-unions : goal.returns-clause-unions
returns-clause-unions c = union_examples

pub returns-clause-rounds : goal.returns-clause-rounds
returns-clause-rounds c = round_examples
