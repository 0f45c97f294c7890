use Rattle.examples_definitions.proofs.OperatorTrials.{comparison_examples, connective_examples, arithmetic_examples}
use Rattle.examples_definitions.proofs.OperatorTrials.{range_examples}
use Rattle.examples_definitions.proofs.values.operator_examples.Goals as goal

pub returns-clause-comparisons : goal.returns-clause-comparisons
returns-clause-comparisons c = comparison_examples

pub returns-clause-connectives : goal.returns-clause-connectives
returns-clause-connectives c = connective_examples

pub returns-clause-arithmetic : goal.returns-clause-arithmetic
returns-clause-arithmetic c = arithmetic_examples

pub returns-clause-ranges : goal.returns-clause-ranges
returns-clause-ranges c = range_examples
