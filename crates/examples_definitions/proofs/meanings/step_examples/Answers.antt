use Rattle.examples_definitions.proofs.StepTrials.{at_once_examples, alternative_examples, outside_examples}
use Rattle.examples_definitions.proofs.meanings.step_examples.Goals as goal

pub returns-clause-at_once : goal.returns-clause-at_once
returns-clause-at_once c = at_once_examples

pub returns-clause-alternatives : goal.returns-clause-alternatives
returns-clause-alternatives c = alternative_examples

pub returns-clause-outside : goal.returns-clause-outside
returns-clause-outside c = outside_examples
