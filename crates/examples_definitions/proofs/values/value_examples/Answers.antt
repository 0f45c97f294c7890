use Rattle.examples_definitions.proofs.ValueTrials.{slot_examples, name_examples, bound_name_examples, element_examples}
use Rattle.examples_definitions.proofs.ValueTrials.{quantifier_examples}
use Rattle.examples_definitions.proofs.values.value_examples.Goals as goal

pub returns-clause-slots : goal.returns-clause-slots
returns-clause-slots c = slot_examples

pub returns-clause-names : goal.returns-clause-names
returns-clause-names c = name_examples

pub returns-clause-bound_names : goal.returns-clause-bound_names
returns-clause-bound_names c = bound_name_examples

pub returns-clause-elements : goal.returns-clause-elements
returns-clause-elements c = element_examples

pub returns-clause-quantifiers : goal.returns-clause-quantifiers
returns-clause-quantifiers c = quantifier_examples
