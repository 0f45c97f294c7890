use Rattle.meaning_laws.proofs.ExampleTrials.{counter_is_safe, counter_helped, counter_arrives, union_of_two}
use Rattle.meaning_laws.proofs.ExampleTrials.{counters_alike}
use Rattle.meaning_laws.proofs.law_examples.Goals as goal

pub returns-clause-safe : goal.returns-clause-safe
returns-clause-safe c = counter_is_safe

pub returns-clause-ensured : goal.returns-clause-ensured
returns-clause-ensured c = counter_helped

pub returns-clause-leads : goal.returns-clause-leads
returns-clause-leads c = counter_arrives

pub returns-clause-union : goal.returns-clause-union
returns-clause-union c = union_of_two

pub returns-clause-alike : goal.returns-clause-alike
returns-clause-alike c = counters_alike
