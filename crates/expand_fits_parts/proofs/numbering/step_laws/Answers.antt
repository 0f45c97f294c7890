use Rattle.expand_fits_parts.proofs.Conditions.TermNumbers.{terms_fit}
use Rattle.expand_fits_parts.proofs.Conditions.ArgumentNumbers.{arguments_fit}
use Rattle.expand_fits_parts.proofs.Conditions.RefArguments.{refs_named}
use Rattle.expand_fits_parts.proofs.Conditions.Arguments.{using_named, rules_named}
use Rattle.expand_fits_parts.proofs.Conditions.StepNames.{steps_have_words}
use Rattle.expand_fits_parts.proofs.numbering.step_laws.Goals as goal

pub returns-clause-words : goal.returns-clause-words
returns-clause-words c = steps_have_words

pub returns-clause-using : goal.returns-clause-using
returns-clause-using c = using_named

pub returns-clause-rules : goal.returns-clause-rules
returns-clause-rules c = rules_named

pub returns-clause-refs : goal.returns-clause-refs
returns-clause-refs c = refs_named

pub returns-clause-numbers : goal.returns-clause-numbers
returns-clause-numbers c = arguments_fit

pub returns-clause-terms : goal.returns-clause-terms
returns-clause-terms c = terms_fit
