use Rattle.expand_correct.proofs.Declared.Agreed.{variables_agree, words_agree, ranges_agree, counts_agree}
use Rattle.expand_correct.proofs.declarations.agreement_laws.Goals as goal

pub returns-clause-variables : goal.returns-clause-variables
returns-clause-variables c = variables_agree

pub returns-clause-words : goal.returns-clause-words
returns-clause-words c = words_agree

pub returns-clause-ranges : goal.returns-clause-ranges
returns-clause-ranges c = ranges_agree

pub returns-clause-counts : goal.returns-clause-counts
returns-clause-counts c = counts_agree
