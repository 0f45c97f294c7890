use Rattle.expand_correct.proofs.Declared.Found.{words_found, numbers_tell}
use Rattle.expand_correct.proofs.declarations.word_laws.Goals as goal

pub returns-clause-found : goal.returns-clause-found
returns-clause-found c = words_found

pub returns-clause-tell : goal.returns-clause-tell
returns-clause-tell c = numbers_tell
