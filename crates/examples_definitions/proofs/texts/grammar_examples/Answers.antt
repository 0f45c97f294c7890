use Rattle.examples_definitions.proofs.ExamplesRead.{read, refused}
use Rattle.examples_definitions.proofs.texts.grammar_examples.Goals as goal

pub returns-clause-smallest : goal.returns-clause-smallest
returns-clause-smallest c = read.smallest

pub returns-clause-count : goal.returns-clause-count
returns-clause-count c = read.count

pub returns-clause-program : goal.returns-clause-program
returns-clause-program c = read.program

pub returns-clause-expressions : goal.returns-clause-expressions
returns-clause-expressions c = read.expressions

pub returns-clause-proof : goal.returns-clause-proof
returns-clause-proof c = read.proof

pub returns-clause-term : goal.returns-clause-term
returns-clause-term c = read.term

pub returns-clause-second_version : goal.returns-clause-second_version
returns-clause-second_version c = read.second

pub returns-clause-later_word : goal.returns-clause-later_word
returns-clause-later_word c = refused.later

pub returns-clause-other_version : goal.returns-clause-other_version
returns-clause-other_version c = refused.version

pub returns-clause-second_relation : goal.returns-clause-second_relation
returns-clause-second_relation c = refused.relation

pub returns-clause-second_arrow : goal.returns-clause-second_arrow
returns-clause-second_arrow c = refused.arrow

pub returns-clause-not_not : goal.returns-clause-not_not
returns-clause-not_not c = refused.negation

pub returns-clause-and_or : goal.returns-clause-and_or
returns-clause-and_or c = refused.disjunction

pub returns-clause-other_number : goal.returns-clause-other_number
returns-clause-other_number c = refused.number

pub returns-clause-node_too_many : goal.returns-clause-node_too_many
returns-clause-node_too_many c = refused.too_many

pub returns-clause-node_missing : goal.returns-clause-node_missing
returns-clause-node_missing c = refused.missing

pub returns-clause-early_end : goal.returns-clause-early_end
returns-clause-early_end c = refused.early

pub returns-clause-bracket_too_many : goal.returns-clause-bracket_too_many
returns-clause-bracket_too_many c = refused.bracket
