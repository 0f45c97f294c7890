use Rattle.meaning_executions.proofs.RoundTheorems.{no_rounds, one_more_round, one_shortest, shortest_exists}
use Rattle.meaning_executions.proofs.laws.round_laws.Goals as goal

pub returns-clause-none : goal.returns-clause-none
returns-clause-none c = no_rounds

pub returns-clause-more : goal.returns-clause-more
returns-clause-more c = one_more_round

pub returns-clause-unique : goal.returns-clause-unique
returns-clause-unique c = one_shortest

pub returns-clause-exists : goal.returns-clause-exists
returns-clause-exists c = shortest_exists
