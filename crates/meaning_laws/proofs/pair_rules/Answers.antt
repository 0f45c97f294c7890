use Rattle.meaning_laws.proofs.PairTheorems.{conjunction_rule, conjunction_ensured, simple_conjunction}
use Rattle.meaning_laws.proofs.PairTheorems.{disjunction_rule, simple_disjunction, cancellation_rule, weaker_unless}
use Rattle.meaning_laws.proofs.PairTheorems.{weaker_ensures, constancy_rule}
use Rattle.meaning_laws.proofs.pair_rules.Goals as goal

pub returns-clause-conjunction : goal.returns-clause-conjunction
returns-clause-conjunction c = conjunction_rule

pub returns-clause-conjunction_ensured : goal.returns-clause-conjunction_ensured
returns-clause-conjunction_ensured c = conjunction_ensured

pub returns-clause-simple_conjunction : goal.returns-clause-simple_conjunction
returns-clause-simple_conjunction c = simple_conjunction

pub returns-clause-disjunction : goal.returns-clause-disjunction
returns-clause-disjunction c = disjunction_rule

pub returns-clause-simple_disjunction : goal.returns-clause-simple_disjunction
returns-clause-simple_disjunction c = simple_disjunction

pub returns-clause-cancellation : goal.returns-clause-cancellation
returns-clause-cancellation c = cancellation_rule

pub returns-clause-constancy : goal.returns-clause-constancy
returns-clause-constancy c = constancy_rule

pub returns-clause-weaker_unless : goal.returns-clause-weaker_unless
returns-clause-weaker_unless c = weaker_unless

pub returns-clause-weaker_ensures : goal.returns-clause-weaker_ensures
returns-clause-weaker_ensures c = weaker_ensures
