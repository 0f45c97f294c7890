use Rattle.proof_search.proofs.lemmas_from_search_tree.EndsLaws.{search-ends}
use Rattle.proof_script.proofs.BudgetLaws.{suffices}
use Rattle.proof_script.proofs.SomeLaws.{some_finding}
use Rattle.proof_plans.proofs.WalkLaws.{reach_is_walk}
use Rattle.proof_script.proofs.laws.search_laws.Goals as goal

pub returns-clause-walk : goal.returns-clause-walk
returns-clause-walk c = reach_is_walk

pub returns-clause-enough : goal.returns-clause-enough
returns-clause-enough c = suffices

pub returns-clause-some : goal.returns-clause-some
returns-clause-some c = some_finding search-ends
