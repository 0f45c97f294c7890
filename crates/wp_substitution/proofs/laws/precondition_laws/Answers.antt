use Rattle.wp_substitution.proofs.ExactLaws.{definedness, precondition}
use Rattle.wp_substitution.proofs.laws.precondition_laws.Goals as goal

pub returns-clause-definedness : goal.returns-clause-definedness
returns-clause-definedness c = definedness

pub returns-clause-precondition : goal.returns-clause-precondition
returns-clause-precondition c = precondition
