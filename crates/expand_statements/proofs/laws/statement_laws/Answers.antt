use Rattle.expand_statements.proofs.FaultlessLaws.{fit_is_all, faultless_instances}
use Rattle.expand_statements.proofs.laws.statement_laws.Goals as goal

pub returns-clause-fit : goal.returns-clause-fit
returns-clause-fit c = fit_is_all

pub returns-clause-faultless : goal.returns-clause-faultless
returns-clause-faultless c = faultless_instances
