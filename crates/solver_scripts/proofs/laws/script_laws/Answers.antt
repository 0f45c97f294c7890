use Rattle.solver_scripts.proofs.DivisionLaws.{division_is_standard}
use Rattle.solver_scripts.proofs.MeaningLaws.{script_means, unsat_is_valid}
use Rattle.solver_scripts.proofs.laws.script_laws.Goals as goal

pub returns-clause-means : goal.returns-clause-means
returns-clause-means c = script_means

pub returns-clause-unsat : goal.returns-clause-unsat
returns-clause-unsat c = unsat_is_valid

pub returns-clause-division : goal.returns-clause-division
returns-clause-division c = division_is_standard
