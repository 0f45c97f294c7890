use Rattle.meaning_executions.proofs.ExecutionTheorems.{prefix_is_execution, each_is_a_step, defined_runs}
use Rattle.meaning_executions.proofs.laws.execution_laws.Goals as goal

pub returns-clause-prefix : goal.returns-clause-prefix
returns-clause-prefix c = prefix_is_execution

pub returns-clause-step : goal.returns-clause-step
returns-clause-step c = each_is_a_step

pub returns-clause-runs : goal.returns-clause-runs
returns-clause-runs c = defined_runs
