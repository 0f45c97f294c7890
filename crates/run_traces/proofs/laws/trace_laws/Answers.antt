use Rattle.run_traces.proofs.TraceTheorems.{defined_runs, same_trace}
use Rattle.run_traces.proofs.laws.trace_laws.Goals as goal

pub returns-clause-executions : goal.returns-clause-executions
returns-clause-executions c = defined_runs

pub returns-clause-same : goal.returns-clause-same
returns-clause-same c = same_trace
