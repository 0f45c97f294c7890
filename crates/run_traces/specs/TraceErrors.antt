-- Why a program has no trace, where a runner has not been made.
use Rattle.executor.specs.declared.runner.StartError.{StartError}
use Rattle.run_traces.specs.declared.trace_error.TraceError.{TraceError}

abbrev pub trace_error : StartError → TraceError
trace_error StartError.NotInitial = TraceError.NotInitial
trace_error StartError.Memory = TraceError.Memory
