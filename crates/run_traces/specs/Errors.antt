-- Why a command writes no trace, where a call that it makes says so.
use Rattle.std.specs.Prelude.{Result, Ok, Err}
use Rattle.executor.specs.declared.runner.Stepped.{Stepped}
use Rattle.schedule_replay.specs.declared.schedule.ScheduleError.{ScheduleError}
use Rattle.run_traces.specs.declared.trace_error.TraceError.{TraceError}
use Rattle.run_traces.specs.declared.error.RunError.{RunError}

abbrev pub trace_refusal : TraceError → RunError
trace_refusal TraceError.NotInitial = RunError.NotInitial
trace_refusal TraceError.Failed = RunError.Failed
trace_refusal TraceError.Memory = RunError.Memory

abbrev pub schedule_refusal : ScheduleError → RunError
schedule_refusal ScheduleError.NoSchedule = RunError.NoSchedule
schedule_refusal (ScheduleError.Fault code at) = RunError.NoSuchStatement at
schedule_refusal ScheduleError.Memory = RunError.Memory

-- a command's answer, from that of its trace
abbrev pub command_answer : Result Stepped TraceError → Result Stepped RunError
command_answer (Ok end) = Ok end
command_answer (Err error) = Err (trace_refusal error)
