-- Why a schedule is not watched, where a call that is made says so.
use Rattle.executor.specs.declared.runner.StartError.{StartError}
use Rattle.schedule_replay.specs.declared.schedule.ScheduleError.{ScheduleError}
use Rattle.proof_plans.specs.declared.plans.ScriptError.{ScriptError}
use Rattle.trace_watch.specs.declared.violations.WatchError.{WatchError}
use Rattle.watch_schedules.specs.declared.error.WatchStop.{WatchStop}

abbrev pub schedule_stop : ScheduleError → WatchStop
schedule_stop ScheduleError.NoSchedule = WatchStop.NoSchedule
schedule_stop (ScheduleError.Fault code at) = WatchStop.NoSuchStatement at
schedule_stop ScheduleError.Memory = WatchStop.Memory

abbrev pub start_stop : StartError → WatchStop
start_stop StartError.NotInitial = WatchStop.NotInitial
start_stop StartError.Memory = WatchStop.Memory

abbrev pub script_stop : ScriptError → WatchStop
script_stop (ScriptError.Step fault) = WatchStop.Step fault
script_stop ScriptError.Memory = WatchStop.Memory

abbrev pub watch_stop : WatchError → WatchStop
watch_stop WatchError.TooManyCases = WatchStop.TooManyCases
watch_stop WatchError.Memory = WatchStop.Memory
