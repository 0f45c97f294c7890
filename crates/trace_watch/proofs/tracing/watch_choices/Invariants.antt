use Rattle.std.proofs.Common.{◌≡◌, take}
use Rattle.executor.specs.Running.{program_of, slots_of, state_of}
use Rattle.trace_watch.specs.Watching as watching
use Rattle.trace_watch.proofs.TracingLaws.{Seen}
use Rattle.trace_watch.proofs.tracing.watch_choices.Given as goal

abbrev pub invariant-loop-number : goal.invariant-loop-number
invariant-loop-number l = record {
  program : program_of l.runner ≡ program_of l.fn.runner;
  slots : slots_of l.runner ≡ slots_of l.fn.runner;
  watched : watching.program_of l.watch ≡ watching.program_of l.fn.watch;
  ranges : watching.slots_of l.watch ≡ watching.slots_of l.fn.watch;
  steps : watching.steps_of l.watch ≡ watching.steps_of l.fn.watch;
  seen : Seen l.watch (watching.system_of l.fn.watch) (watching.steps_of l.fn.watch) (state_of l.fn.runner)
      (take l.number l.choices) (state_of l.runner);
}
