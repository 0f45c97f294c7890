-- The trace that a watch has seen.
use Rattle.std.specs.Prelude.{◌≡◌, ℕ, suc, List, [], map, length, take, All}
use Rattle.meaning_states.specs.State.{State}
use Rattle.meaning_executions.specs.Execution.{System}
use Rattle.core_terms.specs.declared.programs.CSlot.{CSlot}
use Rattle.core_terms.specs.declared.programs.CProgram.{CProgram}
use Rattle.executor.specs.CoreSystem.{core_system}
use Rattle.trace_watch.specs.declared.watch.Watch.{Watch}
use Rattle.trace_watch.specs.Cases.{WatchedStep}
use Rattle.trace_watch.specs.Violations.{violation}
use Rattle.trace_watch.specs.Stepping.{watched_as, StepStands}

-- the program that is watched, its slots, its system and the readings of its steps
abbrev pub program_of : Watch → CProgram
program_of w = w.program.now

abbrev pub slots_of : Watch → List CSlot
slots_of w = w.slots.now

abbrev pub system_of : Watch → System
system_of w = core_system w.slots.now w.program.now

abbrev pub steps_of : Watch → List WatchedStep
steps_of w = map (watched_as w.program.now) w.steps.items

-- the watch has seen a trace
pub record WatchStandsFor (w : Watch) (states : List State) (choices : List ℕ) : Type 0 where
  pub places : length states ≡ suc (length choices)
  pub steps : All (StepStands w.program.now states choices) w.steps.items
  pub first : w.first ≡ violation (system_of w) (steps_of w) (take 1 states) []
