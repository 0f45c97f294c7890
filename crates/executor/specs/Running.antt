-- The runner of a program, and the step that a choice gives.
use Rattle.std.specs.Prelude.{ℕ, List, Option, slice_get, option_and_then}
use Rattle.meaning_states.specs.State.{State}
use Rattle.core_terms.specs.declared.programs.CSlot.{CSlot}
use Rattle.core_terms.specs.declared.programs.CProgram.{CProgram}
use Rattle.core_terms.specs.Steps.{core_step}
use Rattle.executor.specs.declared.runner.Runner.{Runner}

-- the state after the statement of this number, or none where its step is undefined or there is no such statement
abbrev pub chosen_step : List CSlot → CProgram → ℕ → State → Option State
chosen_step slots p choice state = option_and_then (λ s. core_step slots s state) (slice_get p.statements choice)

-- the program that is run, its slots, and the state that was reached
abbrev pub program_of : Runner → CProgram
program_of r = r.program.now

abbrev pub slots_of : Runner → List CSlot
slots_of r = r.slots.now

abbrev pub state_of : Runner → State
state_of r = r.state.items
