-- A core program as its executions see it.
use Rattle.std.specs.Prelude.{◌&&◌, List, [], map}
use Rattle.meaning_states.specs.State.{is_state}
use Rattle.meaning_executions.specs.Execution.{System}
use Rattle.core_terms.specs.declared.programs.CSlot.{CSlot}
use Rattle.core_terms.specs.declared.programs.CProgram.{CProgram}
use Rattle.core_terms.specs.Values.{form_value}
use Rattle.core_terms.specs.Steps.{slot_ranges, core_step}

-- it begins in the states of the document that meet its initial formula, and steps by its statements
abbrev pub core_system : List CSlot → CProgram → System
core_system slots c = record {
  initial = λ state. is_state (slot_ranges slots) state && form_value state [] c.initially;
  steps = map (core_step slots) c.statements;
}
