-- A program, or a union, as its executions see it: a system.
use Rattle.std.specs.Prelude.{[], Bool, ◌&&◌, map}
use Rattle.std.specs.List.{list_all}
use Rattle.meaning_executions.specs.from_meaning_states.State.{State, is_state}
use Rattle.meaning_executions.specs.from_meaning_states.Step.{step}
use Rattle.meaning_executions.specs.Execution.{Act, System}
use Rattle.meaning_documents.specs.Writes.{writes}
use Rattle.meaning_documents.specs.Instances.{Instance}
use Rattle.meaning_documents.specs.Setting.{Setting, slot_ranges, seen, is_true_at}
use Rattle.meaning_documents.specs.Programs.{Composed}

-- the step of an instance
abbrev pub instance_step : Setting → Instance → Act
instance_step g i state = step (slot_ranges g.variables) (writes i.assign (seen g i.bindings state)) state

-- a state that meets each initially section; any state does where there is none
abbrev pub is_initial : Setting → Composed → State → Bool
is_initial g c state = is_state (slot_ranges g.variables) state &&
    list_all (λ formula. is_true_at g [] formula state) c.initially

-- a program, or a union, as its executions see it
abbrev pub system_of : Setting → Composed → System
system_of g c = record { initial = is_initial g c; steps = map (instance_step g) c.instances }
