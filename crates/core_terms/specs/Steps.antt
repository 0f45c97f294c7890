-- The step of a core statement.
use Rattle.std.specs.Prelude.{pos, List, [], ◌∷◌, ◌++◌, map, cond, Option, Some, None}
use Rattle.std.specs.List.{flat_map}
use Rattle.meaning_states.specs.State.{State, Ranges}
use Rattle.meaning_states.specs.Step.{Write, step}
use Rattle.core_terms.specs.declared.trees.CForm.{CForm}
use Rattle.core_terms.specs.declared.programs.CSlot.{CSlot}
use Rattle.core_terms.specs.declared.programs.CWrite.{CWrite}
use Rattle.core_terms.specs.declared.programs.CStmt.{CStmt}
use Rattle.core_terms.specs.Values.{term_value, form_value}

-- the range of each slot
abbrev pub slot_ranges : List CSlot → Ranges
slot_ranges slots = map (λ s. (s.range.lo, s.range.hi)) slots

-- a write outside an array for each formula that holds
abbrev pub outside_writes : State → List CForm → List Write
outside_writes state forms = flat_map (λ f. cond (form_value state [] f) ((None, pos 0) ∷ []) []) forms

-- the writes whose conditions hold, in order
abbrev pub inside_writes : State → List CWrite → List Write
inside_writes state ws =
    flat_map (λ w. cond (form_value state [] w.when) ((Some w.slot, term_value state [] w.value) ∷ []) []) ws

-- all writes of a statement at a state; it names no parameter
abbrev pub core_writes : State → CStmt → List Write
core_writes state s = outside_writes state s.outside ++ inside_writes state s.writes

-- the state after a statement, or none where its step is undefined
abbrev pub core_step : List CSlot → CStmt → State → Option State
core_step slots s state = step (slot_ranges slots) (core_writes state s) state
