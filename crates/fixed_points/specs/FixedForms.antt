-- The formula of where a state is a fixed point.
use Rattle.std.specs.Prelude.{◌≡◌, ℕ, ℤ, List, map, Some, IsTrue}
use Rattle.meaning_states.specs.State.{State, is_state}
use Rattle.executor.specs.from_meaning_executions.Execution.{chosen_step}
use Rattle.core_terms.specs.declared.trees.CTerm.TheVariants.{Slot}
use Rattle.core_terms.specs.declared.trees.CForm.{CForm}
use Rattle.core_terms.specs.declared.programs.CSlot.{CSlot}
use Rattle.core_terms.specs.declared.programs.CWrite.{CWrite}
use Rattle.core_terms.specs.declared.programs.CStmt.{CStmt}
use Rattle.core_terms.specs.declared.programs.CProgram.{CProgram}
use Rattle.core_terms.specs.Folding.{difference_term, zero_form, not_form, and_form, or_form}
use Rattle.core_terms.specs.Values.{form_value}
use Rattle.core_terms.specs.Steps.{slot_ranges, core_step}
use Rattle.executor.specs.CoreSystem.{core_system}
use Rattle.wp_substitution.specs.Preconditions.{all_of, defined_form}
use Rattle.fixed_points.specs.FixedPoints.{leads_to, is_fixed}

-- where the write is made, its value is what the slot has
abbrev pub same_value : CWrite → CForm
same_value w = or_form (not_form w.when) (zero_form (difference_term w.value (Slot w.slot)))

-- the statement is defined, and each write that is made leaves its slot as it is
abbrev pub fixed_part : List CSlot → CStmt → CForm
fixed_part slots s = and_form (defined_form slots s) (all_of (map same_value s.writes))

-- so it is for each statement
abbrev pub fixed_form : List CSlot → CProgram → CForm
fixed_form slots c = all_of (map (fixed_part slots) c.statements)

-- in each state in range, the formula is true exactly where the statement's step leads back
abbrev pub HoldsWhereLedBack : List CSlot → CStmt → CForm → Type 0
HoldsWhereLedBack slots s f = (state : State) (params : List ℤ) → IsTrue (is_state (slot_ranges slots) state) →
    form_value state params f ≡ leads_to (core_step slots s state) state

-- in each state in range, the formula is true exactly where the state is a fixed point
abbrev pub HoldsWhereFixed : List CSlot → CProgram → CForm → Type 0
HoldsWhereFixed slots c f = (state : State) (params : List ℤ) → IsTrue (is_state (slot_ranges slots) state) →
    form_value state params f ≡ is_fixed (core_system slots c) state

-- the step of any instance, from a state in range where the formula is true, leads to one where it is
abbrev pub StaysTrue : List CSlot → CProgram → CForm → Type 0
StaysTrue slots c f = (state next : State) (params : List ℤ) → IsTrue (is_state (slot_ranges slots) state) →
    IsTrue (form_value state params f) → (choice : ℕ) → chosen_step (core_system slots c) choice state ≡ Some next →
    IsTrue (form_value next params f)
