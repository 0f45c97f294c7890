-- What the formulas of statements are good for.
use Rattle.std.specs.Prelude.{◌≡◌, ℤ, List, Bool, true, false, Option, Some, None, IsTrue}
use Rattle.meaning_states.specs.State.{State, is_state}
use Rattle.core_terms.specs.declared.trees.CForm.{CForm}
use Rattle.core_terms.specs.declared.programs.CSlot.{CSlot}
use Rattle.core_terms.specs.declared.programs.CStmt.{CStmt}
use Rattle.core_terms.specs.Values.{form_value}
use Rattle.core_terms.specs.Steps.{slot_ranges, core_step}
use Rattle.core_terms.specs.Conditions.{StatementFits}
use Rattle.wp_substitution.specs.Preconditions.{defined_form, wp_form}

-- there is a next state, and it passes the test
abbrev pub next_passes : (State → Bool) → Option State → Bool
next_passes test None = false
next_passes test (Some state) = test state

-- the formula holds exactly where the statement's step is defined
abbrev pub HoldsWhereDefined : List CSlot → CStmt → CForm → Type 0
HoldsWhereDefined slots s f = (state : State) (params : List ℤ) →
    form_value state params f ≡ next_passes (λ next. true) (core_step slots s state)

-- in each state in range, the formula holds exactly where the step is defined and q holds after it
abbrev pub HoldsBefore : List CSlot → CStmt → CForm → CForm → Type 0
HoldsBefore slots s q f = (state : State) (params : List ℤ) → IsTrue (is_state (slot_ranges slots) state) →
    form_value state params f ≡ next_passes (λ next. form_value next params q) (core_step slots s state)

-- so is the formula of each statement that fits
abbrev pub ExactDefinedness : Type 0
ExactDefinedness = (slots : List CSlot) (s : CStmt) → StatementFits slots s →
    HoldsWhereDefined slots s (defined_form slots s)

abbrev pub ExactPrecondition : Type 0
ExactPrecondition = (slots : List CSlot) (s : CStmt) (q : CForm) → StatementFits slots s →
    HoldsBefore slots s q (wp_form slots s q)
