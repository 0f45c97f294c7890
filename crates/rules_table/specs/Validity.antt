-- What is left to be shown, and when it is valid.
use Rattle.std.specs.Prelude.{ℤ, List, [], ◌∷◌, map, IsTrue}
use Rattle.meaning_states.specs.State.{State, is_state}
use Rattle.core_terms.specs.declared.trees.Range.{Range}
use Rattle.core_terms.specs.declared.trees.CForm.{CForm}
use Rattle.core_terms.specs.declared.programs.CSlot.{CSlot}
use Rattle.core_terms.specs.Values.{form_value}
use Rattle.core_terms.specs.Steps.{slot_ranges}
use Rattle.obligations.specs.declared.branches.Obligation.{Obligation}
use Rattle.obligations.specs.Opening.{Valid}
use Rattle.obligations.specs.Variables.{obligation_of}
use Rattle.fair_rounds.specs.Records.{are_in_ranges}

-- a formula that is to hold at every state and all numbers of the parameters in these ranges
pub record Goal : Type 0 where
  pub form : CForm
  pub params : List Range

-- it does
abbrev pub IsValid : List CSlot → List Range → CForm → Type 0
IsValid slots params f = (state : State) (e : List ℤ) → IsTrue (is_state (slot_ranges slots) state) →
    IsTrue (are_in_ranges params e) → IsTrue (form_value state e f)

-- all of a list do
abbrev pub AllValid : List CSlot → List Goal → Type 0
AllValid slots [] = Unit {0}
AllValid slots (g ∷ rest) = IsValid slots g.params g.form × AllValid slots rest

-- the obligation that a formula holds at every state and all numbers of the parameters
abbrev pub goal_obligation : List CSlot → List Range → CForm → Obligation
goal_obligation slots params f = obligation_of f (map (λ (s : CSlot). s.range) slots) params

-- where that obligation is valid, the formula is
abbrev pub GoalShown : Type 0
GoalShown = (slots : List CSlot) (params : List Range) (f : CForm) → Valid (goal_obligation slots params f) →
    IsValid slots params f
