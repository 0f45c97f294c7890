-- Where the obligation of a formula is valid, the formula holds at every state and all numbers of its parameters.
use Rattle.std.proofs.Common.{◌≡◌, ℤ, List, [], ◌∷◌, map, ◌&&◌, refl, ap, ◌∙◌}
use Rattle.std.specs.Int.RustNames.{int_le}
use Rattle.meaning_states.specs.State.{is_state}
use Rattle.core_terms.specs.declared.trees.Range.{Range}
use Rattle.core_terms.specs.declared.programs.CSlot.{CSlot}
use Rattle.core_terms.specs.Steps.{slot_ranges}
use Rattle.obligations.specs.Variables as variables
use Rattle.obligations.proofs.VariableLaws.{obligation-means}
use Rattle.fair_rounds.specs.Records.{are_in_ranges}
use Rattle.rules_table.specs.Validity.{GoalShown}

same_states : (slots : List CSlot) (s : List ℤ) →
    variables.lie_in_ranges (map (λ (c : CSlot). c.range) slots) s ≡ is_state (slot_ranges slots) s
same_states [] [] = refl
same_states [] (z ∷ s) = refl
same_states (c ∷ slots) [] = refl
same_states (c ∷ slots) (z ∷ s) =
    ap (λ b. (int_le c.range.lo z && int_le z c.range.hi) && b) (same_states slots s)

same_numbers : (params : List Range) (e : List ℤ) → variables.lie_in_ranges params e ≡ are_in_ranges params e
same_numbers [] [] = refl
same_numbers [] (z ∷ e) = refl
same_numbers (r ∷ params) [] = refl
same_numbers (r ∷ params) (z ∷ e) = ap (λ b. (int_le r.lo z && int_le z r.hi) && b) (same_numbers params e)

pub goal_shown : GoalShown
goal_shown slots params f valid s e state inside =
    obligation-means f (map (λ (c : CSlot). c.range) slots) params valid s e (same_states slots s ∙ state)
    (same_numbers params e ∙ inside)
