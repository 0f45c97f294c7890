-- The formulas that name no new slot.
use Rattle.std.proofs.Common.{ℕ, Bool, ◌&&◌, not, List}
use Rattle.core_terms.specs.Conditions.{is_shown, any_place}
use Rattle.core_terms.specs.Places.{form_names_only}
use Rattle.core_terms.specs.declared.trees.CForm.{CForm}

-- where a program shows the first slots, and the one under it the second
abbrev pub old_alone : List ℕ → List ℕ → CForm → Bool
old_alone above below = form_names_only (λ n. not (is_shown above n && not (is_shown below n))) any_place
