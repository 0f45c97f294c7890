-- A formula without parameters can be evaluated at a state.
use Rattle.std.proofs.Common.{ℕ, zero, suc, ◌*◌, ◌≤◌, ◌^◌, max, ℤ, List, [], ◌∷◌, IsTrue, Some, arith}
use Rattle.std.proofs.lemmas.Int.{ints}
use Rattle.std.specs.Int.RustNames.{int_le, unsigned_abs}
use borrow.Author.Differences.{le-true}
use Rattle.meaning_states.specs.State.{State, is_state, in_range}
use Rattle.meaning_states.proofs.StepTheorems.{and_left, and_right}
use Rattle.core_terms.specs.declared.trees.CForm.{CForm}
use Rattle.core_terms.specs.declared.programs.CSlot.{CSlot}
use Rattle.core_terms.specs.Steps.{slot_ranges}
use Rattle.core_terms.specs.Weights.{form_weight, number_weight, place_weight, slot_weight}
use Rattle.core_terms.specs.Conditions.{FormFits}
use Rattle.core_terms.proofs.HeavierLaws.{form_scaled}

within : (lo hi z : ℤ) → IsTrue (in_range (Some (lo, hi)) z) → unsigned_abs z ≤ max (unsigned_abs lo)
    (unsigned_abs hi)
within lo hi z inside =
    let low = le-true lo z (and_left (int_le lo z) (int_le z hi) inside) in
    let high = le-true z hi (and_right (int_le lo z) (int_le z hi) inside) in
    omega (arith, ints)

number_light : (slots : List CSlot) (state : State) → IsTrue (is_state (slot_ranges slots) state) → (n : ℕ) →
    number_weight state n ≤ 1 * slot_weight slots n
number_light [] [] h n = omega arith
number_light [] (z ∷ zs) h n = cc
number_light (s ∷ slots) [] h n = cc
number_light (s ∷ slots) (z ∷ zs) h zero =
    let inside = and_left (in_range (Some (s.range.lo, s.range.hi)) z) (is_state (slot_ranges slots) zs) h in
    omega (arith, within s.range.lo s.range.hi z inside)
number_light (s ∷ slots) (z ∷ zs) h (suc n) =
    number_light slots zs (and_right (in_range (Some (s.range.lo, s.range.hi)) z) (is_state (slot_ranges slots) zs) h)
    n

none_light : (n : ℕ) → number_weight [] n ≤ 1 * place_weight [] n
none_light n = omega arith

pub light_at : (slots : List CSlot) (state : State) (f : CForm) → IsTrue (is_state (slot_ranges slots) state) →
    FormFits slots [] f → form_weight (number_weight state) (number_weight []) f ≤ 2 ^ 62
light_at slots state f h fits =
    let less = form_scaled 1 (number_weight state) (number_weight []) (slot_weight slots) (place_weight [])
    (omega arith)
    (number_light slots state h) none_light f in
    omega (arith, less, fits.weight)
