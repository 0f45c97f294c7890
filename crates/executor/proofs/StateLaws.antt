-- What can be evaluated at a state: each slot has a number, and it weighs at most what its range does.
use Rattle.std.proofs.Common.{◌≡◌, ℕ, zero, suc, ◌≤◌, ◌^◌, max, ℤ, List, [], ◌∷◌, length, IsTrue, Some, refl}
use Rattle.std.proofs.Common.{slice_get, subst, le_refl, arith}
use Rattle.std.proofs.lemmas.Int.{ints}
use Rattle.std.specs.Prelude.{All}
use Rattle.std.specs.Int.RustNames.{int_le, unsigned_abs}
use Rattle.std.proofs.lemmas.Option.{get_or_from_slice_get, slice_get_within}
use borrow.Author.Differences.{le-true}
use Rattle.meaning_states.specs.State.{State, is_state, in_range}
use Rattle.meaning_states.proofs.StepTheorems.{and_left, and_right}
use Rattle.core_terms.specs.declared.trees.CTerm.{CTerm}
use Rattle.core_terms.specs.declared.trees.CForm.{CForm}
use Rattle.core_terms.specs.declared.programs.CSlot.{CSlot}
use Rattle.core_terms.specs.declared.programs.CWrite.{CWrite}
use Rattle.core_terms.specs.declared.programs.CStmt.{CStmt}
use Rattle.core_terms.specs.Steps.{slot_ranges}
use Rattle.core_terms.specs.Weights.{term_weights, form_weight, number_weight, place_weight, slot_weight}
use Rattle.core_terms.specs.Places.{term_slots, form_slots, term_params, form_params}
use Rattle.core_terms.specs.Conditions.{FormFits, WriteFits, StatementFits}
use Rattle.executor.specs.Fitting.{FormRuns, TermRuns, WriteRuns, StatementsRun}
use Rattle.executor.proofs.WeightLaws.{form_less, term_less}

pub state_length : (slots : List CSlot) (state : State) → IsTrue (is_state (slot_ranges slots) state) →
    length state ≡ length slots
state_length [] [] h = refl
state_length [] (z ∷ zs) h = cc
state_length (s ∷ slots) [] h = cc
state_length (s ∷ slots) (z ∷ zs) h =
    let rest = state_length slots zs (and_right (in_range (Some (s.range.lo, s.range.hi)) z)
    (is_state (slot_ranges slots) zs) h) in
    omega (arith, rest)

pub within : (lo hi z : ℤ) → IsTrue (in_range (Some (lo, hi)) z) → unsigned_abs z ≤ max (unsigned_abs lo)
    (unsigned_abs hi)
within lo hi z inside =
    let low = le-true lo z (and_left (int_le lo z) (int_le z hi) inside) in
    let high = le-true z hi (and_right (int_le lo z) (int_le z hi) inside) in
    omega (arith, ints)

pub number_light : (slots : List CSlot) (state : State) → IsTrue (is_state (slot_ranges slots) state) → (n : ℕ) →
    number_weight state n ≤ slot_weight slots n
number_light [] [] h n = le_refl 1
number_light [] (z ∷ zs) h n = cc
number_light (s ∷ slots) [] h n = cc
number_light (s ∷ slots) (z ∷ zs) h zero =
    let inside = and_left (in_range (Some (s.range.lo, s.range.hi)) z) (is_state (slot_ranges slots) zs) h in
    omega (arith, within s.range.lo s.range.hi z inside)
number_light (s ∷ slots) (z ∷ zs) h (suc n) =
    number_light slots zs (and_right (in_range (Some (s.range.lo, s.range.hi)) z) (is_state (slot_ranges slots) zs) h)
    n

none_light : (n : ℕ) → number_weight [] n ≤ place_weight [] n
none_light n = le_refl 1

-- the formula can be evaluated at a state
pub form_runs : (slots : List CSlot) (state : State) (f : CForm) → IsTrue (is_state (slot_ranges slots) state) →
    FormRuns slots f →
    (form_slots f ≤ length state) × (form_params f ≤ 0)
    × (form_weight (number_weight state) (number_weight []) f ≤ 2 ^ 62)
form_runs slots state f h runs = (
  omega (arith, state_length slots state h, runs.0),
  runs.1,
  omega (
    arith,
    runs.2,
    form_less (number_weight state) (number_weight []) (slot_weight slots) (place_weight [])
        (number_light slots state h) none_light f,
  ),
)

-- and so can the term
pub term_runs : (slots : List CSlot) (state : State) (t : CTerm) → IsTrue (is_state (slot_ranges slots) state) →
    TermRuns slots t →
    (term_slots t ≤ length state) × (term_params t ≤ 0)
    × ((term_weights (number_weight state) (number_weight []) t).most ≤ 2 ^ 62)
term_runs slots state t h runs = (
  omega (arith, state_length slots state h, runs.0),
  runs.1,
  omega (
    arith,
    runs.2,
    (term_less (number_weight state) (number_weight []) (slot_weight slots) (place_weight [])
        (number_light slots state h) none_light t).1,
  ),
)

-- what fits can be evaluated at each state
pub form_fits : (slots : List CSlot) (f : CForm) → FormFits slots [] f → FormRuns slots f
form_fits slots f fits = (fits.slots_exist, fits.params_exist, fits.weight)

write_fits : (slots : List CSlot) (w : CWrite) → WriteFits slots w → WriteRuns slots w
write_fits slots w fits = (
  fits.target,
  form_fits slots w.when fits.condition,
  (fits.value.slots_exist, fits.value.params_exist, fits.value.weight),
)

pub all_at : {X : Type 0} (P : X → Type 0) (xs : List X) → All P xs → (place : ℕ) (x : X) → slice_get xs place
    ≡ Some x → P x
all_at P xs all place x e =
    subst P (get_or_from_slice_get xs place x x e) (all place x (slice_get_within xs place x e))

pub statements_fit : (slots : List CSlot) (ss : List CStmt) → All (StatementFits slots) ss → StatementsRun slots ss
statements_fit slots ss all place s e =
    let fits = all_at (StatementFits slots) ss all place s e in (
      λ n f there. form_fits slots f (all_at (FormFits slots []) s.outside fits.outside n f there),
      λ n w there. write_fits slots w (all_at (WriteFits slots) s.writes fits.writes n w there),
    )
