-- Steps by choice of a core program, and what can be evaluated at a state.
use Rattle.std.proofs.Common.{◌≡◌, ℕ, zero, suc, ◌≤◌, ◌<◌, ◌^◌, max, ℤ, List, [], ◌∷◌, length, Option, Some}
use Rattle.std.proofs.Common.{None, IsTrue}
use Rattle.std.proofs.Common.{refl, sym, ap, ◌∙◌, slice_get, option_map, le_refl, arith}
use Rattle.std.proofs.lemmas.Int.{ints}
use Rattle.std.proofs.lemmas.List.{length-map}
use Rattle.std.proofs.lemmas.Option.{slice_get_within, slice_get-map}
use Rattle.std.specs.Prelude.{option_and_then}
use Rattle.std.specs.Int.RustNames.{int_le, unsigned_abs}
use borrow.Author.Differences.{le-true}
use Rattle.meaning_states.specs.State.{State, is_state, in_range}
use Rattle.meaning_states.proofs.StepTheorems.{and_left, and_right, step_keeps_ranges}
use Rattle.meaning_executions.specs.Execution.{chosen_step, act_step}
use Rattle.core_terms.specs.declared.trees.CForm.{CForm}
use Rattle.core_terms.specs.declared.programs.CSlot.{CSlot}
use Rattle.core_terms.specs.declared.programs.CStmt.{CStmt}
use Rattle.core_terms.specs.declared.programs.CProgram.{CProgram}
use Rattle.core_terms.specs.Places.{form_slots}
use Rattle.core_terms.specs.Steps.{slot_ranges, core_step, core_writes}
use Rattle.core_terms.specs.Weights.{form_weight, number_weight, slot_weight}
use Rattle.executor.specs.CoreSystem.{core_system}
use Rattle.executor.specs.Running as runner
use Rattle.executor.proofs.StateLaws.{state_length}
use Rattle.executor.proofs.WeightLaws.{form_less}
use Rattle.examples_bounds.specs.Readable.{FormIsReadable}

within : (lo hi z : ℤ) → IsTrue (in_range (Some (lo, hi)) z) → unsigned_abs z ≤ max (unsigned_abs lo)
    (unsigned_abs hi)
within lo hi z inside =
    let low = le-true lo z (and_left (int_le lo z) (int_le z hi) inside) in
    let high = le-true z hi (and_right (int_le lo z) (int_le z hi) inside) in
    omega (arith, ints)

number_light : (slots : List CSlot) (state : State) → IsTrue (is_state (slot_ranges slots) state) → (n : ℕ) →
    number_weight state n ≤ slot_weight slots n
number_light [] [] h n = le_refl 1
number_light [] (z ∷ zs) h n = cc
number_light (s ∷ slots) [] h n = cc
number_light (s ∷ slots) (z ∷ zs) h zero =
    let inside = and_left (in_range (Some (s.range.lo, s.range.hi)) z) (is_state (slot_ranges slots) zs) h in
    omega (arith, within s.range.lo s.range.hi z inside)
number_light (s ∷ slots) (z ∷ zs) h (suc n) =
    number_light slots zs (and_right (in_range (Some (s.range.lo, s.range.hi)) z) (is_state (slot_ranges slots) zs) h)
    n

-- a formula that is readable can be evaluated at a state
pub readable_slots : (slots : List CSlot) (state : State) (params : List ℤ) (f : CForm) →
    IsTrue (is_state (slot_ranges slots) state) → FormIsReadable slots params f → form_slots f ≤ length state
readable_slots slots state params f h r = let same = state_length slots state h in omega (arith, same, r.slots_exist)

pub readable_weight : (slots : List CSlot) (state : State) (params : List ℤ) (f : CForm) →
    IsTrue (is_state (slot_ranges slots) state) → FormIsReadable slots params f →
    form_weight (number_weight state) (number_weight params) f ≤ 2 ^ 62
readable_weight slots state params f h r =
    let less = form_less (number_weight state) (number_weight params) (slot_weight slots) (number_weight params)
    (number_light slots state h) (λ n. le_refl (number_weight params n)) f in
    omega (arith, less, r.weight)

-- the step of a runner is that of its program as executions see it
pub core_chosen : (slots : List CSlot) (p : CProgram) (choice : ℕ) (state : State) →
    runner.chosen_step slots p choice state ≡ chosen_step (core_system slots p) choice state
core_chosen slots p choice state =
    go (slice_get p.statements choice)
    ∙ ap (act_step state) (sym (slice_get-map (core_step slots) p.statements choice))
  where
    go : (o : Option CStmt) →
        option_and_then (λ s. core_step slots s state) o ≡ act_step state (option_map (core_step slots) o)
    go None = refl
    go (Some s) = refl

-- a step leads to a state
pub step_stays : (slots : List CSlot) (p : CProgram) (choice : ℕ) (s t : State) →
    IsTrue (is_state (slot_ranges slots) s) → chosen_step (core_system slots p) choice s ≡ Some t →
    IsTrue (is_state (slot_ranges slots) t)
step_stays slots p choice s t h e =
    go (slice_get p.statements choice)
    (ap (act_step s) (sym (slice_get-map (core_step slots) p.statements choice)) ∙ e)
  where
    go : (o : Option CStmt) → act_step s (option_map (core_step slots) o) ≡ Some t →
        IsTrue (is_state (slot_ranges slots) t)
    go None f = cc
    go (Some stmt) f = step_keeps_ranges (slot_ranges slots) (core_writes s stmt) s t h f

-- only a statement of the program has a step
pub chosen_within : (slots : List CSlot) (p : CProgram) (choice : ℕ) (s t : State) →
    chosen_step (core_system slots p) choice s ≡ Some t → choice < length p.statements
chosen_within slots p choice s t e =
    go (slice_get p.statements choice) refl
    (ap (act_step s) (sym (slice_get-map (core_step slots) p.statements choice)) ∙ e)
  where
    go : (o : Option CStmt) → slice_get p.statements choice ≡ o → act_step s (option_map (core_step slots) o) ≡ Some t →
        choice < length p.statements
    go None there f = cc
    go (Some stmt) there f = slice_get_within p.statements choice stmt there

pub steps_are : (slots : List CSlot) (p : CProgram) → length (core_system slots p).steps ≡ length p.statements
steps_are slots p = length-map p.statements (core_step slots)
