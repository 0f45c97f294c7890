-- What a case saw last is still so where all that its record names has kept its number.
use Rattle.std.proofs.Common.{◌≡◌, ℤ, List, [], IsTrue, Option, Some, None, refl, sym, ◌∙◌}
use Rattle.std.specs.Prelude.{All}
use Rattle.std.specs.Option.{ForSome}
use Rattle.meaning_states.specs.State.{State}
use Rattle.meaning_states.proofs.StepTheorems.{and_left, and_right, same_number}
use Rattle.core_terms.specs.declared.trees.CForm.{CForm}
use Rattle.core_terms.specs.declared.programs.CProgram.{CProgram}
use Rattle.core_terms.specs.Conditions.{any_place}
use Rattle.core_terms.specs.Places.{form_names_only}
use Rattle.core_terms.specs.Values.{number_at, form_value}
use Rattle.core_terms.proofs.FrameLaws.{named_form}
use Rattle.fair_rounds.specs.declared.records.Record.{Record}
use Rattle.executor.proofs.StateLaws.{all_at}
use Rattle.trace_watch.specs.declared.case.Case.{Case}
use Rattle.trace_watch.specs.declared.case.Seen.{Seen}
use Rattle.trace_watch.specs.declared.place.Place.{Place}
use Rattle.trace_watch.specs.declared.step.Step.{Step}
use Rattle.trace_watch.specs.Cases.{reading_of}
use Rattle.trace_watch.specs.Places.{before_at, is_kept, keeps_forms, state_at}
use Rattle.trace_watch.specs.Readings.{Reading}
use Rattle.trace_watch.specs.Stepping.{StepSaw, StepStands}
use Rattle.trace_watch.specs.Waiting.{CaseSaw, seen_at}
use Rattle.trace_watch.proofs.LookLaws.{all_by}

kept_form : (here : Place) (e : List ℤ) (f : CForm) → IsTrue (form_names_only (is_kept here) any_place f) →
    form_value (before_at here) e f ≡ form_value (state_at here) e f
kept_form here e f h =
    named_form (before_at here) (state_at here) e e (is_kept here) any_place
    (λ n same. same_number (number_at (before_at here) n) (number_at (state_at here) n) same) (λ n any. refl) f h

-- a reading sees what it saw at the place before
pub kept_seen : (here : Place) (c : CProgram) (r : Record) (e : List ℤ) → IsTrue (keeps_forms here r) →
    seen_at (reading_of c r e) (before_at here) ≡ seen_at (reading_of c r e) (state_at here)
kept_seen here c r e h =
    let p = kept_form here e r.p (and_left (form_names_only (is_kept here) any_place r.p)
    (form_names_only (is_kept here) any_place r.q) h) in
    let q = kept_form here e r.q (and_right (form_names_only (is_kept here) any_place r.p)
    (form_names_only (is_kept here) any_place r.q) h) in
    λ i. record { p = p i; q = q i }

pub still_seen : (here : Place) (c : CProgram) (r : Record) (e : List ℤ) (before : Option Seen) (seen : Seen) →
    before ≡ Some seen → ForSome before (λ s. s ≡ seen_at (reading_of c r e) (before_at here)) →
    IsTrue (keeps_forms here r) → seen_at (reading_of c r e) (state_at here) ≡ seen
still_seen here c r e before seen is saw h = sym (saw seen is ∙ kept_seen here c r e h)

-- a case that has seen this
pub saw_now : (c : Case) (r : Reading) (s : State) (now : Seen) → c.before ≡ Some now → seen_at r s ≡ now →
    CaseSaw s c r
saw_now c r s now is seen t e = same now t (sym is ∙ e) ∙ sym seen
  where
    same : (a b : Seen) → Some a ≡ Some b → b ≡ a
    same a b e = cc

-- cases that have seen no place
pub begun_saw : (c : CProgram) (s : State) (steps : List Step) → All (StepStands c [] []) steps →
    All (StepSaw c s) steps
begun_saw c s steps all =
    all_by (StepSaw c s) steps (λ n t at number case r there here.
    nothing_seen case r (all_at (StepStands c [] []) steps all n t at number case r there here).before)
  where
    nothing_seen : (case : Case) (r : Reading) → case.before ≡ None → CaseSaw s case r
    nothing_seen case r none seen e = let clash : None ≡ Some seen = sym none ∙ e in cc
