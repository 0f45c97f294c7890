-- Completion and cancellation: ends that are kept until an escape, and an end that leads on.
use Rattle.std.proofs.Common.{◌≡◌, ℕ, ◌+◌, ◌-◌, ◌≤◌, List, ◌∷◌, ◌&&◌, Some, IsTrue, refl, slice_get, arith, max, inl}
use Rattle.std.proofs.Common.{inr}
use Rattle.std.proofs.lemmas.Bool.Decides.{leb_tells}
use Rattle.meaning_states.specs.State.{State}
use Rattle.meaning_states.proofs.StepTheorems.{and_left, and_right, both_true}
use Rattle.meaning_executions.specs.Execution.{System, IsExecution}
use Rattle.meaning_executions.specs.Properties.{Test, Unless, LeadsTo}
use Rattle.meaning_executions.specs.RoundLaws.{HoldsLater}
use Rattle.meaning_executions.proofs.PropertyTheorems.{leads_is_follows}
use Rattle.meaning_laws.specs.Tests.{both_hold, one_holds}
use Rattle.meaning_laws.specs.ProgressLaws.{Completion, LeadsCancellation}
use Rattle.meaning_laws.proofs.TruthLaws.{cases, or_left, or_right}
use Rattle.meaning_laws.proofs.ProgressTheorems.{kept_up, leads_on}

module _ (x : System) (q other r : Test) (safe : Unless x q r) (kept : Unless x other r) (first : State)
    (choices : List ℕ) (later : List State) (run : IsExecution x first choices later) (from : ℕ) where
  abbrev Ends : Type 0
  Ends = HoldsLater (one_holds (both_hold q other) r) (first ∷ later) from

  ends_at : (i : ℕ) (s : State) → from ≤ i → slice_get (first ∷ later) i ≡ Some s →
      IsTrue (one_holds (both_hold q other) r s) → Ends
  ends_at i s far here h = record { place = i; state = s; after = far; stands = here; holds = h }

  turned : (s : State) → IsTrue (one_holds (both_hold other q) r s) → IsTrue (one_holds (both_hold q other) r s)
  turned s h = cases (other s && q s) (r s) (IsTrue (one_holds (both_hold q other) r s)) h
      (λ t. or_left (q s && other s) (r s) (both_true (q s) (other s) (and_right (other s) (q s) t)
      (and_left (other s) (q s) t)))
      (λ t. or_right (q s && other s) (r s) t)

  -- both ends were reached, at i and at j
  met : (i j : ℕ) (s t : State) → from ≤ i → from ≤ j → slice_get (first ∷ later) i ≡ Some s →
      slice_get (first ∷ later) j ≡ Some t → IsTrue (q s) → IsTrue (other t) → Ends
  met i j s t far too here there h g = elim (leb_tells i j) [
    | inl w ↦
        let kept_on = kept_up x other q r safe first choices later run (j - i) i j s t (omega (arith, w.1)) here h there
        g (r s) refl in
        ends_at kept_on.place kept_on.state (omega (arith, far, kept_on.after)) kept_on.stands
        (turned kept_on.state kept_on.holds)
    | inr w ↦
        let kept_on = kept_up x q other r kept first choices later run (i - j) j i t s (omega (arith, w.1)) there g here
        h (r t) refl in
        ends_at kept_on.place kept_on.state (omega (arith, too, kept_on.after)) kept_on.stands kept_on.holds
  ]

  reached : HoldsLater (one_holds q r) (first ∷ later) from → HoldsLater (one_holds other r) (first ∷ later) from → Ends
  reached one two = cases (q one.state) (r one.state) Ends one.holds
      (λ h. cases (other two.state) (r two.state) Ends two.holds
      (λ g. met one.place two.place one.state two.state one.after two.after one.stands two.stands h g)
      (λ g. ends_at two.place two.state two.after two.stands (or_right (q two.state && other two.state) (r two.state)
      g)))
      (λ h. ends_at one.place one.state one.after one.stands (or_right (q one.state && other one.state)
      (r one.state) h))

pub completion : Completion
completion x p q p' q' r bound more one safe two kept =
    (leads_is_follows x (both_hold p p') (one_holds (both_hold q q') r) (max bound more)).1
    (λ first choices later run place state e h enough.
    reached x q q' r safe kept first choices later run place
    ((leads_is_follows x p (one_holds q r) bound).0 one first choices later run place state e
    (and_left (p state) (p' state) h) (omega (arith, enough)))
    ((leads_is_follows x p' (one_holds q' r) more).0 two first choices later run place state e
    (and_right (p state) (p' state) h) (omega (arith, enough))))

-- the other end stays, and this one leads on
ends_on : (x : System) (q b r : Test) (more : ℕ) → LeadsTo x b r more →
    LeadsTo x (one_holds q b) (one_holds q r) more
ends_on x q b r more two =
    (leads_is_follows x (one_holds q b) (one_holds q r) more).1 (λ first choices later run place state e h enough.
    cases (q state) (b state) (HoldsLater (one_holds q r) (first ∷ later) place) h
    (λ t. record {
      place = place;
      state = state;
      after = omega arith;
      stands = e;
      holds = or_left (q state) (r state) t;
    })
    (λ t.
    let end = (leads_is_follows x b r more).0 two first choices later run place state e t enough in
    record {
      place = end.place;
      state = end.state;
      after = end.after;
      stands = end.stands;
      holds = or_right (q end.state) (r end.state) end.holds;
    }))

pub leads_cancellation : LeadsCancellation
leads_cancellation x p q b r bound more one two =
    leads_on x p (one_holds q b) (one_holds q r) bound more one (ends_on x q b r more two)
