-- The laws of traces.
use Rattle.std.proofs.Common.{◌≡◌, ℕ, ◌+◌, ◌++◌, List, [], ◌∷◌, length, IsTrue, Option, Some, None, refl, sym, ap}
use Rattle.std.proofs.Common.{◌∙◌}
use Rattle.meaning_states.specs.State.{State}
use Rattle.meaning_executions.specs.Execution.{System, chosen_step, Steps}
use Rattle.meaning_executions.specs.Properties.{Test}
use Rattle.meaning_executions.specs.Rounds.{rounds}
use Rattle.core_terms.specs.declared.programs.CProgram.{CProgram}
use Rattle.core_terms.specs.declared.documents.CDocument.{CDocument}
use Rattle.schedule_replay.specs.Lines.{heading_line, state_line, rounds_line}
use Rattle.run_traces.specs.Traces.{step_line, following, steps_text, and_then_all, all_defined, and_later}
use Rattle.run_traces.specs.Traces.{later_states}
use Rattle.run_traces.specs.Laws.{TraceIsExecution, SameTrace}

runs : (x : System) (state : State) (choices : List ℕ) → IsTrue (all_defined x state choices) →
    Steps x state choices (later_states x state choices)
runs x state [] h = tt
runs x state (choice ∷ choices) h =
    go (chosen_step x choice state) refl h (λ next t. runs x next choices t)
  where
    go : (o : Option State) → chosen_step x choice state ≡ o →
        IsTrue (and_then_all (λ next. all_defined x next choices) o) →
        ((next : State) → IsTrue (all_defined x next choices) → Steps x next choices (later_states x next choices)) →
        Steps x state (choice ∷ choices) (and_later (λ next. later_states x next choices) o)
    go None e t rest = cc
    go (Some next) e t rest = (e, rest next t)

pub defined_runs : TraceIsExecution
defined_runs x start choices initial defined = record { starts = initial; steps = runs x start choices defined }

module _ (d : CDocument) (p : CProgram) (x y : System) (u : Test)
    (keeps : (choice : ℕ) (state next : State) → IsTrue (u state) → chosen_step x choice state ≡ Some next → IsTrue
    (u next))
    (agree : (choice : ℕ) (state : State) → IsTrue (u state) → chosen_step x choice state
    ≡ chosen_step y choice state) where
  abbrev pub Same : List ℕ → ℕ → State → List ℕ → Type 0
  Same last n state choices =
      (steps_text d p x last n state choices ≡ steps_text d p y last n state choices)
      × (all_defined x state choices ≡ all_defined y state choices)

  pub steps_same : (last : List ℕ) (n : ℕ) (state : State) (choices : List ℕ) → IsTrue (u state) → Same last n state
      choices
  steps_same last n state [] h = (refl, refl)
  steps_same last n state (choice ∷ choices) h =
      go (chosen_step x choice state) refl (λ next t. steps_same last (n + 1) next choices t)
    where
      go : (o : Option State) → chosen_step x choice state ≡ o →
          ((next : State) → IsTrue (u next) → Same last (n + 1) next choices) → Same last n state (choice ∷ choices)
      go None e rest =
          let other = sym (agree choice state h) ∙ e in (
            ap (λ o. step_line d p (n + 1) choice o ++ following
                (λ next. steps_text d p x last (n + 1) next choices) o) e
                ∙ sym (ap (λ o. step_line d p (n + 1) choice o ++ following
                (λ next. steps_text d p y last (n + 1) next choices) o) other),
            ap (and_then_all (λ next. all_defined x next choices)) e
                ∙ sym (ap (and_then_all (λ next. all_defined y next choices)) other),
          )
      go (Some next) e rest =
          let other = sym (agree choice state h) ∙ e in
          let more = rest next (keeps choice state next h e) in (
            ap (λ o. step_line d p (n + 1) choice o ++ following
                (λ next. steps_text d p x last (n + 1) next choices) o) e
                ∙ ap (λ text. step_line d p (n + 1) choice (Some next) ++ text) more.0
                ∙ sym (ap (λ o. step_line d p (n + 1) choice o ++ following
                (λ next. steps_text d p y last (n + 1) next choices) o) other),
            ap (and_then_all (λ next. all_defined x next choices)) e ∙ more.1
                ∙ sym (ap (and_then_all (λ next. all_defined y next choices)) other),
          )

pub same_trace : SameTrace
same_trace d p x y u heading start choices h keeps agree =
    let same = steps_same d p x y u keeps agree (rounds_line
    (rounds choices (length p.statements))) 0 start choices h in
    (ap (λ text. heading_line d p heading ++ state_line d p 0 None start ++ text) same.0, same.1)
