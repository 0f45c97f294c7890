-- How the trace of a core program ends is how that of the document's program ends.
use Rattle.std.proofs.Common.{◌≡◌, ℕ, List, ◌∷◌, take, true, sym, ◌∙◌}
use Rattle.unity_syntax.specs.declared.document.Document.{Document}
use Rattle.meaning_states.specs.State.{State, Ranges}
use Rattle.meaning_documents.specs.Setting.{slot_ranges}
use Rattle.meaning_documents.specs.Programs.{Composed, document_setting}
use Rattle.meaning_executions.specs.Execution.{IsExecution, System}
use Rattle.meaning_documents.proofs.SystemTheorems.{every_state_in_range}
use Rattle.meaning_executions.proofs.ExecutionTheorems.{prefix_is_execution}
use Rattle.meaning_executions.specs.Alike.{StepEquivalent}
use Rattle.meaning_laws.proofs.AlikeTheorems.{alike_back, runs_alike}
use Rattle.core_terms.specs.declared.programs.CProgram.{CProgram}
use Rattle.executor.specs.CoreSystem.{core_system}
use Rattle.rules_table.specs.Walk.{Plan}
use Rattle.watch_laws.specs.from_rules_steps.Starts.{starts_in}
use Rattle.run_correct.specs.from_expand_documents.Cores.{core_document}
use Rattle.run_correct.specs.from_expand_correct.Preserved.Meaning.{IsCoreProgramOf}
use Rattle.run_correct.proofs.lemmas_from_expand_correct.Preserved.Meaning.{programs_alike}
use Rattle.run_correct.specs.Traces.{first_state, source_system}
use Rattle.trace_watch.specs.declared.tracing.Ending.{Ending}
use Rattle.trace_watch.specs.Cases.{watched}
use Rattle.trace_watch.specs.Tracing.{EndsAs, Leads}
use Rattle.trace_watch.specs.Violations.{violation_at}
use Rattle.watch_laws.specs.Claimed.{claimed}
use Rattle.watch_laws.proofs.Alike.{violations_alike}
use Rattle.watch_schedules.specs.Schedules.{IsPlan}
use Rattle.watch_correct.specs.Laws.{HasCore}

module _ (d : Document) (fits : HasCore d) (plan : Plan) (planned : IsPlan (core_document d) plan) (name : List ℕ)
    (c : Composed) (p : CProgram) (found : IsCoreProgramOf d name c p)
    (initial : (source_system d c).initial (first_state d p) ≡ true) where
  abbrev ranges : Ranges
  ranges = slot_ranges (document_setting d).variables

  abbrev core : System
  core = core_system (core_document d).slots p

  abbrev start : State
  start = first_state d p

  alike : StepEquivalent ranges (source_system d c) core
  alike = programs_alike d name c p found

  module _ (choices : List ℕ) (end : State) (led : Leads core start choices end) where
    run : IsExecution (source_system d c) start choices led.later
    run = runs_alike ranges core (source_system d c) (alike_back ranges (source_system d c) core alike) start choices
        led.later (record { starts = sym (alike.starts start) ∙ initial; steps = led.steps })

    abbrev leads : Leads (source_system d c) start choices end
    leads = record { later = led.later; steps = run.steps; last = led.last }

    same_at : (place : ℕ) → violation_at core (watched p plan.records) (start ∷ led.later) choices place
        ≡ violation_at (source_system d c) (claimed d p plan.records) (start ∷ led.later) choices place
    same_at place =
        let cut = prefix_is_execution (source_system d c) start choices led.later run place in
        violations_alike d (starts_in (core_document d).slots) plan (record {
          named = fits.named;
          faultless = fits.faultless;
          core = fits.core;
          walked = planned;
        }) name c p found (start ∷ take place led.later) (take place choices)
        (every_state_in_range (document_setting d) c start (take place choices) (take place led.later) cut)

  pub ends_alike : (choices : List ℕ) (end : State) (ending : Ending) →
      EndsAs core (watched p plan.records) start choices end ending →
      EndsAs (source_system d c) (claimed d p plan.records) start choices end ending
  ends_alike choices end (Ending.Violated place v) h =
      let cs = take place choices in (
        leads cs end h.0,
        record {
          within = h.1.within;
          violated = sym (same_at cs end h.0 place) ∙ h.1.violated;
          first = λ earlier less. sym (same_at cs end h.0 earlier) ∙ h.1.first earlier less;
        },
      )
  ends_alike choices end Ending.Unviolated h =
      (leads choices end h.0, λ place less. sym (same_at choices end h.0 place) ∙ h.1 place less)
