-- The trace of a core program is the trace of the program.
use Rattle.std.proofs.Common.{◌≡◌, ℕ, ◌+◌, List, [], ◌∷◌, ◌++◌, length, Bool, true, false, ◌&&◌}
use Rattle.std.proofs.Common.{IsTrue, Option, Some, None}
use Rattle.std.proofs.Common.{Ok, Err, codes, decimal, refl, sym, ap, ◌∙◌, subst}
use Rattle.std.specs.Prelude.{nat_eq}
use Rattle.std.specs.List.{flat_map}
use Rattle.std.specs.Io.KnownBytes.{Appends}
use Rattle.unity_base.specs.Streams.{AppendsPart}
use Rattle.unity_syntax.specs.declared.document.Document.{Document}
use Rattle.meaning_states.specs.State.{State, Ranges, is_state}
use Rattle.meaning_documents.specs.Setting.{slot_ranges}
use Rattle.meaning_documents.specs.Programs.{Composed, document_setting}
use Rattle.meaning_executions.specs.Execution.{chosen_step}
use Rattle.meaning_executions.specs.Rounds.{rounds}
use Rattle.meaning_executions.specs.Alike.{StepEquivalent}
use Rattle.names_rules.specs.WellNamed.{IsWellNamed}
use Rattle.core_terms.specs.declared.programs.CProgram.{CProgram}
use Rattle.core_terms.specs.Conditions.{IsCoreDocument}
use Rattle.core_terms.specs.Steps.{slot_ranges as core_ranges}
use Rattle.core_terms.specs.Values.{form_value}
use Rattle.executor.specs.CoreSystem.{core_system}
use Rattle.expand_declarations.specs.WordNumbers.{document_words, word_number}
use Rattle.expand_correct.proofs.Values.Operations.{two}
use Rattle.executor.proofs.StartStateLaws.{start_is_state}
use Rattle.schedule_replay.specs.declared.heading.Heading.{Heading}
use Rattle.schedule_replay.specs.Lines.{slot_text as core_slot_text, rounds_line, heading_line as core_heading_line}
use Rattle.schedule_replay.specs.Lines.{state_line as core_state_line}
use Rattle.run_traces.specs.declared.trace_error.TraceError.{TraceError}
use Rattle.run_traces.specs.Traces.{trace_text, following, all_defined, ending, step_line as core_step_line}
use Rattle.run_traces.specs.Traces.{steps_text as core_steps_text}
use Rattle.run_traces.proofs.TraceTheorems.{same_trace}
use Rattle.run_traces.proofs.TraceAnswers.{program_in}
use Rattle.run_traces.proofs.FindingLaws.{found_in}
use Rattle.expand_correct.specs.from_expand_documents.Cores.{core_document}
use Rattle.expand_correct.specs.Preserved.Meaning.{IsCoreProgramOf}
use Rattle.expand_correct.proofs.Preserved.Meaning.{slots_match, programs_alike}
use Rattle.run_correct.specs.Traces.{source_system, first_state, heading_line, state_line, step_line, steps_text}
use Rattle.run_correct.specs.Traces.{program_trace}
use Rattle.run_correct.specs.Shown.{slot_text, shown_text}
use Rattle.run_correct.specs.Laws.{NamesMatch, TracesSay}
use Rattle.run_correct.proofs.Slots.{shown_text_same}
use Rattle.run_correct.proofs.Written.{all_written}
use Rattle.run_correct.proofs.Names.{all_names_match, chosen_alike}

module _ (d : Document) (name : List ℕ) (c : Composed) (p : CProgram) (h : NamesMatch d name c p) where
  pub heading_same : (heading : Heading) → core_heading_line (core_document d) p heading ≡ heading_line name heading
  heading_same Heading.Run = ap (λ text. codes "run " ++ text ++ codes "\n") h.name_is
  heading_same Heading.Replay = ap (λ text. codes "replay " ++ text ++ codes "\n") h.name_is

  -- what is shown of a state
  shown_same : (state : State) → flat_map (core_slot_text (core_document d) state) p.shown ≡ shown_text d name state
  shown_same state = shown_text_same d (all_written d) state p.shown
      ∙ ap (λ ns. flat_map (slot_text d state) ns) h.shown

  pub first_same : (state : State) → core_state_line (core_document d) p 0 None state ≡ state_line d name c 0 None state
  first_same state = ap (λ text. decimal 0 ++ [] ++ text ++ codes "\n") (shown_same state)

  line_same : (number choice : ℕ) (o : Option State) →
      core_step_line (core_document d) p number choice o ≡ step_line d name c number choice o
  line_same number choice None =
      ap (λ text. codes "undefined " ++ decimal number ++ codes " " ++ text ++ codes "\n")
      (chosen_alike d name c p h choice)
  line_same number choice (Some next) =
      two (λ (chosen shown : List ℕ). decimal number ++ (codes " " ++ chosen) ++ shown ++ codes "\n") _ _ _ _
      (chosen_alike d name c p h choice) (shown_same next)

  pub lines_same : (last : List ℕ) (n : ℕ) (state : State) (choices : List ℕ) →
      core_steps_text (core_document d) p (source_system d c) last n state choices
      ≡ steps_text d name c last n state choices
  lines_same last n state [] = refl
  lines_same last n state (choice ∷ choices) =
      by (chosen_step (source_system d c) choice state) (λ next. lines_same last (n + 1) next choices)
    where
      by : (o : Option State) → ((next : State) →
          core_steps_text (core_document d) p (source_system d c) last (n + 1) next choices
          ≡ steps_text d name c last (n + 1) next choices) →
          core_step_line (core_document d) p (n + 1) choice o ++ following
          (λ next. core_steps_text (core_document d) p (source_system d c) last (n + 1) next choices) o
          ≡ step_line d name c (n + 1) choice o ++ following (λ next. steps_text d name c last (n + 1) next choices) o
      by None rest = ap (λ (text : List ℕ). text ++ []) (line_same (n + 1) choice None)
      by (Some next) rest =
          two (λ (xs ys : List ℕ). xs ++ ys) _ _ _ _ (line_same (n + 1) choice (Some next)) (rest next)

  pub text_same : (heading : Heading) (choices : List ℕ) → length p.statements ≡ length c.instances →
      trace_text (core_document d) p (source_system d c) heading (first_state d p) choices
      ≡ program_trace d name c heading (first_state d p) choices
  text_same heading choices count =
      let start = first_state d p in
      let last = rounds_line (rounds choices (length c.instances)) in
      let rest = steps_text d name c last 0 start choices in
      two (λ (xs ys : List ℕ). xs ++ ys) (core_heading_line (core_document d) p heading
      ++ core_state_line (core_document d) p 0 None start)
      (heading_line name heading ++ state_line d name c 0 None start)
      (core_steps_text (core_document d) p (source_system d c)
      (rounds_line (rounds choices (length p.statements))) 0 start choices) rest
      (two (λ (xs ys : List ℕ). xs ++ ys) _ _ _ _ (heading_same heading) (first_same start))
      (ap (λ k. core_steps_text (core_document d) p (source_system d c) (rounds_line (rounds choices k)) 0 start
      choices) count ∙ lines_same last 0 start choices)

-- the start state is a state of the document
pub start_state_is : (d : Document) (name : List ℕ) (c : Composed) (p : CProgram) → IsCoreDocument (core_document d) →
    IsCoreProgramOf d name c p → IsTrue (is_state (core_ranges (core_document d).slots) (first_state d p))
start_state_is d name c p whole h =
    let there = found_in (λ q. nat_eq q.name (word_number (document_words d) name)) (core_document d).programs p
    h.found in
    start_is_state (core_document d).slots p whole.slots (program_in (core_document d) p whole there)

pub and_is : (a b : Bool) → IsTrue a → (a && b) ≡ b
and_is true b t = refl
and_is false b t = cc

-- what the start state and the trace of a core program are
pub record IsSame (d : Document) (name : List ℕ) (c : Composed) (p : CProgram) (heading : Heading)
    (choices : List ℕ) : Type 0 where
  pub initial : (source_system d c).initial (first_state d p) ≡ form_value (first_state d p) [] p.initially
  pub text : trace_text (core_document d) p (core_system (core_document d).slots p) heading (first_state d p) choices
      ≡ program_trace d name c heading (first_state d p) choices
  pub defined : all_defined (core_system (core_document d).slots p) (first_state d p) choices
      ≡ all_defined (source_system d c) (first_state d p) choices

pub trace_same : (d : Document) (name : List ℕ) (c : Composed) (p : CProgram) (heading : Heading)
    (choices : List ℕ) → IsWellNamed d → IsCoreDocument (core_document d) → IsCoreProgramOf d name c p →
    IsSame d name c p heading choices
trace_same d name c p heading choices named whole h =
    let slots = (core_document d).slots in
    let start = first_state d p in
    let ranges = slot_ranges (document_setting d).variables in
    let alike : StepEquivalent ranges (source_system d c) (core_system slots p) = programs_alike d name c p h in
    let fits = start_state_is d name c p whole h in
    let inside = subst (λ (r : Ranges). IsTrue (is_state r start)) (slots_match d) fits in
    let same = same_trace (core_document d) p (source_system d c) (core_system slots p) (is_state ranges) heading start
    choices inside (λ choice state next t e. alike.keeps state next choice t e)
    (λ choice state t. alike.steps state choice t) in
    record {
      initial = alike.starts start ∙ and_is (is_state (core_ranges slots) start) (form_value start [] p.initially) fits;
      text = sym same.0 ∙ text_same d name c p (all_names_match d name c p named h) heading choices h.matches.count;
      defined = sym same.1;
    }

pub traces_say : TracesSay
traces_say d name c p heading choices old new (Ok end) named whole h t =
    let same = trace_same d name c p heading choices named whole h in record {
      initial = same.initial ∙ t.initial;
      whole = subst (λ (text : List ℕ). Appends old new text) same.text t.whole;
      ending_is = t.ending_is ∙ ap (λ b. ending b) same.defined;
    }
traces_say d name c p heading choices old new (Err TraceError.NotInitial) named whole h t =
    let same = trace_same d name c p heading choices named whole h in (same.initial ∙ t.0, t.1)
traces_say d name c p heading choices old new (Err TraceError.Failed) named whole h t =
    let same = trace_same d name c p heading choices named whole h in
    (same.initial ∙ t.0, subst (λ (text : List ℕ). AppendsPart old new text) same.text t.1)
traces_say d name c p heading choices old new (Err TraceError.Memory) named whole h t = t
