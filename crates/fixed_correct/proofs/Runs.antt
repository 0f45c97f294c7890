-- What `fixed` answers over the core form of a document is what it answers over the document.
use Rattle.std.proofs.Common.{◌≡◌, ℕ, List, [], ◌++◌, length, Bool, true, false, IsTrue, Option, Some, None, Result, Ok}
use Rattle.std.proofs.Common.{Err}
use Rattle.std.proofs.Common.{sym, ap, ◌∙◌, subst}
use Rattle.std.specs.Io.KnownBytes.{Appends}
use Rattle.unity_base.specs.Streams.{AppendsPart}
use Rattle.unity_syntax.specs.declared.document.Document.{Document}
use Rattle.meaning_states.specs.State.{State, Ranges, is_state}
use Rattle.meaning_documents.specs.Setting.{slot_ranges}
use Rattle.meaning_documents.specs.Programs.{Composed, document_setting}
use Rattle.meaning_executions.specs.Execution.{System}
use Rattle.meaning_executions.specs.Rounds.{rounds}
use Rattle.meaning_executions.specs.Alike.{StepEquivalent}
use Rattle.names_rules.specs.WellNamed.{IsWellNamed}
use Rattle.core_terms.specs.declared.programs.CProgram.{CProgram}
use Rattle.core_terms.specs.Conditions.{IsCoreDocument}
use Rattle.core_terms.specs.Steps.{slot_ranges as core_ranges}
use Rattle.core_terms.specs.Values.{form_value}
use Rattle.executor.specs.CoreSystem.{core_system}
use Rattle.executor.specs.declared.runner.Stepped.{Stepped}
use Rattle.schedule_replay.specs.declared.heading.Heading.{Heading}
use Rattle.schedule_replay.specs.Schedules.{turns}
use Rattle.schedule_replay.specs.Lines.{rounds_line, heading_line as core_heading_line, state_line as core_state_line}
use Rattle.run_traces.specs.declared.trace_error.TraceError.{TraceError}
use Rattle.run_traces.specs.declared.error.RunError.{RunError}
use Rattle.run_traces.specs.Traces.{all_defined, ending, steps_text as core_steps_text}
use Rattle.run_traces.proofs.TraceTheorems.{steps_same}
use Rattle.run_correct.specs.from_expand_documents.Cores.{core_document}
use Rattle.run_correct.specs.from_expand_documents.Faults.{expansion_fault}
use Rattle.run_correct.specs.from_expand_correct.Preserved.Meaning.{IsCoreProgramOf}
use Rattle.run_correct.proofs.lemmas_from_expand_correct.Values.Operations.{two}
use Rattle.run_correct.proofs.lemmas_from_expand_correct.Preserved.Meaning.{slots_match, programs_alike}
use Rattle.fixed_runs.specs.Traces.{fixed_after, up_to, fixed_lines, fixed_choices, fixed_text, fixed_defined}
use Rattle.fixed_runs.specs.Answers.{CoreFixedTraces, CoreFixedRunTraces}
use Rattle.run_correct.specs.Traces.{source_system, first_state, heading_line, state_line, steps_text}
use Rattle.run_correct.specs.Laws.{NamesMatch}
use Rattle.run_correct.proofs.Names.{all_names_match}
use Rattle.run_correct.proofs.Texts.{heading_same, first_same, lines_same, start_state_is, and_is}
use Rattle.run_correct.proofs.Finding.{called_source, no_program_source}
use Rattle.fixed_correct.specs.Traces.{fixed_trace}
use Rattle.fixed_correct.specs.Answers.{FixedTraces, FixedRunTraces}
use Rattle.fixed_correct.specs.Laws.{FixedRunsSay}
use Rattle.fixed_correct.proofs.Points.{after_same}

-- a trace up to a place is that of the source, whose steps and names are the same
abbrev text_with : Document → CProgram → System → State → Option ℕ → List ℕ → ℕ → List ℕ
text_with d p x start found choices k =
    core_heading_line (core_document d) p Heading.Run ++ core_state_line (core_document d) p 0 None start
    ++ core_steps_text (core_document d) p x
    (fixed_lines found ++ rounds_line (rounds (up_to found choices) k)) 0 start (up_to found choices)

names_text : (d : Document) (name : List ℕ) (c : Composed) (p : CProgram) → NamesMatch d name c p →
    (start : State) (choices : List ℕ) → length p.statements ≡ length c.instances →
    fixed_text (core_document d) p (source_system d c) start choices ≡ fixed_trace d name c start choices
names_text d name c p h start choices count =
    let x = source_system d c in
    let found = fixed_after x start choices in
    let last = fixed_lines found ++ rounds_line (rounds (up_to found choices) (length c.instances)) in
    ap (text_with d p x start found choices) count
    ∙ two (λ (xs ys : List ℕ). xs ++ ys) (core_heading_line (core_document d) p Heading.Run
    ++ core_state_line (core_document d) p 0 None start)
    (heading_line name Heading.Run ++ state_line d name c 0 None start)
    (core_steps_text (core_document d) p x last 0 start (up_to found choices))
    (steps_text d name c last 0 start (up_to found choices))
    (two (λ (xs ys : List ℕ). xs ++ ys) _ _ _ _ (heading_same d name c p h Heading.Run)
    (first_same d name c p h start))
    (lines_same d name c p h last 0 start (up_to found choices))

-- what the start state and the trace of a core program are
record IsSame (d : Document) (name : List ℕ) (c : Composed) (p : CProgram) (choices : List ℕ) : Type 0 where
  initial : (source_system d c).initial (first_state d p) ≡ form_value (first_state d p) [] p.initially
  text : fixed_text (core_document d) p (core_system (core_document d).slots p) (first_state d p) choices
      ≡ fixed_trace d name c (first_state d p) choices
  defined : fixed_defined (core_system (core_document d).slots p) (first_state d p) choices
      ≡ fixed_defined (source_system d c) (first_state d p) choices

trace_same : (d : Document) (name : List ℕ) (c : Composed) (p : CProgram) (choices : List ℕ) → IsWellNamed d →
    IsCoreDocument (core_document d) → IsCoreProgramOf d name c p → IsSame d name c p choices
trace_same d name c p choices named whole h =
    let slots = (core_document d).slots in
    let start = first_state d p in
    let ranges = slot_ranges (document_setting d).variables in
    let x = source_system d c in
    let y = core_system slots p in
    let alike : StepEquivalent ranges x y = programs_alike d name c p h in
    let fits = start_state_is d name c p whole h in
    let inside = subst (λ (r : Ranges). IsTrue (is_state r start)) (slots_match d) fits in
    let after = after_same ranges x y alike start choices inside in
    let found = fixed_after x start choices in
    let made = up_to found choices in
    let last = fixed_lines found ++ rounds_line (rounds made (length p.statements)) in
    let same = steps_same (core_document d) p x y (is_state ranges)
    (λ choice state next t e. alike.keeps state next choice t e) (λ choice state t. alike.steps state choice t)
    last 0 start made inside in
    record {
      initial = alike.starts start ∙ and_is (is_state (core_ranges slots) start) (form_value start [] p.initially) fits;
      text = ap (λ m. text_with d p y start m choices (length p.statements)) (sym after)
          ∙ ap (λ text. core_heading_line (core_document d) p Heading.Run
          ++ core_state_line (core_document d) p 0 None start ++ text) (sym same.0)
          ∙ names_text d name c p (all_names_match d name c p named h) start choices h.matches.count;
      defined = ap (λ m. all_defined y start (up_to m choices)) (sym after) ∙ sym same.1;
    }

traces_say : (d : Document) (name : List ℕ) (c : Composed) (p : CProgram) (choices : List ℕ)
    (old new : Option (List ℕ)) (answer : Result Stepped TraceError) → IsWellNamed d →
    IsCoreDocument (core_document d) → IsCoreProgramOf d name c p →
    CoreFixedTraces (core_document d) p (first_state d p) choices old new answer →
    FixedTraces d name c p choices old new answer
traces_say d name c p choices old new (Ok end) named whole h t =
    let same = trace_same d name c p choices named whole h in record {
      initial = same.initial ∙ t.initial;
      whole = subst (λ (text : List ℕ). Appends old new text) same.text t.whole;
      ending_is = t.ending_is ∙ ap (λ b. ending b) same.defined;
    }
traces_say d name c p choices old new (Err TraceError.NotInitial) named whole h t =
    let same = trace_same d name c p choices named whole h in (same.initial ∙ t.0, t.1)
traces_say d name c p choices old new (Err TraceError.Failed) named whole h t =
    let same = trace_same d name c p choices named whole h in
    (same.initial ∙ t.0, subst (λ (text : List ℕ). AppendsPart old new text) same.text t.1)
traces_say d name c p choices old new (Err TraceError.Memory) named whole h t = t

run_traces : (d : Document) (name : List ℕ) (steps : ℕ) (old new : Option (List ℕ))
    (answer : Result Stepped TraceError) →
    IsWellNamed d → expansion_fault d ≡ None → IsCoreDocument (core_document d) →
    CoreFixedRunTraces (core_document d) name steps old new answer → FixedRunTraces d name steps old new answer
run_traces d name steps old new answer named fault whole r =
    let s = called_source d named fault name r.0 r.1 in (
      s.0,
      r.0,
      s.1,
      subst (λ k. FixedTraces d name s.0 r.0 (turns k steps) old new answer) s.1.matches.count
          (traces_say d name s.0 r.0 (turns (length r.0.statements) steps) old new answer named whole s.1 r.2),
    )

pub fixed_runs_say : FixedRunsSay
fixed_runs_say d name steps old new (Ok end) named fault whole r =
    run_traces d name steps old new (Ok end) named fault whole r
fixed_runs_say d name steps old new (Err RunError.NoProgram) named fault whole r =
    (no_program_source d named fault name r.0, r.1)
fixed_runs_say d name steps old new (Err RunError.NoSchedule) named fault whole r = r
fixed_runs_say d name steps old new (Err (RunError.NoSuchStatement at)) named fault whole r = r
fixed_runs_say d name steps old new (Err RunError.NotInitial) named fault whole r =
    run_traces d name steps old new (Err TraceError.NotInitial) named fault whole r
fixed_runs_say d name steps old new (Err RunError.Failed) named fault whole r =
    run_traces d name steps old new (Err TraceError.Failed) named fault whole r
fixed_runs_say d name steps old new (Err RunError.Memory) named fault whole r =
    run_traces d name steps old new (Err TraceError.Memory) named fault whole r
