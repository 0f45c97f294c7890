-- What `replay` answers over the core form of a document is what it answers over the document.
use Rattle.std.proofs.Common.{◌≡◌, ℕ, List, [], ◌∷◌, map, Bool, true, false, cond, Option, Some, None, option_map}
use Rattle.std.proofs.Common.{Result, Ok, Err, refl, sym, ap, ◌∙◌}
use Rattle.std.specs.Prelude.{find, is_none}
use Rattle.unity_syntax.specs.declared.term.Inst.{Inst}
use Rattle.unity_syntax.specs.declared.document.Schedule.{Schedule}
use Rattle.unity_syntax.specs.declared.document.Document.{Document}
use Rattle.meaning_documents.specs.Programs.{Composed}
use Rattle.names_rules.specs.Declarations.{some_of}
use Rattle.names_rules.specs.WellNamed.{IsWellNamed}
use Rattle.core_terms.specs.declared.programs.CStmt.{CStmt}
use Rattle.core_terms.specs.declared.programs.CProgram.{CProgram}
use Rattle.core_terms.specs.declared.documents.Choice.{Choice}
use Rattle.core_terms.specs.declared.documents.CSchedule.{CSchedule}
use Rattle.core_terms.specs.Conditions.{IsCoreDocument}
use Rattle.expand_declarations.specs.Texts.{document_texts}
use Rattle.expand_declarations.specs.WordNumbers.{document_words}
use Rattle.expand_correct.specs.Declared.WordLaws.{is_among}
use Rattle.expand_declarations.specs.References.{core_choice, core_schedule}
use Rattle.expand_correct.proofs.Values.Operations.{two}
use Rattle.executor.specs.declared.runner.Stepped.{Stepped}
use Rattle.schedule_replay.specs.declared.heading.Heading.{Heading}
use Rattle.schedule_replay.specs.Schedules.{IsSchedule, first_unknown, place_of as core_place_of}
use Rattle.schedule_replay.specs.Schedules.{IsUnknownChoice as IsCoreUnknown}
use Rattle.run_traces.specs.declared.trace_error.TraceError.{TraceError}
use Rattle.run_traces.specs.declared.error.RunError.{RunError}
use Rattle.run_traces.specs.Programs.{scheduled_program}
use Rattle.run_traces.specs.Answers.{CoreReplayTraces}
use Rattle.run_traces.proofs.FindingLaws.{named_statements, no_schedule}
use Rattle.expand_correct.specs.Exact.Parts.{EachItem}
use Rattle.expand_correct.specs.from_expand_documents.Cores.{core_document}
use Rattle.expand_correct.specs.from_expand_documents.Faults.{expansion_fault}
use Rattle.run_correct.specs.Names.{place_of}
use Rattle.run_correct.specs.Answers.{ReplayTraces, IsUnknown}
use Rattle.run_correct.specs.Laws.{NamesMatch, ReplaysSay}
use Rattle.run_correct.proofs.Lists.{behind, some_same}
use Rattle.run_correct.proofs.Names.{all_names_match, place_alike}
use Rattle.run_correct.proofs.Texts.{traces_say}
use Rattle.run_correct.proofs.Finding.{HasSchedule, scheduled_source, no_schedule_source, labels_among}

module _ (d : Document) (name : List ℕ) (c : Composed) (p : CProgram) (h : NamesMatch d name c p) where
  abbrev core_choices : List Inst → List Choice
  core_choices is = map (core_choice (document_words d)) is

  abbrev AreWritten : List Inst → Type 0
  AreWritten is = EachItem (λ (i : Inst). is_among (document_texts d) i.label.text ≡ true) is

  -- the places of the instances that choices name
  places_same : (is : List Inst) → AreWritten is →
      map (core_place_of p.statements) (core_choices is) ≡ map (place_of c) is
  places_same [] w = refl
  places_same (i ∷ is) w = two (λ (o : Option ℕ) (os : List (Option ℕ)). o ∷ os)
      (core_place_of p.statements (core_choice (document_words d) i)) (place_of c i)
      (map (core_place_of p.statements) (core_choices is)) (map (place_of c) is)
      (place_alike d name c p h i (w 0 i refl))
      (places_same is (behind (λ (j : Inst). is_among (document_texts d) j.label.text ≡ true) i is w))

  -- the byte of the first that names none
  unknown_same : (is : List Inst) → AreWritten is →
      option_map (λ (x : Choice). x.at) (first_unknown p.statements (core_choices is))
      ≡ option_map (λ (i : Inst). i.at) (find (λ i. is_none (place_of c i)) is)
  unknown_same [] w = refl
  unknown_same (i ∷ is) w =
      let place = core_place_of p.statements (core_choice (document_words d) i) in
      by (is_none place) (is_none (place_of c i))
      (ap (λ (o : Option ℕ). is_none o) (place_alike d name c p h i (w 0 i refl)))
      (unknown_same is (behind (λ (j : Inst). is_among (document_texts d) j.label.text ≡ true) i is w))
    where
      by : (a b : Bool) → a ≡ b →
          option_map (λ (x : Choice). x.at) (first_unknown p.statements (core_choices is))
          ≡ option_map (λ (j : Inst). j.at) (find (λ j. is_none (place_of c j)) is) →
          option_map (λ (x : Choice). x.at) (cond a (Some (core_choice (document_words d) i))
          (first_unknown p.statements (core_choices is)))
          ≡ option_map (λ (j : Inst). j.at) (cond b (Some i) (find (λ j. is_none (place_of c j)) is))
      by true true e rest = refl
      by true false e rest = cc
      by false true e rest = cc
      by false false e rest = rest

-- the schedule of the core form is that of the document
schedule_same : (d : Document) (s : Schedule) (core : CSchedule) → d.schedule ≡ Some s →
    (core_document d).schedule ≡ Some core → core_schedule (document_words d) s ≡ core
schedule_same d s core there e = some_same (core_schedule (document_words d) s) core
    (sym (ap (option_map (core_schedule (document_words d))) there) ∙ e)

-- the instances at these places are those that the document's schedule names
pub named_same : (d : Document) (p : CProgram) (choices : List ℕ) → IsWellNamed d → (h : HasSchedule d p) →
    scheduled_program (core_document d) ≡ Some p → IsSchedule (core_document d) choices →
    map Some choices ≡ map (place_of h.program) (some_of h.schedule.choices)
named_same d p choices named h found i =
    let s = h.schedule in
    let same = schedule_same d s i.schedule h.there i.there in
    let statements = named_statements (core_document d) i.schedule p i.there found in
    i.named ∙ ap (λ (ss : List CStmt). map (core_place_of ss) i.schedule.choices) statements
    ∙ ap (λ (x : CSchedule). map (core_place_of p.statements) x.choices) (sym same)
    ∙ places_same d s.program.text h.program p (all_names_match d s.program.text h.program p named h.core)
    (some_of s.choices) (labels_among d s h.there)

unknown_by : (d : Document) (p : CProgram) (at : ℕ) → IsWellNamed d → HasSchedule d p →
    scheduled_program (core_document d) ≡ Some p → IsCoreUnknown (core_document d) at → IsUnknown d at
unknown_by d p at named h found i =
    let s = h.schedule in
    let same = schedule_same d s i.schedule h.there i.there in
    let statements = named_statements (core_document d) i.schedule p i.there found in
    record {
      schedule = s;
      there = h.there;
      program = h.program;
      source = h.core.source;
      first = sym (unknown_same d s.program.text h.program p
          (all_names_match d s.program.text h.program p named h.core) (some_of s.choices) (labels_among d s h.there))
          ∙ ap (λ (x : CSchedule). option_map (λ (y : Choice). y.at) (first_unknown p.statements x.choices)) same
          ∙ ap (λ (ss : List CStmt). option_map (λ (y : Choice). y.at) (first_unknown ss i.schedule.choices))
          (sym statements) ∙ i.first;
    }

-- a document whose schedule names an instance that isn't there
pub unknown_source : (d : Document) (at : ℕ) → IsWellNamed d → expansion_fault d ≡ None →
    IsCoreDocument (core_document d) → IsCoreUnknown (core_document d) at → IsUnknown d at
unknown_source d at named fault whole i = by (scheduled_program (core_document d)) refl
  where
    by : (o : Option CProgram) → scheduled_program (core_document d) ≡ o → IsUnknown d at
    by None e = let never : None ≡ Some i.schedule = sym (no_schedule (core_document d) whole e) ∙ i.there in cc
    by (Some p) e = unknown_by d p at named (scheduled_source d named fault p e) e i

replay_traces : (d : Document) (old new : Option (List ℕ)) (answer : Result Stepped TraceError) → IsWellNamed d →
    expansion_fault d ≡ None → IsCoreDocument (core_document d) → CoreReplayTraces (core_document d) old new answer →
    ReplayTraces d old new answer
replay_traces d old new answer named fault whole r =
    let h = scheduled_source d named fault r.0 r.2 in (
      h.schedule,
      h.program,
      r.0,
      r.1,
      record { there = h.there; core = h.core; named = named_same d r.0 r.1 named h r.2 r.3 },
      traces_say d h.schedule.program.text h.program r.0 Heading.Replay r.1 old new answer named whole h.core r.4,
    )

pub replays_say : ReplaysSay
replays_say d old new (Ok end) named fault whole r = replay_traces d old new (Ok end) named fault whole r
replays_say d old new (Err RunError.NoProgram) named fault whole r = r
replays_say d old new (Err RunError.NoSchedule) named fault whole r = (no_schedule_source d r.0, r.1)
replays_say d old new (Err (RunError.NoSuchStatement at)) named fault whole r =
    (unknown_source d at named fault whole r.0, r.1)
replays_say d old new (Err RunError.NotInitial) named fault whole r =
    replay_traces d old new (Err TraceError.NotInitial) named fault whole r
replays_say d old new (Err RunError.Failed) named fault whole r =
    replay_traces d old new (Err TraceError.Failed) named fault whole r
replays_say d old new (Err RunError.Memory) named fault whole r =
    let h = scheduled_source d named fault r.0 r.1 in (h.schedule, h.there, r.2)
