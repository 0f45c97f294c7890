-- What is found of a document in core form is found of the document.
use Rattle.std.proofs.Common.{◌≡◌, ◌<◌, ◌≤◌, ◌+◌, ◌⊎◌, inl, inr, ℕ, zero, suc, nat_lt, List, [], ◌∷◌}
use Rattle.std.proofs.Common.{map, length, Bool, true, false, cond, Option, Some, None, Result, Ok, Err}
use Rattle.std.proofs.Common.{refl, sym, ap, ◌∙◌, subst, slice_get, arith, take, unwrap_or, option_and_then}
use Rattle.std.specs.Option.{option_map}
use Rattle.std.specs.List.{position_from}
use Rattle.std.proofs.lemmas.List.{length-map}
use Rattle.unity_syntax.specs.declared.document.Document.{Document}
use Rattle.unity_syntax.specs.declared.document.Schedule.{Schedule}
use Rattle.unity_syntax.specs.declared.term.Inst.{Inst}
use Rattle.meaning_documents.specs.Programs.{Composed}
use Rattle.names_rules.specs.Declarations.{some_of}
use Rattle.core_terms.specs.declared.programs.CProgram.{CProgram}
use Rattle.core_terms.specs.Steps.{core_step}
use Rattle.executor.specs.CoreSystem.{core_system}
use Rattle.rules_table.specs.Walk.{Failure, Plan, walk_of}
use Rattle.watch_laws.specs.from_rules_steps.Starts.{starts_in}
use Rattle.watch_schedules.specs.from_proof_plans.declared.plans.StepFault.{StepFault}
use Rattle.watch_schedules.specs.from_proof_plans.Verdicts.{rule_fault}
use Rattle.schedule_replay.specs.declared.heading.Heading.{Heading}
use Rattle.expand_declarations.specs.References.{core_schedule}
use Rattle.expand_declarations.specs.WordNumbers.{document_words}
use Rattle.run_correct.specs.from_expand_documents.Cores.{core_document}
use Rattle.run_correct.specs.from_expand_correct.Preserved.Meaning.{IsCoreProgramOf}
use Rattle.run_traces.specs.Programs.{program_of, scheduled_program}
use Rattle.run_correct.specs.Names.{chooses_instance, place_of}
use Rattle.run_correct.specs.Traces.{first_state, source_system}
use Rattle.run_correct.proofs.Finding.{no_schedule_source, scheduled_source}
use Rattle.run_correct.proofs.Replays.{named_same, unknown_source}
use Rattle.run_correct.proofs.Texts.{trace_same}
use Rattle.trace_watch.specs.declared.tracing.Ending.{Ending}
use Rattle.trace_watch.specs.declared.violations.Violation.{Violation}
use Rattle.trace_watch.specs.Cases.{total_cases, watched}
use Rattle.trace_watch.specs.Tracing.{EndsAs}
use Rattle.watch_laws.specs.Claimed.{claimed}
use Rattle.watch_laws.proofs.Accepted.{none_on_accepted}
use Rattle.watch_schedules.specs.declared.error.WatchStop.{WatchStop}
use Rattle.watch_schedules.specs.Schedules.{IsScheduled, is_proved, starts}
use Rattle.watch_schedules.specs.Telling.{ending_text}
use Rattle.watch_schedules.proofs.PlanLaws.{defined_watched}
use Rattle.watch_correct.specs.Watched.{HasManyCases, HasNoPlan, HasNoProof, Planned, Proved, Replay, Started}
use Rattle.watch_correct.specs.Laws.{HasCore, HasEnding, NoneViolated, OneEnding, SomeEnding, WatchesSay}
use Rattle.watch_correct.proofs.Endings.{one_ending, some_ending}
use Rattle.watch_correct.proofs.Sources.{ends_alike}

-- ---- the document's schedule

abbrev replay_of : (d : Document) (fits : HasCore d) (p : CProgram) (choices : List ℕ) →
    IsScheduled (core_document d) p choices → Replay d
replay_of d fits p choices h =
    record {
      schedule = (scheduled_source d fits.named fits.faultless p h.program).schedule;
      program = (scheduled_source d fits.named fits.faultless p h.program).program;
      core = p;
      choices = choices;
      replay_is = record {
        there = (scheduled_source d fits.named fits.faultless p h.program).there;
        core = (scheduled_source d fits.named fits.faultless p h.program).core;
        named = named_same d p choices fits.named (scheduled_source d fits.named fits.faultless p h.program) h.program
            h.choices_are;
      };
    }

-- its start state is an initial one exactly where that of the core form is
initial_same : (d : Document) (fits : HasCore d) (r : Replay d) →
    (source_system d r.program).initial (first_state d r.core) ≡ starts (core_document d) r.core
initial_same d fits r =
    (trace_same d r.schedule.program.text r.program r.core Heading.Replay r.choices fits.named fits.core
    r.replay_is.core).initial

abbrev started_of : (d : Document) (fits : HasCore d) (p : CProgram) (choices : List ℕ) →
    IsScheduled (core_document d) p choices → starts (core_document d) p ≡ true → Started d
started_of d fits p choices h initial = record {
  replay = replay_of d fits p choices h;
  initial = initial_same d fits (replay_of d fits p choices h) ∙ initial;
}

abbrev proved_of : (d : Document) (fits : HasCore d) (p : CProgram) (choices : List ℕ) →
    IsScheduled (core_document d) p choices → starts (core_document d) p ≡ true →
    is_proved (core_document d) p ≡ true → Proved d
proved_of d fits p choices h initial proved =
    record { started = started_of d fits p choices h initial; proved = proved }

pub watches_say : WatchesSay
watches_say d fits (Ok w) h =
    let r = replay_of d fits w.program.now w.choices h.scheduled in
    record {
      planned = record {
        proved = proved_of d fits w.program.now w.choices h.scheduled h.initial h.proved;
        plan = h.plan;
        planned = h.planned;
      };
      state = w.state.items;
      ending_is = record {
        few = h.few;
        ends = ends_alike d fits h.plan h.planned r.schedule.program.text r.program w.program.now r.replay_is.core
            (initial_same d fits r ∙ h.initial) w.choices w.state.items w.ending h.ends;
      };
      text_is = ap (λ rs. ending_text (core_document d) w.program.now w.choices rs w.state.items w.ending) h.records;
    }
watches_say d fits (Err WatchStop.NoSchedule) h = no_schedule_source d h
watches_say d fits (Err (WatchStop.NoSuchStatement at)) h =
    unknown_source d at fits.named fits.faultless fits.core h
watches_say d fits (Err WatchStop.NotInitial) h = record {
  replay = replay_of d fits h.0 h.1 h.2;
  not_initial = initial_same d fits (replay_of d fits h.0 h.1 h.2) ∙ h.3;
}
watches_say d fits (Err WatchStop.NoProof) h =
    record { started = started_of d fits h.0 h.1 h.2 h.3; unproved = h.4 }
watches_say d fits (Err (WatchStop.Step fault)) h =
    record { proved = proved_of d fits h.0 h.1 h.2 h.3 h.4; failure = h.5 }
watches_say d fits (Err WatchStop.TooManyCases) h = record {
  planned = record { proved = proved_of d fits h.0 h.1 h.3 h.4 h.5; plan = h.2; planned = h.6 };
  many = h.7;
}
watches_say d fits (Err WatchStop.Memory) h = tt

-- ---- one ending

all_there : (xs ys : List ℕ) → map Some xs ≡ map Some ys → xs ≡ ys
all_there xs ys e = sym (back xs) ∙ ap (map (λ o. unwrap_or o 0)) e ∙ back ys
  where
    back : (zs : List ℕ) → map (λ o. unwrap_or o 0) (map Some zs) ≡ zs
    back [] = refl
    back (z ∷ zs) = ap (λ r. z ∷ r) (back zs)

-- a document has one schedule, with one program, and one plan
pub record SameReplay (a b : Composed) (p q : CProgram) (xs ys : List ℕ) : Type 0 where
  pub programs : a ≡ b
  pub cores : p ≡ q
  pub choices : xs ≡ ys

pub one_replay : (d : Document) (a b : Replay d) →
    SameReplay a.program b.program a.core b.core a.choices b.choices
one_replay d a b =
    let schedules : ◌≡◌ {A = Option Schedule} (Some a.schedule) (Some b.schedule) =
    sym a.replay_is.there ∙ b.replay_is.there in
    let schedule : a.schedule ≡ b.schedule = cc in
    let moved = subst (λ x. IsCoreProgramOf d x.program.text a.program a.core) schedule a.replay_is.core in
    let sources : ◌≡◌ {A = Option Composed} (Some a.program) (Some b.program) =
    sym moved.source ∙ b.replay_is.core.source in
    let cores : ◌≡◌ {A = Option CProgram} (Some a.core) (Some b.core) =
    sym moved.found ∙ b.replay_is.core.found in
    let program : a.program ≡ b.program = cc in
    let core : a.core ≡ b.core = cc in
    let choices =
    a.replay_is.named ∙ ap (λ x. map (place_of a.program) (some_of x.choices)) schedule
    ∙ ap (λ x. map (place_of x) (some_of b.schedule.choices)) program ∙ sym b.replay_is.named in
    record { programs = program; cores = core; choices = all_there a.choices b.choices choices }

-- what is said of one is said of the other
moved_replay : (P : Composed → CProgram → List ℕ → Plan → Type 0) (a b : Composed) (p q : CProgram) (xs ys : List ℕ)
    (m n : Plan) → SameReplay a b p q xs ys → m ≡ n → P a p xs m → P b q ys n
moved_replay P a b p q xs ys m n same plans h =
    subst (λ x. P b q ys x) plans (subst (λ x. P b q x m) same.choices (subst (λ x. P b x xs m) same.cores
    (subst (λ x. P x p xs m) same.programs h)))

pub one_plan : (d : Document) (a b : Planned d) → a.plan ≡ b.plan
one_plan d a b =
    let plans : ◌≡◌ {A = Result Plan Failure} (Ok a.plan) (Ok b.plan) = sym a.planned ∙ b.planned in cc

abbrev pub replay_in : (d : Document) → Planned d → Replay d
replay_in d p = p.proved.started.replay

-- what is said of the replay and the plan of a document is said of any other of it
pub moved_plan : (d : Document) (P : Composed → CProgram → List ℕ → Plan → Type 0) (a b : Planned d) →
    P (replay_in d a).program (replay_in d a).core (replay_in d a).choices a.plan →
    P (replay_in d b).program (replay_in d b).core (replay_in d b).choices b.plan
moved_plan d P a b h =
    let r = replay_in d a in
    let s = replay_in d b in
    moved_replay P r.program s.program r.core s.core r.choices s.choices a.plan b.plan (one_replay d r s)
    (one_plan d a b) h

pub one_watched : OneEnding
one_watched d ending other text more a b =
    let s = replay_in d b.planned in
    let ends = one_ending (source_system d s.program) (claimed d s.core b.planned.plan.records) (first_state d s.core)
    s.choices a.state b.state ending other
    (moved_plan d (λ c p xs plan. EndsAs (source_system d c) (claimed d p plan.records) (first_state d p) xs a.state
    ending) a.planned b.planned a.ending_is.ends) b.ending_is.ends in
    let told = moved_plan d (λ c p xs plan. text ≡ ending_text (core_document d) p xs plan.records a.state ending)
    a.planned b.planned a.text_is in (
      ends.0,
      told
          ∙ ap (λ state. ending_text (core_document d) s.core s.choices b.planned.plan.records state ending) ends.1
          ∙ ap (λ e. ending_text (core_document d) s.core s.choices b.planned.plan.records b.state e) ends.0
          ∙ sym b.text_is,
    )

-- ---- some ending

place_below : {X : Type 0} (f : X → Bool) (i : ℕ) (xs : List X) (n : ℕ) → position_from f i xs ≡ Some n →
    (k : ℕ) × (n ≡ i + k) × (k < length xs)
place_below f i [] n e = cc
place_below {X} f i (x ∷ xs) n e = go (f x) e (place_below f (i + 1) xs n)
  where
    go : (b : Bool) → cond b (Some i) (position_from f (i + 1) xs) ≡ Some n →
        (position_from f (i + 1) xs ≡ Some n → (k : ℕ) × (n ≡ i + 1 + k) × (k < length xs)) →
        (k : ℕ) × (n ≡ i + k) × (k < length (x ∷ xs))
    go true h more = let same : i ≡ n = cc in (0, omega (arith, same), omega arith)
    go false h more = let k = more h in (suc k.0, omega (arith, k.1), omega (arith, k.2))

-- the choices of a schedule are instances of its program
chosen_below : (c : Composed) (xs : List ℕ) (is : List Inst) → map Some xs ≡ map (place_of c) is → (n x : ℕ) →
    slice_get xs n ≡ Some x → x < length c.instances
chosen_below c [] is e n x at = cc
chosen_below c (y ∷ ys) [] e n x at = cc
chosen_below c (y ∷ ys) (i ∷ is) e zero x at =
    let same : y ≡ x = cc in
    let first : Some y ≡ place_of c i = ap head_of e in
    let below = place_below (chooses_instance i) 0 c.instances x (sym first ∙ ap Some same) in
    omega (arith, below.1, below.2)
  where
    head_of : List (Option ℕ) → Option ℕ
    head_of [] = None
    head_of (o ∷ os) = o
chosen_below c (y ∷ ys) (i ∷ is) e (suc n) x at =
    let others : map Some ys ≡ map (place_of c) is = ap tail_of e in
    chosen_below c ys is others n x at
  where
    tail_of : List (Option ℕ) → List (Option ℕ)
    tail_of [] = []
    tail_of (o ∷ os) = os

-- the core form has the schedule of this program
scheduled_core : (d : Document) (r : Replay d) → scheduled_program (core_document d) ≡ Some r.core
scheduled_core d r =
    ap (λ (o : Option Schedule). option_and_then (program_of (core_document d))
    (option_map (core_schedule (document_words d)) o)) r.replay_is.there
    ∙ r.replay_is.core.found

pub planned_ends : (d : Document) → HasCore d → (planned : Planned d) →
    total_cases (replay_in d planned).core planned.plan.records ≤ 4096 → HasEnding d
planned_ends d fits planned few =
    let r = replay_in d planned in
    let x = core_system (core_document d).slots r.core in
    let defined = defined_watched (core_document d) fits.core r.core (scheduled_core d r) planned.proved.proved
    planned.plan planned.planned in
    let count = length-map r.core.statements (core_step (core_document d).slots) in
    let matches = r.replay_is.core.matches.count in
    let end = some_ending x (watched r.core planned.plan.records) defined (first_state d r.core) r.choices
    (λ n c at. let less = chosen_below r.program r.choices (some_of r.schedule.choices) r.replay_is.named n c at in
    omega (arith, less, count, matches)) in (
      end.1,
      ending_text (core_document d) r.core r.choices planned.plan.records end.0 end.1,
      record {
        planned = planned;
        state = end.0;
        ending_is = record {
          few = few;
          ends = ends_alike d fits planned.plan planned.planned r.schedule.program.text r.program r.core
              r.replay_is.core planned.proved.started.initial r.choices end.0 end.1 end.2;
        };
        text_is = refl;
      },
    )

abbrev Outcome : Document → Type 0
Outcome d = HasNoProof d ⊎ ((fault : StepFault) × HasNoPlan d fault) ⊎ HasManyCases d ⊎ HasEnding d

pub some_watched : SomeEnding
some_watched d fits started = by_proof (is_proved (core_document d) started.replay.core) refl
  where
    by_count : (planned : Planned d) (b : Bool) →
        nat_lt 4096 (total_cases (replay_in d planned).core planned.plan.records) ≡ b → Outcome d
    by_count planned true e = inr (inr (inl (record { planned = planned; many = grind (arith, e) })))
    by_count planned false e = inr (inr (inr (planned_ends d fits planned (grind (arith, e)))))

    by_plan : (proved : Proved d) (walked : Result Plan Failure) →
        walk_of (core_document d) (starts_in (core_document d).slots) ≡ walked → Outcome d
    by_plan proved (Ok plan) e =
        by_count (record { proved = proved; plan = plan; planned = e })
        (nat_lt 4096 (total_cases proved.started.replay.core plan.records)) refl
    by_plan proved (Err failure) e = inr (inl (
      rule_fault failure.program failure.step failure.code,
      record { proved = proved; failure = (failure, e, refl) },
    ))

    by_proof : (b : Bool) → is_proved (core_document d) started.replay.core ≡ b → Outcome d
    by_proof false e = inl (record { started = started; unproved = e })
    by_proof true e =
        by_plan (record { started = started; proved = e })
        (walk_of (core_document d) (starts_in (core_document d).slots)) refl

-- ---- nothing on an accepted document

pub none_violated : NoneViolated
none_violated d plan accepted place v text w =
    let r = replay_in d w.planned in
    let plans : ◌≡◌ {A = Result Plan Failure} (Ok w.planned.plan) (Ok plan) = sym w.planned.planned ∙ accepted.walked in
    let same : w.planned.plan ≡ plan = cc in
    let ends = subst (λ (m : Plan). EndsAs (source_system d r.program) (claimed d r.core m.records)
    (first_state d r.core) r.choices w.state (Ending.Violated place v)) same w.ending_is.ends in
    let none = none_on_accepted d (starts_in (core_document d).slots) plan accepted r.schedule.program.text r.program
    r.core r.replay_is.core (first_state d r.core) (take place r.choices) ends.0.later
    (record { starts = w.planned.proved.started.initial; steps = ends.0.steps }) place ends.1.within in
    let never : ◌≡◌ {A = Option Violation} (Some v) None = sym ends.1.violated ∙ none in
    cc
