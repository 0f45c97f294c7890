-- A document's schedule is not watched for one cause, and not where its trace ends.
use Rattle.std.proofs.Common.{◌≡◌, ◌≤◌, ℕ, List, [], ◌∷◌, map, Bool, true, false, cond, Option, Some, None, Result}
use Rattle.std.proofs.Common.{Ok, Err, refl, sym, ap, ◌∙◌, arith, find, is_none}
use Rattle.std.specs.Option.{option_map}
use Rattle.unity_syntax.specs.declared.document.Document.{Document}
use Rattle.unity_syntax.specs.declared.document.Schedule.{Schedule}
use Rattle.unity_syntax.specs.declared.term.Inst.{Inst}
use Rattle.meaning_documents.specs.Programs.{Composed, program_named, programs_of}
use Rattle.names_rules.specs.Declarations.{some_of}
use Rattle.rules_table.specs.Walk.{Failure, Plan}
use Rattle.watch_schedules.specs.from_proof_plans.declared.plans.StepFault.{StepFault}
use Rattle.watch_schedules.specs.from_proof_plans.Verdicts.{rule_fault}
use Rattle.run_correct.specs.from_expand_documents.Cores.{core_document}
use Rattle.run_correct.specs.Answers.{IsUnknown}
use Rattle.run_correct.specs.Names.{place_of}
use Rattle.run_correct.specs.Traces.{first_state, source_system}
use Rattle.trace_watch.specs.declared.tracing.Ending.{Ending}
use Rattle.trace_watch.specs.Cases.{total_cases}
use Rattle.watch_schedules.specs.declared.error.WatchStop.{WatchStop}
use Rattle.watch_schedules.specs.Schedules.{is_proved}
use Rattle.watch_correct.specs.Watched.{HasManyCases, HasNoPlan, HasNoProof, ScheduleHasNoStart, IsWatched, Planned}
use Rattle.watch_correct.specs.Watched.{Proved}
use Rattle.watch_correct.specs.Watched.{Replay}
use Rattle.watch_correct.specs.Watched.{Started}
use Rattle.watch_correct.specs.Laws.{OneStop, NoStop}
use Rattle.watch_correct.proofs.Finding.{moved_plan, one_replay, replay_in}

-- ---- what excludes what

pub has_schedule : (d : Document) (s : Schedule) → d.schedule ≡ Some s → d.schedule ≡ None → ⊥
has_schedule d s a none =
    let never : ◌≡◌ {A = Option Schedule} (Some s) None = sym a ∙ none in
    cc

same_schedule : (d : Document) (s t : Schedule) → d.schedule ≡ Some s → d.schedule ≡ Some t → s ≡ t
same_schedule d s t a b =
    let somes : ◌≡◌ {A = Option Schedule} (Some s) (Some t) = sym a ∙ b in
    cc

-- a schedule all of whose choices name instances has none that names none
pub none_missing : (c : Composed) (xs : List ℕ) (choices : List Inst) → map Some xs ≡ map (place_of c) choices →
    find (λ i. is_none (place_of c i)) choices ≡ None
none_missing c xs [] e = refl
none_missing c [] (i ∷ rest) e = cc
none_missing c (x ∷ xs) (i ∷ rest) e =
    let first : Some x ≡ place_of c i = ap head_of e in
    let others : map Some xs ≡ map (place_of c) rest = ap tail_of e in
    ap (λ o. find_step o rest) (sym first) ∙ none_missing c xs rest others
  where
    head_of : List (Option ℕ) → Option ℕ
    head_of [] = None
    head_of (o ∷ os) = o

    tail_of : List (Option ℕ) → List (Option ℕ)
    tail_of [] = []
    tail_of (o ∷ os) = os

    find_step : Option ℕ → List Inst → Option Inst
    find_step o more = cond (is_none o) (Some i) (find (λ j. is_none (place_of c j)) more)

unknown_no_replay : (d : Document) (at : ℕ) → IsUnknown d at → Replay d → ⊥
unknown_no_replay d at u r =
    let schedules = same_schedule d r.schedule u.schedule r.replay_is.there u.there in
    let sources : ◌≡◌ {A = Option Composed} (Some r.program) (Some u.program) =
    sym r.replay_is.core.source ∙ ap (λ x. program_named x.program.text (programs_of d)) schedules ∙ u.source in
    let programs : r.program ≡ u.program = cc in
    let named = r.replay_is.named ∙ ap (λ x. map (place_of r.program) (some_of x.choices)) schedules
    ∙ ap (λ x. map (place_of x) (some_of u.schedule.choices)) programs in
    let none = none_missing u.program r.choices (some_of u.schedule.choices) named in
    let never : ◌≡◌ {A = Option ℕ} None (Some at) = sym (ap (option_map (λ i. i.at)) none) ∙ u.first in
    cc

no_start_no_started : (d : Document) → ScheduleHasNoStart d → Started d → ⊥
no_start_no_started d a b =
    let same = one_replay d a.replay b.replay in
    let never : ◌≡◌ {A = Bool} false true =
    sym a.not_initial ∙ ap (λ c. (source_system d c).initial (first_state d a.replay.core)) same.programs
    ∙ ap (λ p. (source_system d b.replay.program).initial (first_state d p)) same.cores ∙ b.initial in
    cc

no_proof_no_proved : (d : Document) → HasNoProof d → Proved d → ⊥
no_proof_no_proved d a b =
    let same = one_replay d a.started.replay b.started.replay in
    let never : ◌≡◌ {A = Bool} false true =
    sym a.unproved ∙ ap (is_proved (core_document d)) same.cores ∙ b.proved in
    cc

no_plan_no_planned : (d : Document) (fault : StepFault) → HasNoPlan d fault → Planned d → ⊥
no_plan_no_planned d fault a b =
    let never : ◌≡◌ {A = Result Plan Failure} (Err a.failure.0) (Ok b.plan) = sym a.failure.1 ∙ b.planned in
    cc

many_no_ending : (d : Document) (ending : Ending) (text : List ℕ) → HasManyCases d → IsWatched d ending text → ⊥
many_no_ending d ending text a b =
    let few = moved_plan d (λ c p xs plan. total_cases p plan.records ≤ 4096) b.planned a.planned b.ending_is.few in
    let many = a.many in
    omega (arith, few, many)

-- ---- one of each

pub one_unknown : (d : Document) (at other : ℕ) → IsUnknown d at → IsUnknown d other → at ≡ other
one_unknown d at other a b =
    let schedules = same_schedule d a.schedule b.schedule a.there b.there in
    let sources : ◌≡◌ {A = Option Composed} (Some a.program) (Some b.program) =
    sym a.source ∙ ap (λ x. program_named x.program.text (programs_of d)) schedules ∙ b.source in
    let programs : a.program ≡ b.program = cc in
    let places : ◌≡◌ {A = Option ℕ} (Some at) (Some other) =
    sym a.first ∙ ap (λ x. first_unknown a.program x) schedules ∙ ap (λ x. first_unknown x b.schedule) programs
    ∙ b.first in
    cc
  where
    first_unknown : Composed → Schedule → Option ℕ
    first_unknown c s = option_map (λ i. i.at) (find (λ i. is_none (place_of c i)) (some_of s.choices))

one_fault : (d : Document) (f g : StepFault) → HasNoPlan d f → HasNoPlan d g → f ≡ g
one_fault d f g a b =
    let failures : ◌≡◌ {A = Result Plan Failure} (Err a.failure.0) (Err b.failure.0) =
    sym a.failure.1 ∙ b.failure.1 in
    let same : a.failure.0 ≡ b.failure.0 = cc in
    a.failure.2 ∙ ap (λ e. rule_fault e.program e.step e.code) same ∙ sym b.failure.2

-- ---- one cause

pub one_stop : OneStop
one_stop d WatchStop.NoSchedule WatchStop.NoSchedule one two h k = refl
one_stop d WatchStop.NoSchedule (WatchStop.NoSuchStatement other) one two h k =
    absurd (has_schedule d k.schedule k.there h)
one_stop d WatchStop.NoSchedule WatchStop.NotInitial one two h k =
    absurd (has_schedule d k.replay.schedule k.replay.replay_is.there h)
one_stop d WatchStop.NoSchedule WatchStop.NoProof one two h k =
    absurd (has_schedule d k.started.replay.schedule k.started.replay.replay_is.there h)
one_stop d WatchStop.NoSchedule (WatchStop.Step more) one two h k =
    absurd (has_schedule d k.proved.started.replay.schedule k.proved.started.replay.replay_is.there h)
one_stop d WatchStop.NoSchedule WatchStop.TooManyCases one two h k =
    absurd (has_schedule d k.planned.proved.started.replay.schedule k.planned.proved.started.replay.replay_is.there h)
one_stop d (WatchStop.NoSuchStatement at) WatchStop.NoSchedule one two h k =
    absurd (has_schedule d h.schedule h.there k)
one_stop d (WatchStop.NoSuchStatement at) (WatchStop.NoSuchStatement other) one two h k =
    ap WatchStop.NoSuchStatement (one_unknown d at other h k)
one_stop d (WatchStop.NoSuchStatement at) WatchStop.NotInitial one two h k =
    absurd (unknown_no_replay d at h k.replay)
one_stop d (WatchStop.NoSuchStatement at) WatchStop.NoProof one two h k =
    absurd (unknown_no_replay d at h k.started.replay)
one_stop d (WatchStop.NoSuchStatement at) (WatchStop.Step more) one two h k =
    absurd (unknown_no_replay d at h k.proved.started.replay)
one_stop d (WatchStop.NoSuchStatement at) WatchStop.TooManyCases one two h k =
    absurd (unknown_no_replay d at h k.planned.proved.started.replay)
one_stop d WatchStop.NotInitial WatchStop.NoSchedule one two h k =
    absurd (has_schedule d h.replay.schedule h.replay.replay_is.there k)
one_stop d WatchStop.NotInitial (WatchStop.NoSuchStatement other) one two h k =
    absurd (unknown_no_replay d other k h.replay)
one_stop d WatchStop.NotInitial WatchStop.NotInitial one two h k = refl
one_stop d WatchStop.NotInitial WatchStop.NoProof one two h k = absurd (no_start_no_started d h k.started)
one_stop d WatchStop.NotInitial (WatchStop.Step more) one two h k = absurd (no_start_no_started d h k.proved.started)
one_stop d WatchStop.NotInitial WatchStop.TooManyCases one two h k =
    absurd (no_start_no_started d h k.planned.proved.started)
one_stop d WatchStop.NoProof WatchStop.NoSchedule one two h k =
    absurd (has_schedule d h.started.replay.schedule h.started.replay.replay_is.there k)
one_stop d WatchStop.NoProof (WatchStop.NoSuchStatement other) one two h k =
    absurd (unknown_no_replay d other k h.started.replay)
one_stop d WatchStop.NoProof WatchStop.NotInitial one two h k = absurd (no_start_no_started d k h.started)
one_stop d WatchStop.NoProof WatchStop.NoProof one two h k = refl
one_stop d WatchStop.NoProof (WatchStop.Step more) one two h k = absurd (no_proof_no_proved d h k.proved)
one_stop d WatchStop.NoProof WatchStop.TooManyCases one two h k = absurd (no_proof_no_proved d h k.planned.proved)
one_stop d (WatchStop.Step fault) WatchStop.NoSchedule one two h k =
    absurd (has_schedule d h.proved.started.replay.schedule h.proved.started.replay.replay_is.there k)
one_stop d (WatchStop.Step fault) (WatchStop.NoSuchStatement other) one two h k =
    absurd (unknown_no_replay d other k h.proved.started.replay)
one_stop d (WatchStop.Step fault) WatchStop.NotInitial one two h k = absurd (no_start_no_started d k h.proved.started)
one_stop d (WatchStop.Step fault) WatchStop.NoProof one two h k = absurd (no_proof_no_proved d k h.proved)
one_stop d (WatchStop.Step fault) (WatchStop.Step more) one two h k = ap WatchStop.Step (one_fault d fault more h k)
one_stop d (WatchStop.Step fault) WatchStop.TooManyCases one two h k = absurd (no_plan_no_planned d fault h k.planned)
one_stop d WatchStop.TooManyCases WatchStop.NoSchedule one two h k =
    absurd (has_schedule d h.planned.proved.started.replay.schedule h.planned.proved.started.replay.replay_is.there k)
one_stop d WatchStop.TooManyCases (WatchStop.NoSuchStatement other) one two h k =
    absurd (unknown_no_replay d other k h.planned.proved.started.replay)
one_stop d WatchStop.TooManyCases WatchStop.NotInitial one two h k =
    absurd (no_start_no_started d k h.planned.proved.started)
one_stop d WatchStop.TooManyCases WatchStop.NoProof one two h k = absurd (no_proof_no_proved d k h.planned.proved)
one_stop d WatchStop.TooManyCases (WatchStop.Step more) one two h k = absurd (no_plan_no_planned d more k h.planned)
one_stop d WatchStop.TooManyCases WatchStop.TooManyCases one two h k = refl
one_stop d WatchStop.Memory b one two h k = absurd one
one_stop d a WatchStop.Memory one two h k = absurd two

-- ---- no cause where the trace ends

pub no_stop : NoStop
no_stop d WatchStop.NoSchedule one h ending text w =
    let r = replay_in d w.planned in has_schedule d r.schedule r.replay_is.there h
no_stop d (WatchStop.NoSuchStatement at) one h ending text w = unknown_no_replay d at h (replay_in d w.planned)
no_stop d WatchStop.NotInitial one h ending text w = no_start_no_started d h w.planned.proved.started
no_stop d WatchStop.NoProof one h ending text w = no_proof_no_proved d h w.planned.proved
no_stop d (WatchStop.Step fault) one h ending text w = no_plan_no_planned d fault h w.planned
no_stop d WatchStop.TooManyCases one h ending text w = many_no_ending d ending text h w
no_stop d WatchStop.Memory one h ending text w = absurd one
