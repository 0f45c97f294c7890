-- What is told of the trace of a document's schedule.
use Rattle.std.proofs.Common.{◌≡◌, ℕ, List, Option, Some, None, Result, Ok, Err, IfOk, refl, sym, ap, ◌∙◌, subst}
use Rattle.std.proofs.Common.{arith}
use Rattle.std.specs.Io.KnownBytes.{Appends}
use Rattle.unity_base.specs.Streams.{Was}
use Rattle.case_tables.specs.declared.code_table.Code.{Code}
use Rattle.unity_syntax.specs.declared.document.Document.{Document}
use Rattle.unity_parser.specs.Document.{IsDocument}
use Rattle.unity_parser.proofs.Readings.{one_document}
use Rattle.core_terms.specs.declared.documents.CDocument.{CDocument}
use Rattle.fixed_correct.specs.from_expand_documents.Cores.{core_document}
use Rattle.cli_texts.specs.Refusals.{fault_text, refusal_text}
use Rattle.cli_words.specs.Requests.{Request, watch}
use Rattle.trace_watch.specs.declared.tracing.Ending.{Ending}
use Rattle.watch_schedules.specs.declared.error.WatchStop.{WatchStop}
use Rattle.watch_schedules.specs.declared.watching.WatchedSchedule.{WatchedSchedule}
use Rattle.watch_schedules.specs.Schedules.{FindsWatched, IsWatchedSchedule as IsFound}
use Rattle.watch_schedules.specs.Telling.{schedule_text}
use Rattle.watch_correct.specs.Watched.{IsWatched, StopsWatching}
use Rattle.watch_correct.specs.Laws.{HasCore}
use Rattle.watch_correct.proofs.Finding.{none_violated, watches_say}
use Rattle.unity_cli.specs.declared.status.Status.{Status}
use Rattle.streamed_documents.specs.declared.found.ReadDocument.{ReadDocument}
use Rattle.unity_cli.specs.declared.input.Text.{Text}
use Rattle.unity_cli.specs.declared.output.Answer.{Answer as Told}
use Rattle.unity_cli.specs.Status.{HasText}
use Rattle.unity_cli.specs.Admitted.{greatest_size, IsAdmitted}
use Rattle.unity_cli.specs.Answer.{Answer, most_bytes}
use Rattle.unity_cli.specs.Answer.Watch.{ending_status, IsBroken, IsKeptTrace, IsNotWatched, Watched}
use Rattle.unity_cli.specs.Answer.Watch as watches
use Rattle.unity_cli.specs.Answering.{IsStoppedFor, IsWatchedIn, TellsText}
use Rattle.unity_cli.specs.Following.{FollowsTheRules}
use Rattle.unity_cli.specs.Input.{IsAdmittedAs, IsTextOf}
use Rattle.unity_cli.specs.Watching.{WritesEnding, WritesFirstViolation}
use Rattle.unity_cli.proofs.Accepted.{followed_accepts, proved_by, read_core, valid_by}

-- each answer has its whole text
pub watched_has_text : (bytes : List ℕ) (status : Status) (text : List ℕ) → Watched bytes status text → HasText status
watched_has_text bytes Status.Done text h = tt
watched_has_text bytes Status.Rejected text h = tt
watched_has_text bytes Status.BadDocument text h = tt
watched_has_text bytes Status.Refuted text h = tt
watched_has_text bytes Status.Budget text h = tt
watched_has_text bytes Status.Undefined text h = tt
watched_has_text bytes Status.BadWords text h = tt
watched_has_text bytes Status.ReadFault text h = h
watched_has_text bytes Status.WriteFault text h = h
watched_has_text bytes Status.WantOfMemory text h = h
watched_has_text bytes Status.Violated text h = tt

pub bad_watched : (bytes : List ℕ) (status : Status) (text meant : List ℕ) → status ≡ Status.BadDocument →
    text ≡ meant → IsNotWatched bytes meant → Watched bytes status text
bad_watched bytes status text meant e f h =
    subst (λ x. Watched bytes x text) (sym e) (subst (IsNotWatched bytes) (sym f) h)

-- ---- documents

core_read : (bytes : List ℕ) (d : Document) → IsAdmitted greatest_size bytes d → HasCore d
core_read bytes d read = record {
  named = read.reading.named;
  faultless = read.reading.expands;
  core = read_core greatest_size (omega arith) bytes d read;
}

ended_watched : (bytes : List ℕ) (d : Document) → IsAdmitted greatest_size bytes d → (ending : Ending)
    (text : List ℕ) → IsWatched d ending text → Watched bytes (ending_status ending) text
ended_watched bytes d read (Ending.Violated place v) text w = record {
  document = d;
  read = read;
  place = place;
  violation = v;
  watched = w;
}
ended_watched bytes d read Ending.Unviolated text w = record { document = d; read = read; watched = w }

-- the trace of a document's core form ends so: this is an answer for the bytes
pub found_watched : (r : ReadDocument) (w : WatchedSchedule) → IsFound r.core w → (status : Status)
    (text : List ℕ) → status ≡ ending_status w.ending → text ≡ schedule_text r.core w → (bytes : List ℕ) →
    IsAdmittedAs greatest_size bytes r → Watched bytes status text
found_watched r w found status text e t bytes is =
    let d = is.document in
    let found_core = subst (λ (c : CDocument). IsFound c w) is.core_is found in
    let told = watches_say d (core_read bytes d is.read) (Ok w) found_core in
    subst (λ s. Watched bytes s text) (sym e)
    (ended_watched bytes d is.read w.ending text
    (subst (IsWatched d w.ending) (sym (t ∙ ap (λ (c : CDocument). schedule_text c w) is.core_is)) told))

stopped_so : (bytes : List ℕ) (d : Document) → IsAdmitted greatest_size bytes d → (stop : WatchStop) →
    StopsWatching d stop → (a : Told) → IsStoppedFor (core_document d).words stop a →
    Watched bytes a.status a.text.items
stopped_so bytes d read WatchStop.NoSchedule h a s =
    bad_watched bytes a.status a.text.items (refusal_text Code.NoSchedule) s.0 s.1
    (watches.IsNotWatched.no_schedule d read h refl)
stopped_so bytes d read (WatchStop.NoSuchStatement at) h a s =
    bad_watched bytes a.status a.text.items (fault_text Code.NoSuchStatement at) s.0 s.1
    (watches.IsNotWatched.unknown d at read h refl)
stopped_so bytes d read WatchStop.NotInitial h a s =
    bad_watched bytes a.status a.text.items (refusal_text Code.NoStart) s.0 s.1
    (watches.IsNotWatched.no_start d read h refl)
stopped_so bytes d read WatchStop.NoProof h a s =
    bad_watched bytes a.status a.text.items (refusal_text Code.NoProof) s.0 s.1
    (watches.IsNotWatched.no_proof d read h refl)
stopped_so bytes d read (WatchStop.Step fault) h a s =
    subst (λ x. Watched bytes x a.text.items) (sym s.0) (record {
      document = d;
      read = read;
      fault = fault;
      unplanned = h;
      text_is = s.1;
    })
stopped_so bytes d read WatchStop.TooManyCases h a s =
    bad_watched bytes a.status a.text.items (refusal_text Code.TooManyCases) s.0 s.1
    (watches.IsNotWatched.many_cases d read h refl)
stopped_so bytes d read WatchStop.Memory h a s = absurd s

-- the schedule of its core form is not watched: so is this
pub stopped_watched : {E : Type 0} (r : ReadDocument) (stop : WatchStop) → FindsWatched r.core (Err stop) →
    (answer : Result Told E) → IfOk answer (IsStoppedFor r.core.words stop) → IfOk answer (IsWatchedIn r)
stopped_watched r stop found (Ok a) s = λ bytes is.
    let d = is.document in
    let found_core = subst (λ (c : CDocument). FindsWatched c (Err stop)) is.core_is found in
    stopped_so bytes d is.read stop (watches_say d (core_read bytes d is.read) (Err stop) found_core) a
    (subst (λ (c : CDocument). IsStoppedFor c.words stop a) is.core_is s)
stopped_watched r stop found (Err e) s = tt

-- ---- all requests

left_is : (left : Option (List ℕ)) (xs bytes : List ℕ) → Was left xs → left ≡ Some bytes → bytes ≡ xs
left_is None xs bytes w e = cc
left_is (Some ys) xs bytes w e = let same : ys ≡ bytes = cc in sym same ∙ w

module _ (asked : Option Request) (request : Request) (left : Option (List ℕ)) (t : Text) (old new : Option (List ℕ))
    (status : Status) (e : asked ≡ Some request) (i : IsTextOf (most_bytes (Some request)) left t)
    (tells : TellsText request t old new status) where
  -- the whole text of an answer of `watch` was written
  watch_writes : HasText status → asked ≡ Some watch →
      (text : List ℕ) × Watched i.bytes status text × Appends old new text
  watch_writes has is_watch =
      let told = (tells i.bytes i.text_is).whole has in
      let somes : ◌≡◌ {A = Option Request} (Some request) (Some watch) = sym e ∙ is_watch in
      let same : request ≡ watch = cc in
      (told.0, subst (λ r. Answer (Some r) i.bytes status told.0) same told.1, told.2)

  violated_writes : status ≡ Status.Violated → asked ≡ Some watch →
      (text : List ℕ) × IsBroken i.bytes text × Appends old new text
  violated_writes violated is_watch =
      let told = watch_writes (subst HasText (sym violated) tt) is_watch in
      (told.0, subst (λ s. Watched i.bytes s told.0) violated told.1, told.2)

  kept_writes : status ≡ Status.Done → asked ≡ Some watch → (text : List ℕ) × IsKeptTrace i.bytes text ×
      Appends old new text
  kept_writes done is_watch =
      let told = watch_writes (subst HasText (sym done) tt) is_watch in
      (told.0, subst (λ s. Watched i.bytes s told.0) done told.1, told.2)

  pub done_violated : status ≡ Status.Violated → asked ≡ Some watch → (bytes : List ℕ) (d : Document) →
      left ≡ Some bytes → IsDocument bytes d → WritesFirstViolation d old new
  done_violated violated is_watch bytes d was r =
      let a = violated_writes violated is_watch in
      let same = one_document i.bytes a.1.document d a.1.read.reading.is_document
      (subst (λ b. IsDocument b d) (left_is left i.bytes bytes i.were was) r) in (
        a.1.place,
        a.1.violation,
        record {
          text = a.0;
          watched = subst (λ x. IsWatched x (Ending.Violated a.1.place a.1.violation) a.0) same a.1.watched;
          appends = a.2;
        },
      )

  pub done_unviolated : status ≡ Status.Done → asked ≡ Some watch → (bytes : List ℕ) (d : Document) →
      left ≡ Some bytes → IsDocument bytes d → WritesEnding d Ending.Unviolated old new
  done_unviolated done is_watch bytes d was r =
      let a = kept_writes done is_watch in
      let same = one_document i.bytes a.1.document d a.1.read.reading.is_document
      (subst (λ b. IsDocument b d) (left_is left i.bytes bytes i.were was) r) in
      record {
        text = a.0;
        watched = subst (λ x. IsWatched x Ending.Unviolated a.0) same a.1.watched;
        appends = a.2;
      }

  -- and nothing is violated where the document is accepted
  pub done_kept : status ≡ Status.Violated → asked ≡ Some watch → (bytes : List ℕ) → left ≡ Some bytes →
      FollowsTheRules bytes → ⊥
  done_kept violated is_watch bytes was f =
      let a = violated_writes violated is_watch in
      let ok = followed_accepts bytes f in
      let same = one_document i.bytes a.1.document ok.1.document a.1.read.reading.is_document
      (subst (λ b. IsDocument b ok.1.document) (left_is left i.bytes bytes i.were was) ok.1.read.reading.is_document) in
      none_violated ok.1.document (valid_by bytes ok.0 ok.1).steps (proved_by bytes ok.0 ok.1) a.1.place a.1.violation
      a.0 (subst (λ x. IsWatched x (Ending.Violated a.1.place a.1.violation) a.0) same a.1.watched)
