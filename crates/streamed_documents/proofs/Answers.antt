-- What a text is found to be, from its front and what stands behind it.
use Rattle.std.proofs.Common.{◌≡◌, ℕ, ◌+◌, ◌<◌, ◌≤◌, ◌==◌, Bool, true, false, List, [], ◌∷◌, ◌++◌, length, map, drop}
use Rattle.std.proofs.Common.{Result, Ok, Err, IfOk, Option, Some, None, refl, sym, ap, ◌∙◌, subst, arith, append-nil}
use Rattle.std.specs.Prelude.{if◌then◌else◌}
use Rattle.std.specs.Io.KnownBytes.{Consumes}
use Rattle.case_tables.specs.declared.code_table.Code.{Code}
use Rattle.unity_base.specs.declared.events.CertEvent.{CertEvent}
use Rattle.unity_base.specs.declared.window.Window.{Window}
use Rattle.unity_base.specs.Streams.{IsLongerThan, LeavesRest}
use Rattle.unity_base.specs.Window.{held, coming, HasPassed}
use Rattle.unity_syntax.specs.declared.token.Token.{Token}
use Rattle.unity_syntax.specs.declared.certificate.Certificates.{Certificates}
use Rattle.unity_syntax.specs.declared.document.Document.{Document}
use Rattle.unity_syntax.specs.Classes.{terminals, says_later}
use Rattle.unity_syntax.proofs.Avoids.{AreNot}
use Rattle.unity_lexer.specs.declared.front.Front.{Front}
use Rattle.unity_lexer.specs.Tokens.{Tokenizes, IsFaulty, FirstBad}
use Rattle.unity_lexer.specs.Scans.{IsFront, IsReadUpTo}
use Rattle.unity_lexer.proofs.ScanSteps.{reads_then, passed_then}
use Rattle.unity_lexer.proofs.SomeAnswer.{reads_place}
use Rattle.unity_parser.specs.ParseAnswers.{IsDocumentOf, IsRefusal}
use Rattle.unity_parser.specs.Document.{IsDocument, IsFault}
use Rattle.unity_parser.specs.Document as texts
use Rattle.unity_parser.specs.Fronts.{empty_section, front_tokens}
use Rattle.unity_parser.proofs.Parts.{Parts, After, parts_of}
use Rattle.certificate_events.specs.Events.{section_events}
use Rattle.certificate_reading.specs.Certificates.{section_of, certificate_of, certificates_of}
use Rattle.certificate_reading.proofs.Whole.{are_whole_trees}
use Rattle.core_terms.specs.declared.documents.CDocument.{CDocument}
use Rattle.quantified_assign.specs.from_expand_documents.Cores.{core_document}
use Rattle.event_judge.specs.declared.judge.Judge.{Judge}
use Rattle.event_judge.specs.Judges.{JudgeStandsFor}
use Rattle.event_judge.specs.Told.{certs_events}
use Rattle.front_documents.specs.Laws.{IsCutFront, IsFrontDocument, AreBehind}
use Rattle.front_documents.proofs.Faults.{sections_complete, section_faults, sections_end_early}
use Rattle.front_documents.proofs.FirstWord.{words, not_inside}
use Rattle.front_documents.proofs.Fronts.{word_free}
use Rattle.front_documents.proofs.Refusals.{front_faults_stay, token_faults_stay}
use Rattle.streamed_documents.specs.declared.behind.Pending.{Pending}
use Rattle.streamed_documents.specs.declared.found.Flaw.{Flaw}
use Rattle.streamed_documents.specs.declared.found.Finding.{Finding}
use Rattle.streamed_documents.specs.WellFormed as wells
use Rattle.streamed_documents.specs.Found.{IsRead, IsRefused, IsFound, section_place}
use Rattle.streamed_documents.specs.declared.found.ReadDocument.{ReadDocument}
use Rattle.streamed_documents.specs.declared.fronts.Passage.{Passage}
use Rattle.streamed_documents.specs.declared.fronts.Listener.{Listener}
use Rattle.streamed_documents.specs.declared.fronts.Opened.{Opened}
use Rattle.streamed_documents.specs.Fronts.{HasFront, IsOpening, IsPassage, IsPassageFor, IsPassed, IsSettled}
use Rattle.streamed_documents.specs.Fronts.{IsVerdictBy, section_version, version_behind}
use Rattle.streamed_documents.specs.Hearing.{Hears, MayHear, IsPendingOn, IsReadyFor}
use Rattle.streamed_documents.specs.Rests as rests
use Rattle.streamed_documents.specs.Rests.{IsBehind, IsKeptFlaw, IsSkimmed}
use Rattle.streamed_documents.proofs.Certificates.{stands_for_section}
use Rattle.streamed_documents.proofs.Hearings.{hears_none}
use Rattle.streamed_documents.proofs.Passing.{first_told, told_after, rest_of}

abbrev pub fault_at : Code → ℕ → Flaw
fault_at code at = Flaw.Fault code at

-- a fault of the text
of_fault : (limit : ℕ) (bytes : List ℕ) (code : Code) (at : ℕ) → length bytes ≤ limit → IsFault bytes code at
    → IsRefused limit bytes (Flaw.Fault code at)
of_fault limit bytes code at size fault = (size, wells.IsFirstFault.of_text fault)

-- bytes that are read as no token
pub kept_refused : (limit at : ℕ) (bytes rest : List ℕ) (code : Code) (place : ℕ) (flaw : Flaw)
    → at + length rest ≡ length bytes → FirstBad bytes code place → IsKeptFlaw limit at rest code place flaw
    → IsRefused limit bytes flaw
kept_refused limit at bytes rest code place Flaw.TooLong size bad kept = omega (arith, kept, size)
kept_refused limit at bytes rest code place (Flaw.Fault c p) size bad kept =
    of_fault limit bytes c p (omega (arith, kept.0, size))
    (subst (λ k. IsFault bytes k p) (sym kept.1) (subst (λ n. IsFault bytes code n) (sym kept.2)
    (texts.IsFault.no_token bad)))

pub kept_same : (limit at : ℕ) (bytes : List ℕ) (code known : Code) (place other : ℕ) (flaw : Flaw) → code ≡ known
    → place ≡ other → IsKeptFlaw limit at bytes code place flaw → IsKeptFlaw limit at bytes known other flaw
kept_same limit at bytes code known place other flaw codes places kept =
    subst (λ c. IsKeptFlaw limit at bytes c other flaw) codes
    (subst (λ p. IsKeptFlaw limit at bytes code p flaw) places kept)

-- ---- what is pending

-- what is pending on a document, where it was told the document's certificates
told_on : (section_at : Option ℕ) (d : Document) (old new : Pending) → IsPendingOn section_at [] d old
    → (es all : List CertEvent) → Hears old new es
    → ((core : CDocument) (judge : Judge) → JudgeStandsFor core judge es → JudgeStandsFor core judge all)
    → IsPendingOn section_at all d new
told_on section_at d (Pending.Fault code at) new on es all heard told =
    subst (IsPendingOn section_at all d) (sym heard) on
told_on section_at d (Pending.Document r) new on es all heard told =
    subst (IsPendingOn section_at all d) (sym heard) on
told_on section_at d (Pending.Judge core judge) new on es all heard told =
    subst (IsPendingOn section_at all d) (sym heard.1) (record {
      named = on.named;
      expands = on.expands;
      core_is = on.core_is;
      stands = told core heard.0 (heard.2.stands [] on.stands);
    })

passed_as : (limit : ℕ) (bytes : List ℕ) (d : Document) → length bytes ≤ limit → IsDocument bytes d
    → (old new : Pending) → IsPendingOn (section_place d.certificates) [] d old → (es : List CertEvent)
    → Hears old new es
    → ((core : CDocument) (judge : Judge) → JudgeStandsFor core judge es
    → JudgeStandsFor core judge (certs_events (certificates_of d))) → IsPassed limit bytes new
passed_as limit bytes d size is old new on es heard told = record {
  document = d;
  size = size;
  is_document = is;
  pending = told_on (section_place d.certificates) d old new on es (certs_events (certificates_of d)) heard told;
}

-- names and expansion do not look at a document's certificates
pending_same : (section_at : Option ℕ) (d : Document) (c : Certificates) → section_at ≡ Some c.at → (p : Pending)
    → IsPendingOn section_at [] d p → IsPendingOn (Some c.at) [] (record d { certificates = Some c }) p
pending_same section_at d c e (Pending.Fault code at) on = on
pending_same section_at d c e (Pending.Document r) on = record {
  named = on.named;
  expands = on.expands;
  core_is = on.core_is;
  number_is = on.number_is;
  section_is = on.section_is ∙ e;
  places_is = on.places_is;
}
pending_same section_at d c e (Pending.Judge core judge) on = record {
  named = on.named;
  expands = on.expands;
  core_is = on.core_is;
  stands = on.stands;
}

-- ---- the answers

-- a document with the verdict on it
judged_as : (limit : ℕ) (bytes : List ℕ) (core : CDocument) (judge : Judge)
    → (h : IsPassed limit bytes (Pending.Judge core judge)) → (found : Finding) → IsVerdictBy core judge found
    → IsFound limit bytes found
judged_as limit bytes core judge h (Finding.Refused flaw) verdict = absurd verdict
judged_as limit bytes core judge h (Finding.Judged j) verdict =
    let d = h.document in
    record {
      document = d;
      size = h.size;
      reading = record { is_document = h.is_document; named = h.pending.named; expands = h.pending.expands };
      core_is = verdict.0 ∙ h.pending.core_is;
      verdict_is = verdict.1 (core_document d) (certificates_of d) (are_whole_trees bytes d h.is_document)
          (subst (λ c. JudgeStandsFor c judge (certs_events (certificates_of d))) h.pending.core_is h.pending.stands);
    }

fault_passed : (limit : ℕ) (bytes : List ℕ) (code : Code) (at : ℕ) → IsPassed limit bytes (Pending.Fault code at)
    → IsRefused limit bytes (Flaw.Fault code at)
fault_passed limit bytes code at h = (h.size, wells.IsFirstFault.of_document h.document h.is_document h.pending)

pub settled_found : (limit : ℕ) (bytes : List ℕ) (p : Pending) → IsPassed limit bytes p → (found : Finding)
    → IsSettled p found → IsFound limit bytes found
settled_found limit bytes (Pending.Fault code at) h found settled =
    subst (IsFound limit bytes) (sym settled) (fault_passed limit bytes code at h)
settled_found limit bytes (Pending.Document r) h found settled = absurd settled
settled_found limit bytes (Pending.Judge core judge) h found settled =
    judged_as limit bytes core judge h found settled

pub fault_read : (limit : ℕ) (bytes : List ℕ) (p : Pending) (code : Code) (at : ℕ) → p ≡ Pending.Fault code at
    → IsPassed limit bytes p → IsRefused limit bytes (Flaw.Fault code at)
fault_read limit bytes p code at is h = fault_passed limit bytes code at (subst (IsPassed limit bytes) is h)

pub document_read : (limit : ℕ) (bytes : List ℕ) (p : Pending) (r : ReadDocument) → p ≡ Pending.Document r
    → IsPassed limit bytes p → IsRead limit bytes r
document_read limit bytes p r is h =
    let passed = subst (IsPassed limit bytes) is h in
    record {
      document = passed.document;
      size = passed.size;
      reading = record {
        is_document = passed.is_document;
        named = passed.pending.named;
        expands = passed.pending.expands;
      };
      core_is = passed.pending.core_is;
      number_is = passed.pending.number_is;
      section_is = passed.pending.section_is;
      places_is = passed.pending.places_is;
    }

-- ---- a front with a section behind it

module _ (w : Window) (left : Option (List ℕ)) (bytes : List ℕ) (f : Front) (h : HasFront w left bytes f) (cut : ℕ)
    (is : f.cut ≡ Some cut) where
  pub parts : IsReadUpTo (Some cut) w.limit bytes f (coming w left)
  parts = subst (λ c. IsReadUpTo c w.limit bytes f (coming w left)) is h.front.1

  abbrev End : ℕ
  End = parts.0

  cut_front : IsCutFront bytes f cut End
  cut_front = record { at = is; none = h.front.0; reads = parts.1.0; kept = parts.1.1 }

  pub rest_told : coming w left ≡ Some (drop End bytes)
  rest_told = parts.1.2

  size : w.at + length (drop End bytes) ≡ length bytes
  size = h.place (drop End bytes) rest_told

  place : w.at ≡ End
  place = omega (arith, size, reads_place parts.1.0)

  from_end : {ts : List Token} {p : ℕ} {rest : List ℕ} → Tokenizes w.at (drop End bytes) ts p rest
      → Tokenizes End (drop End bytes) ts p rest
  from_end {ts} {p} {rest} reads = subst (λ n. Tokenizes n (drop End bytes) ts p rest) place reads

  behind : (ts : List Token) → Tokenizes w.at (drop End bytes) ts (w.at + length (drop End bytes)) []
      → AreBehind bytes End ts
  behind ts reads = subst (λ n. Tokenizes End (drop End bytes) ts n []) size (from_end reads)

  no_token_refused : (ts : List Token) (rest : List ℕ) (c : Code) (p : ℕ)
      → w.at + length (drop End bytes) ≤ w.limit → Tokenizes w.at (drop End bytes) ts p rest → IsFaulty rest c
      → IsRefused w.limit bytes (Flaw.Fault c p)
  no_token_refused ts rest c p inside reads bad = of_fault w.limit bytes c p (omega (arith, inside, size))
      (token_faults_stay bytes f cut End ts rest c p cut_front (from_end reads) bad)

  -- the front is at fault
  pub front_refused : (code : Code) (at : ℕ) {flaw : Flaw} → IsRefusal f.bytes.items (front_tokens f) code at
      → IsSkimmed w.limit w.at (drop End bytes) code at flaw → IsRefused w.limit bytes flaw
  front_refused code at refusal (rests.IsSkimmed.too_long past) = omega (arith, past, size)
  front_refused code at refusal (rests.IsSkimmed.no_token ts rest c p inside reads bad) =
      no_token_refused ts rest c p inside reads bad
  front_refused code at refusal (rests.IsSkimmed.stands ts inside reads) =
      of_fault w.limit bytes code at (omega (arith, inside, size))
      (front_faults_stay bytes f cut End ts code at cut_front (behind ts reads) refusal)

  module _ (d : Document) (read : IsFrontDocument f d) (old new : Pending) where
    -- what stands behind it is
    pub behind_refused : {flaw : Flaw}
        → IsBehind (says_later f.tokens) w.limit w.at (drop End bytes) old new (Some flaw)
        → IsRefused w.limit bytes flaw
    behind_refused (rests.IsBehind.too_long past) = omega (arith, past, size)
    behind_refused (rests.IsBehind.no_token ts rest c p inside reads bad) =
        no_token_refused ts rest c p inside reads bad
    behind_refused (rests.IsBehind.no_section ts t us inside reads opens takes) =
        of_fault w.limit bytes Code.Unexpected t.start (omega (arith, inside, size))
        (section_faults bytes f cut End ts t us d cut_front (behind (ts ++ t ∷ us) reads) read opens takes)
    behind_refused (rests.IsBehind.too_short ts inside reads opens none) =
        subst (λ n. IsRefused w.limit bytes (Flaw.Fault Code.Unexpected n)) (sym size)
        (of_fault w.limit bytes Code.Unexpected (length bytes) (omega (arith, inside, size))
        (sections_end_early bytes f cut End ts d cut_front (behind ts reads) read opens none))

    -- nothing is
    pub behind_passed : IsPendingOn f.cut [] d old
        → IsBehind (says_later f.tokens) w.limit w.at (drop End bytes) old new None → IsPassed w.limit bytes new
    behind_passed on (rests.IsBehind.section ts c inside reads section heard) =
        let whole : Document = record d { certificates = Some (record { at = cut; items = c.items }) } in
        passed_as w.limit bytes whole (omega (arith, inside, size))
        (sections_complete bytes f cut End ts d c cut_front (behind ts reads) read section) old new
        (pending_same f.cut d (record { at = cut; items = c.items }) is old on)
        (section_events c) heard (λ core judge stands. stands_for_section core judge c stands)

-- ---- a front that is the whole text

module _ (w : Window) (left : Option (List ℕ)) (bytes : List ℕ) (f : Front) (h : HasFront w left bytes f)
    (is : f.cut ≡ None) where
  all : IsReadUpTo None w.limit bytes f (coming w left)
  all = subst (λ c. IsReadUpTo c w.limit bytes f (coming w left)) is h.front.1

  pub nothing_told : coming w left ≡ Some []
  nothing_told = all.2

  at_end : w.at ≡ length bytes
  at_end = omega (arith, h.place [] nothing_told)

  tokens_are : front_tokens f ≡ f.tokens
  tokens_are = ap (λ c. f.tokens ++ empty_section c) is ∙ append-nil f.tokens

  -- and is at fault
  pub whole_refused : (code : Code) (at : ℕ) {flaw : Flaw} → IsRefusal f.bytes.items (front_tokens f) code at
      → IsSkimmed w.limit w.at [] code at flaw → IsRefused w.limit bytes flaw
  whole_refused code at refusal (rests.IsSkimmed.too_long past) = omega (arith, past, at_end)
  whole_refused code at refusal (rests.IsSkimmed.no_token ts rest c p inside reads bad) =
      of_fault w.limit bytes c p all.3 (texts.IsFault.no_token (record {
        tokens = f.tokens ++ ts;
        rest = rest;
        reads = reads_then all.0 (subst (λ n. Tokenizes n [] ts p rest) at_end reads);
        faulty = bad;
      }))
  whole_refused code at refusal (rests.IsSkimmed.stands ts inside reads) =
      of_fault w.limit bytes code at all.3 (texts.IsFault.no_document f.tokens all.0
      (subst (λ bs. IsRefusal bs f.tokens code at) all.1
      (subst (λ ts. IsRefusal f.bytes.items ts code at) tokens_are refusal)))

  module _ (d : Document) (read : IsFrontDocument f d) where
    parsed : IsDocumentOf bytes f.tokens d
    parsed = subst (λ bs. IsDocumentOf bs f.tokens d) all.1
        (subst (λ ts. IsDocumentOf f.bytes.items ts d) tokens_are read)

    whole_document : IsDocument bytes d
    whole_document = record { tokens = f.tokens; lexed = all.0; parsed = parsed }

    no_certificates : d.certificates ≡ None
    no_certificates = none_in d.certificates split.after_is
      where
        split : Parts d (terminals (says_later f.tokens) bytes f.tokens)
        split = parts_of d (terminals (says_later f.tokens) bytes f.tokens) parsed.0

        none_in : (o : Option Certificates) → After o split.after → o ≡ None
        none_in None after = refl
        none_in (Some c) after = absurd (not_inside split.front after.1 after.0 after.3
            (subst (λ us. AreNot words us) (split.split ∙ ap (λ us. split.front ++ us) after.2)
            (word_free (says_later f.tokens) bytes f.tokens h.front.0)))

    none_told : certs_events (certificates_of d) ≡ []
    none_told = ap (λ o. certs_events (map certificate_of (section_of o))) no_certificates

    no_place : f.cut ≡ section_place d.certificates
    no_place = is ∙ sym (ap section_place no_certificates)

    pub whole_passed : (pending : Pending) → IsPendingOn f.cut [] d pending → Hears pending pending []
        → IsPassed w.limit bytes pending
    whole_passed pending on heard =
        passed_as w.limit bytes d all.3 whole_document pending pending
        (subst (λ at. IsPendingOn at [] d pending) no_place on) [] heard
        (λ core judge stands. subst (λ es. JudgeStandsFor core judge es) (sym none_told) stands)

-- ---- what is read behind a front

later_is : (l : Bool) → ((if l then 2 else 1) == 2) ≡ l
later_is true = refl
later_is false = refl

module _ (w : Window) (left : Option (List ℕ)) (bytes : List ℕ) (f : Front) (h : HasFront w left bytes f) (d : Document)
    (read : IsFrontDocument f d) (version : Option ℕ) (is : version ≡ section_version f) (old new : Pending)
    (result : Option Flaw)
    (behind : (v : ℕ) → version ≡ Some v → (bytes : List ℕ) → coming w left ≡ Some bytes →
    IsBehind (v == 2) w.limit w.at bytes old new result)
    (none : version ≡ None → (result ≡ None) × (new ≡ old)) where
  version_at : (cut : Option ℕ) → f.cut ≡ cut → version ≡ version_behind cut (says_later f.tokens)
  version_at cut e = is ∙ ap (λ c. version_behind c (says_later f.tokens)) e

  section_at_cut : (cut : ℕ) (e : f.cut ≡ Some cut)
      → IsBehind (says_later f.tokens) w.limit w.at (drop (End w left bytes f h cut e) bytes) old new result
  section_at_cut cut e =
      subst (λ l. IsBehind l w.limit w.at (drop (End w left bytes f h cut e) bytes) old new result)
      (later_is (says_later f.tokens))
      (behind (if says_later f.tokens then 2 else 1) (version_at (Some cut) e) (drop (End w left bytes f h cut e) bytes)
      (rest_told w left bytes f h cut e))

  pub flaw_refused : (flaw : Flaw) → result ≡ Some flaw → IsRefused w.limit bytes flaw
  flaw_refused flaw q = at f.cut refl
    where
      at : (o : Option ℕ) → f.cut ≡ o → IsRefused w.limit bytes flaw
      at None e =
          let nothing = none (version_at None e) in
          let no : ◌≡◌ {A = Option Flaw} None (Some flaw) = sym nothing.0 ∙ q in
          absurd cc
      at (Some cut) e = behind_refused w left bytes f h cut e d read old new
          (subst (λ r. IsBehind (says_later f.tokens) w.limit w.at (drop (End w left bytes f h cut e) bytes) old new
          r) q (section_at_cut cut e))

  pub nothing_passed : result ≡ None → IsPendingOn f.cut [] d old → MayHear old → IsPassed w.limit bytes new
  nothing_passed q on may = at f.cut refl
    where
      at : (o : Option ℕ) → f.cut ≡ o → IsPassed w.limit bytes new
      at None e =
          let nothing = none (version_at None e) in
          subst (IsPassed w.limit bytes) (sym nothing.1)
          (whole_passed w left bytes f h e d read old on (hears_none old may))
      at (Some cut) e = behind_passed w left bytes f h cut e d read old new on
          (subst (λ r. IsBehind (says_later f.tokens) w.limit w.at (drop (End w left bytes f h cut e) bytes) old new
          r) q (section_at_cut cut e))

-- where there is no section, the front is the whole text
pub front_whole : (f : Front) (version : Option ℕ) → version ≡ section_version f → version ≡ None → f.cut ≡ None
front_whole f version is none = at f.cut refl
  where
    at : (o : Option ℕ) → f.cut ≡ o → f.cut ≡ None
    at None e = e
    at (Some cut) e =
        let there : version ≡ Some (if says_later f.tokens then 2 else 1) =
        is ∙ ap (λ c. version_behind c (says_later f.tokens)) e in
        let no : ◌≡◌ {A = Option ℕ} None (Some (if says_later f.tokens then 2 else 1)) = sym none ∙ there in
        absurd cc

-- what is found behind the front of a document
pub found_behind : {E : Type 0} (w : Window) (left : Option (List ℕ)) (f : Front) (version : Option ℕ)
    (pending : Pending) (result : Result Passage E) → IsOpening f (Opened.Document version pending)
    → IfOk result (λ found. (bytes : List ℕ) (f : Front) (d : Document) → HasFront w left bytes f
    → version ≡ section_version f → IsFrontDocument f d → IsPendingOn f.cut [] d pending
    → IsPassage w.limit bytes found)
    → IfOk result (λ found. (bytes : List ℕ) → HasFront w left bytes f → IsPassage w.limit bytes found)
found_behind w left f version pending (Ok found) opened finds =
    λ bytes front. finds bytes f opened.1 front opened.0 opened.2 opened.3
found_behind w left f version pending (Err e) opened finds = tt

-- the front itself is at fault
pub fault_refused : (w : Window) (left : Option (List ℕ)) (bytes : List ℕ) (f : Front) → HasFront w left bytes f
    → (code : Code) (at : ℕ) (flaw : Flaw) → IsRefusal f.bytes.items (front_tokens f) code at
    → ((rest : List ℕ) → coming w left ≡ Some rest → IsSkimmed w.limit w.at rest code at flaw)
    → IsRefused w.limit bytes flaw
fault_refused w left bytes f h code at flaw refusal skims = by_cut f.cut refl
  where
    by_cut : (o : Option ℕ) → f.cut ≡ o → IsRefused w.limit bytes flaw
    by_cut None e = whole_refused w left bytes f h e code at refusal (skims [] (nothing_told w left bytes f h e))
    by_cut (Some cut) e = front_refused w left bytes f h cut e code at refusal
        (skims (drop (End w left bytes f h cut e) bytes) (rest_told w left bytes f h cut e))

-- ---- from the first byte on

pub has_front : (u w : Window) (a c : Option (List ℕ)) (bytes : List ℕ) (f : Front) → held u ≡ [] → u.at ≡ 0
    → HasPassed u w a c → a ≡ Some bytes
    → ((bytes : List ℕ) → coming u a ≡ Some bytes → IsFront u.limit bytes f (coming w c)) → HasFront w c bytes f
has_front u w a c bytes f none at p e front = record {
  front = subst (λ limit. IsFront limit bytes f (coming w c)) (sym p.limit) (front bytes (first_told u a bytes none e));
  place = λ rest told.
      let after = told_after u w a c bytes p (first_told u a bytes none e) in
      let somes : ◌≡◌ {A = Option (List ℕ)} (Some after.0) (Some rest) = sym after.1 ∙ told in
      let same : after.0 ≡ rest = cc in
      omega (arith, after.2, at, ap length same);
}

-- no front was read
pub drained_refused : (u w : Window) (a c : Option (List ℕ)) (bytes : List ℕ) (code : Code) (place : ℕ) (flaw : Flaw)
    → held u ≡ [] → u.at ≡ 0 → HasPassed u w a c → a ≡ Some bytes
    → ((bytes : List ℕ) → coming u a ≡ Some bytes → FirstBad bytes code place)
    → ((rest : List ℕ) → coming w c ≡ Some rest → IsKeptFlaw w.limit w.at rest code place flaw)
    → IsRefused w.limit bytes flaw
drained_refused u w a c bytes code place flaw none at p e bad kept =
    let told = first_told u a bytes none e in
    let after = told_after u w a c bytes p told in
    kept_refused w.limit w.at bytes after.0 code place flaw (omega (arith, after.2, at)) (bad bytes told)
    (kept after.0 after.1)

-- what is left of the source is a rest of it
pub rest_same : (a : Option (List ℕ)) → LeavesRest a a
rest_same a = ([], at a)
  where
    at : (a : Option (List ℕ)) → Consumes a a []
    at None = tt
    at (Some bytes) = refl

pub rest_from : (u w x : Window) (a c d : Option (List ℕ)) → held u ≡ [] → HasPassed u w a c → HasPassed w x c d
    → LeavesRest a d
rest_from u w x a c d none p q = rest_of u x a d none (passed_then u w x a c d p q)

-- more bytes than the limit were told, or may have been
pub long_found : (u : Window) (a : Option (List ℕ)) (most : ℕ) → held u ≡ [] → u.at ≡ 0 → u.limit ≡ most
    → ((bytes : List ℕ) → coming u a ≡ Some bytes → u.limit < length bytes) → (bytes : List ℕ) → a ≡ Some bytes
    → most < length bytes
long_found u a most none at limit long bytes e = omega (arith, limit, long bytes (first_told u a bytes none e))

pub long_out : (u : Window) (a : Option (List ℕ)) (most : ℕ) → held u ≡ [] → u.at ≡ 0 → u.limit ≡ most
    → ((bytes : List ℕ) → coming u a ≡ Some bytes → u.limit < length bytes) → IsLongerThan most a
long_out u None most none at limit long = tt
long_out u (Some bytes) most none at limit long = long_found u (Some bytes) most none at limit long bytes refl

pub found_at : (most limit : ℕ) (bytes : List ℕ) (found : Passage) → limit ≡ most → IsPassage limit bytes found
    → IsPassage most bytes found
found_at most limit bytes found e h = subst (λ n. IsPassage n bytes found) e h

-- what a call found behind a front
pub found_from : {E : Type 0} (u w : Window) (a c : Option (List ℕ)) (f : Front) (most : ℕ) (result : Result Passage E)
    → held u ≡ [] → u.at ≡ 0 → u.limit ≡ most → HasPassed u w a c
    → (u.at ≡ 0 → (bytes : List ℕ) → coming u a ≡ Some bytes → IsFront u.limit bytes f (coming w c))
    → IfOk result (λ found. (bytes : List ℕ) → HasFront w c bytes f → IsPassage w.limit bytes found)
    → IfOk result (λ found. (bytes : List ℕ) → a ≡ Some bytes → IsPassage most bytes found)
found_from u w a c f most (Ok found) none at limit p front finds = λ bytes e.
    found_at most w.limit bytes found (p.limit ∙ limit) (finds bytes (has_front u w a c bytes f none at p e (front at)))
found_from u w a c f most (Err e) none at limit p front finds = tt

-- what is pending behind a front is there for whom it was before
pub passage_for : {E : Type 0} (listener : Listener) (p : Pending) (result : Result Passage E)
    → IfOk result (λ found. (l : Listener) → IsReadyFor l p → IsPassageFor l found) → IsReadyFor listener p
    → IfOk result (IsPassageFor listener)
passage_for listener p (Ok found) h ready = h listener ready
passage_for listener p (Err e) h ready = tt
