-- The section behind a front, token by token.
use Rattle.std.proofs.Common.{◌≡◌, ℕ, ◌+◌, ◌<◌, ◌≤◌, ◌==◌, Bool, List, [], ◌∷◌, ◌++◌, length, Option}
use Rattle.std.proofs.Common.{Some, None, Result, Ok, Err, IfOk, refl, sym, ap, ◌∙◌, subst, arith}
use Rattle.std.proofs.Common.{append_assoc}
use Rattle.std.specs.Io.KnownBytes.{IsAtEnd}
use Rattle.case_tables.specs.declared.code_table.Code.{Code}
use Rattle.case_tables.specs.declared.word_table.Word.{Word}
use Rattle.unity_base.specs.declared.window.Window.{Window}
use Rattle.unity_base.specs.Window.{held, coming}
use Rattle.unity_syntax.specs.declared.token.Token.{Token}
use Rattle.unity_syntax.specs.declared.token.TokenKind.{TokenKind}
use Rattle.unity_syntax.specs.Classes.{terminal}
use Rattle.unity_lexer.specs.declared.scan.Scan.TheVariants as scan
use Rattle.unity_lexer.specs.Tokens.{Tokenizes, IsFaulty}
use Rattle.unity_lexer.specs.Scans.{ReadsTo, TokenRises}
use Rattle.unity_lexer.proofs.ScanSteps.{reads_then}
use Rattle.unity_lexer.proofs.SomeAnswer.{reads_place}
use Rattle.certificate_events.specs.declared.reader.Taken.{Taken}
use Rattle.certificate_events.specs.declared.reader.CertReader.{CertReader}
use Rattle.certificate_events.specs.Events.{events}
use Rattle.certificate_events.specs.Sections.{IsSections, ReaderStands, TokenTakes, told}
use Rattle.certificate_events.proofs.SectionLaws.{told_by_tokens, events_of_sections}
use Rattle.front_documents.specs.Laws.{BeginsSections}
use Rattle.front_documents.proofs.Sections.{goes_on, to_section}
use Rattle.streamed_documents.specs.declared.behind.Pending.{Pending}
use Rattle.streamed_documents.specs.declared.found.Flaw.{Flaw}
use Rattle.streamed_documents.specs.Hearing.{Hears, MayHear}
use Rattle.streamed_documents.specs.Rests.{IsBehind, IsSectionEnding, IsKeptFlaw, IsSkimmed, IsAllRead}
use Rattle.streamed_documents.specs.Rests as rests
use Rattle.streamed_documents.specs.declared.behind.Step.{Step}
use Rattle.streamed_documents.specs.Steps.{scan_of, TakesToken, TakesStep}
use Rattle.streamed_documents.proofs.Hearings.{hears_none, hears_then}
use Rattle.streamed_documents.proofs.Passing.{told_passes}
use Rattle.streamed_documents.proofs.Skimming.{Scanning, reads_join, start_reads, whole, faulty}

-- tokens that were read of the bytes from a place on, up to another; what they told was heard
pub record Going (later : Bool) (at : ℕ) (bytes : List ℕ) (now : ℕ) (left : Option (List ℕ)) (reader : CertReader)
    (old new : Pending) : Type 0 where
  pub tokens : List Token
  pub reads : ReadsTo at bytes tokens now left
  pub stands : ReaderStands later reader tokens
  pub opens : BeginsSections later tokens
  pub heard : Hears old new (events (told later tokens))

-- where the bytes are told
abbrev pub GoesOn : Bool → Window → Option (List ℕ) → Window → Option (List ℕ) → CertReader → Pending → Pending → Type 0
GoesOn later u a w c reader old new =
    (bytes : List ℕ) → coming u a ≡ Some bytes → Going later u.at bytes w.at (coming w c) reader old new

-- ---- tokens that a section begins with

abbrev some_word : Token
some_word = record { kind = TokenKind.Reserved Word.Certificates; start = 0; end = 0 }

-- some section begins with no tokens
pub open_start : (later : Bool) → BeginsSections later []
open_start later =
    let more = goes_on later [] (terminal later [] some_word) [] refl refl in
    (more.0, to_section later [] (terminal later [] some_word) more.0 refl more.1.derives)

open_more : (later : Bool) (ts : List Token) (t : Token) (rest : List Token) → IsSections later (ts ++ t ∷ rest)
    → BeginsSections later (ts ++ t ∷ [])
open_more later ts t rest s =
    (rest, subst (λ all. IsSections later all) (sym (append_assoc ts (t ∷ []) rest)) s)

-- what was taken is no refusal
abbrev pub IsGood : Taken → Type 0
IsGood Taken.Nothing = Unit {0}
IsGood (Taken.Event e) = Unit {0}
IsGood Taken.Unexpected = ⊥

pub open_then : (later : Bool) (ts : List Token) (t : Token) (taken : Taken) → IsGood taken →
    TokenTakes later ts t taken
    → BeginsSections later (ts ++ t ∷ [])
open_then later ts t Taken.Nothing good takes = open_more later ts t takes.0 (takes.1, takes.2)
open_then later ts t (Taken.Event e) good takes = open_more later ts t takes.0 (takes.1, takes.2)
open_then later ts t Taken.Unexpected good takes = absurd good

-- ---- what they tell

pub events_append : (xs ys : List Taken) → events (xs ++ ys) ≡ events xs ++ events ys
events_append [] ys = refl
events_append (Taken.Nothing ∷ xs) ys = events_append xs ys
events_append (Taken.Event e ∷ xs) ys = ap (λ es. e ∷ es) (events_append xs ys)
events_append (Taken.Unexpected ∷ xs) ys = events_append xs ys

pub told_then : (later : Bool) (ts : List Token) (t : Token) (taken : Taken)
    → told later (ts ++ t ∷ []) ≡ told later ts ++ taken ∷ []
    → events (told later (ts ++ t ∷ [])) ≡ events (told later ts) ++ events (taken ∷ [])
told_then later ts t taken e = ap events e ∙ events_append (told later ts) (taken ∷ [])

-- ---- one token

pub going_start : (later : Bool) (w : Window) (a : Option (List ℕ)) (reader : CertReader) (p : Pending)
    → ReaderStands later reader [] → MayHear p → GoesOn later w a w a reader p p
going_start later w a reader p stands may bytes e = record {
  tokens = [];
  reads = start_reads w.at bytes (coming w a) e;
  stands = stands;
  opens = open_start later;
  heard = hears_none p may;
}

pub going_then : (later : Bool) (u w x : Window) (a c d : Option (List ℕ)) (old reader : CertReader)
    (p q r : Pending) (t : Token) (taken : Taken) → GoesOn later u a w c old p q → Scanning w c x d (scan.Token t)
    → TakesToken old reader t taken → IsGood taken → Hears q r (events (taken ∷ []))
    → GoesOn later u a x d reader p r
going_then later u w x a c d old reader p q r t taken g s took good hears bytes e =
    let now = g bytes e in
    let ts = now.tokens in
    record {
      tokens = ts ++ t ∷ [];
      reads = reads_join u.at bytes ts (t ∷ []) w.at x.at (coming w c) (coming x d) now.reads
          (s now.reads.rest now.reads.told).0;
      stands = took.stands later ts now.stands;
      opens = open_then later ts t taken good (took.takes later ts now.stands);
      heard = subst (λ es. Hears p r es) (sym (told_then later ts t taken (took.told_is later ts now.stands)))
          (hears_then p q r (events (told later ts)) (events (taken ∷ [])) now.heard hears);
    }

-- ---- what came next

-- as it was found to be
pub step_is : (w x : Window) (c d : Option (List ℕ)) (found other : Step) → found ≡ other
    → Scanning w c x d (scan_of found) → Scanning w c x d (scan_of other)
step_is w x c d found other e s = subst (λ step. Scanning w c x d (scan_of step)) e s

pub step_takes : (old new : CertReader) (found other : Step) → found ≡ other → TakesStep old new found
    → TakesStep old new other
step_takes old new found other e h = subst (TakesStep old new) e h

-- a token rises
pub step_rises : (at now : ℕ) (found : Step) (t : Token) (taken : Taken) → found ≡ Step.Taken t taken
    → TokenRises at now (scan_of found) → at < now
step_rises at now found t taken e rises = subst (λ step. TokenRises at now (scan_of step)) e rises

-- where no token was taken, the text ends behind those that were
pub ending_after : (old new : CertReader) (at : ℕ) (flaw : Option Flaw) → new ≡ old
    → ((later : Bool) (ts : List Token) → ReaderStands later new ts → IsSectionEnding later ts at flaw)
    → (later : Bool) (ts : List Token) → ReaderStands later old ts → IsSectionEnding later ts at flaw
ending_after old new at flaw same ends =
    subst (λ r. (later : Bool) (ts : List Token) → ReaderStands later r ts → IsSectionEnding later ts at flaw) same ends

-- ---- the end of the tokens

module _ (later : Bool) (u w x : Window) (a c d : Option (List ℕ)) (reader : CertReader) (p q : Pending)
    (g : GoesOn later u a w c reader p q) (same : w.limit ≡ u.limit) where
  -- with the text
  pub end_behind : (flaw : Option Flaw) (at : ℕ) → at ≡ x.at → x.limit ≡ u.limit → Scanning w c x d scan.End
      → ((later : Bool) (ts : List Token) → ReaderStands later reader ts → IsSectionEnding later ts at flaw) →
      (bytes : List ℕ)
      → coming u a ≡ Some bytes → IsBehind later u.limit u.at bytes p q flaw
  end_behind flaw at is limit s ends bytes e =
      let now = g bytes e in
      let found = whole w.limit u.at bytes now.tokens w.at (coming w c) now.reads x.at (coming x d)
      (s now.reads.rest now.reads.told) in
      let top = x.in_limit in
      let inside : u.at + length bytes ≤ u.limit = omega (arith, found.0, limit, top) in
      at_end now inside found.1 (is ∙ found.0) flaw (ends later now.tokens now.stands)
    where
      at_end : (now : Going later u.at bytes w.at (coming w c) reader p q) → u.at + length bytes ≤ u.limit
          → Tokenizes u.at bytes now.tokens (u.at + length bytes) [] → at ≡ u.at + length bytes → (flaw : Option Flaw)
          → IsSectionEnding later now.tokens at flaw → IsBehind later u.limit u.at bytes p q flaw
      at_end now inside reads place None section =
          rests.IsBehind.section now.tokens section.0 inside reads section.1
          (subst (λ es. Hears p q es)
          (ap events (told_by_tokens later now.tokens section.0 section.1) ∙ events_of_sections section.0) now.heard)
      at_end now inside reads place (Some flaw) h =
          subst (λ f. IsBehind later u.limit u.at bytes p q (Some f))
          (ap (λ n. Flaw.Fault Code.Unexpected n) (sym place) ∙ sym h.0)
          (rests.IsBehind.too_short now.tokens inside reads now.opens h.1)

  -- and all was read
  pub end_read : (flaw : Option Flaw) (at : ℕ)
      → ((later : Bool) (ts : List Token) → ReaderStands later reader ts → IsSectionEnding later ts at flaw)
      → (held x ≡ []) × IsAtEnd d → IsAllRead u a x d flaw
  end_read None at ends all = all
  end_read (Some (Flaw.Fault code place)) at ends all = all
  end_read (Some Flaw.TooLong) at ends all = told_passes u a no
    where
      no : (bytes : List ℕ) → coming u a ≡ Some bytes → u.limit < u.at + length bytes
      no bytes e =
          let now = g bytes e in
          let is = (ends later now.tokens now.stands).0 in
          absurd cc

  -- where no token can be read
  pub drained_behind : (code : Code) (place : ℕ) (flaw : Flaw) → x.limit ≡ u.limit
      → Scanning w c x d (scan.Fault code place)
      → ((bytes : List ℕ) → coming x d ≡ Some bytes → IsKeptFlaw x.limit x.at bytes code place flaw) → (bytes : List ℕ)
      → coming u a ≡ Some bytes → IsBehind later u.limit u.at bytes p q (Some flaw)
  drained_behind code place flaw limit s kept bytes e =
      let now = g bytes e in
      let found = s now.reads.rest now.reads.told in
      let read = faulty w.limit u.at bytes now.tokens w.at (coming w c) now.reads x.at (coming x d) code place found in
      at_flaw now found.0.rest read.0 found.1 read.1 found.2 flaw (kept found.0.rest found.0.told)
    where
      at_flaw : (now : Going later u.at bytes w.at (coming w c) reader p q) (rest : List ℕ)
          → Tokenizes u.at bytes now.tokens place rest → IsFaulty rest code
          → place + length rest ≡ u.at + length bytes → place ≡ x.at → (flaw : Flaw)
          → IsKeptFlaw x.limit x.at rest code place flaw → IsBehind later u.limit u.at bytes p q (Some flaw)
      at_flaw now rest reads bad size is Flaw.TooLong h =
          rests.IsBehind.too_long (omega (arith, h, size, is, limit))
      at_flaw now rest reads bad size is (Flaw.Fault k n) h =
          subst (λ f. IsBehind later u.limit u.at bytes p q (Some f)) (same_fault k n h.1 h.2)
          (rests.IsBehind.no_token now.tokens rest code place (omega (arith, h.0, size, is, limit)) reads bad)
        where
          same_fault : (k : Code) (n : ℕ) → k ≡ code → n ≡ place → Flaw.Fault code place ≡ Flaw.Fault k n
          same_fault k n e f = λ i. Flaw.Fault (sym e i) (sym f i)

  -- past the limit
  pub long_going : Scanning w c x d scan.TooLong → (bytes : List ℕ) → coming u a ≡ Some bytes
      → u.limit < u.at + length bytes
  long_going s bytes e =
      let now = g bytes e in
      omega (arith, same, reads_place now.reads.reads, s now.reads.rest now.reads.told)

  pub long_behind : Scanning w c x d scan.TooLong → (bytes : List ℕ) → coming u a ≡ Some bytes
      → IsBehind later u.limit u.at bytes p q (Some Flaw.TooLong)
  long_behind s bytes e = rests.IsBehind.too_long (long_going s bytes e)

  -- at a token with which no section goes on
  pub skimmed_behind : (t : Token) (flaw : Flaw) → x.limit ≡ u.limit → Scanning w c x d (scan.Token t)
      → ((later : Bool) (ts : List Token) → ReaderStands later reader ts → TokenTakes later ts t Taken.Unexpected)
      → ((bytes : List ℕ) → coming x d ≡ Some bytes → IsSkimmed x.limit x.at bytes Code.Unexpected t.start flaw)
      → (bytes : List ℕ) → coming u a ≡ Some bytes → IsBehind later u.limit u.at bytes p q (Some flaw)
  skimmed_behind t flaw limit s takes h bytes e =
      let now = g bytes e in
      let found = s now.reads.rest now.reads.told in
      let read = reads_join u.at bytes now.tokens (t ∷ []) w.at x.at (coming w c) (coming x d) now.reads found.0 in
      at_flaw now read (h read.rest read.told)
    where
      at_flaw : (now : Going later u.at bytes w.at (coming w c) reader p q)
          (read : ReadsTo u.at bytes (now.tokens ++ t ∷ []) x.at (coming x d)) {flaw : Flaw}
          → IsSkimmed x.limit x.at read.rest Code.Unexpected t.start flaw
          → IsBehind later u.limit u.at bytes p q (Some flaw)
      at_flaw now read (rests.IsSkimmed.too_long past) =
          rests.IsBehind.too_long (omega (arith, past, limit, reads_place read.reads))
      at_flaw now read (rests.IsSkimmed.no_token us rest k n inside reads bad) =
          rests.IsBehind.no_token ((now.tokens ++ t ∷ []) ++ us) rest k n
          (omega (arith, inside, limit, reads_place read.reads)) (reads_then read.reads reads) bad
      at_flaw now read (rests.IsSkimmed.stands us inside reads) =
          let place : x.at + length read.rest ≡ u.at + length bytes = omega (arith, reads_place read.reads) in
          let all : Tokenizes u.at bytes ((now.tokens ++ t ∷ []) ++ us) (x.at + length read.rest) [] =
          reads_then read.reads reads in
          rests.IsBehind.no_section now.tokens t us (omega (arith, inside, limit, place))
          (subst (λ ts. Tokenizes u.at bytes ts (u.at + length bytes) []) (append_assoc now.tokens (t ∷ []) us)
          (subst (λ m. Tokenizes u.at bytes ((now.tokens ++ t ∷ []) ++ us) m []) place all))
          now.opens (takes later now.tokens now.stands)

-- ---- a version that is given

module _ (u : Window) (a : Option (List ℕ)) (version : Option ℕ) (k : ℕ) (is : version ≡ Some k) (p q : Pending) where
  pub behind_at : {E : Type 0} (result : Result (Option Flaw) E)
      → IfOk result (λ flaw. (bytes : List ℕ) → coming u a ≡ Some bytes →
      IsBehind (k == 2) u.limit u.at bytes p q flaw)
      → IfOk result (λ flaw. (v : ℕ) → version ≡ Some v → (bytes : List ℕ) → coming u a ≡ Some bytes →
      IsBehind (v == 2) u.limit u.at bytes p q flaw)
  behind_at (Err e) h = tt
  behind_at (Ok flaw) h = λ v e bytes told.
      let somes : ◌≡◌ {A = Option ℕ} (Some k) (Some v) = sym is ∙ e in
      let same : k ≡ v = cc in
      subst (λ n. IsBehind (n == 2) u.limit u.at bytes p q flaw) same (h bytes told)

  pub not_none : {E : Type 0} (result : Result (Option Flaw) E)
      → IfOk result (λ flaw. version ≡ None → (flaw ≡ None) × (q ≡ p))
  not_none (Err e) = tt
  not_none (Ok flaw) = λ none. let no : ⊥ = cc in absurd no
