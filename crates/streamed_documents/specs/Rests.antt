-- What is left of a text, from a place on, is found to be.
use Rattle.std.specs.Prelude.{◌≡◌, ◌⊎◌, ℕ, ◌+◌, ◌<◌, ◌≤◌, Bool, List, [], ◌∷◌, ◌++◌, length, Option, Some, None}
use Rattle.std.specs.Io.KnownBytes.{IsAtEnd}
use Rattle.case_tables.specs.declared.code_table.Code.{Code}
use Rattle.unity_base.specs.declared.window.Window.{Window}
use Rattle.unity_base.specs.Window.{held, coming, PassesLimit}
use Rattle.unity_syntax.specs.declared.token.Token.{Token}
use Rattle.unity_syntax.specs.declared.certificate.Certificates.{Certificates}
use Rattle.unity_lexer.specs.Tokens.{Tokenizes, IsFaulty}
use Rattle.certificate_events.specs.declared.reader.Taken.{Taken}
use Rattle.certificate_events.specs.Events.{section_events}
use Rattle.certificate_events.specs.Sections.{IsSection, IsSections, TokenTakes}
use Rattle.front_documents.specs.Laws.{BeginsSections}
use Rattle.streamed_documents.specs.declared.found.Flaw.{Flaw}
use Rattle.streamed_documents.specs.declared.behind.Pending.{Pending}
use Rattle.streamed_documents.specs.Hearing.{Hears}

-- a fault is known that nothing but the length of the text comes before
abbrev pub IsKeptFlaw : ℕ → ℕ → List ℕ → Code → ℕ → Flaw → Type 0
IsKeptFlaw limit at bytes code place Flaw.TooLong = limit < at + length bytes
IsKeptFlaw limit at bytes code place (Flaw.Fault c p) = (at + length bytes ≤ limit) × (c ≡ code) × (p ≡ place)

-- a fault is known that also a place comes before at which no token can be read
pub data IsSkimmed (limit at : ℕ) (bytes : List ℕ) (code : Code) (place : ℕ) : Flaw → Type 0 where
  too_long : limit < at + length bytes → IsSkimmed limit at bytes code place Flaw.TooLong
  no_token : (ts : List Token) (rest : List ℕ) (c : Code) (p : ℕ) → at + length bytes ≤ limit →
      Tokenizes at bytes ts p rest → IsFaulty rest c → IsSkimmed limit at bytes code place (Flaw.Fault c p)
  stands : (ts : List Token) → at + length bytes ≤ limit → Tokenizes at bytes ts (at + length bytes) [] →
      IsSkimmed limit at bytes code place (Flaw.Fault code place)

-- what stands behind the word `certificates` is a section, whose events were heard, or is at fault
pub data IsBehind (later : Bool) (limit at : ℕ) (bytes : List ℕ) (old new : Pending) : Option Flaw → Type 0 where
  too_long : limit < at + length bytes → IsBehind later limit at bytes old new (Some Flaw.TooLong)
  no_token : (ts : List Token) (rest : List ℕ) (c : Code) (p : ℕ) → at + length bytes ≤ limit →
      Tokenizes at bytes ts p rest → IsFaulty rest c → IsBehind later limit at bytes old new (Some (Flaw.Fault c p))
  no_section : (ts : List Token) (t : Token) (us : List Token) → at + length bytes ≤ limit →
      Tokenizes at bytes (ts ++ t ∷ us) (at + length bytes) [] → BeginsSections later ts →
      TokenTakes later ts t Taken.Unexpected →
      IsBehind later limit at bytes old new (Some (Flaw.Fault Code.Unexpected t.start))
  too_short : (ts : List Token) → at + length bytes ≤ limit → Tokenizes at bytes ts (at + length bytes) [] →
      BeginsSections later ts → ¬ IsSections later ts →
      IsBehind later limit at bytes old new (Some (Flaw.Fault Code.Unexpected (at + length bytes)))
  section : (ts : List Token) (c : Certificates) → at + length bytes ≤ limit →
      Tokenizes at bytes ts (at + length bytes) [] → IsSection later ts c → Hears old new (section_events c) →
      IsBehind later limit at bytes old new None

-- all was read: up to the end, or past the limit
abbrev pub IsReadOut : Window → Option (List ℕ) → Window → Option (List ℕ) → Flaw → Type 0
IsReadOut old before new after Flaw.TooLong = PassesLimit old (coming old before)
IsReadOut old before new after (Flaw.Fault c p) = (held new ≡ []) × IsAtEnd after

abbrev pub IsAllRead : Window → Option (List ℕ) → Window → Option (List ℕ) → Option Flaw → Type 0
IsAllRead old before new after None = (held new ≡ []) × IsAtEnd after
IsAllRead old before new after (Some flaw) = IsReadOut old before new after flaw

-- either of the two
abbrev pub IsOut : Window → Option (List ℕ) → Window → Option (List ℕ) → Type 0
IsOut old before new after = ((held new ≡ []) × IsAtEnd after) ⊎ PassesLimit old (coming old before)

-- where the text ends behind these tokens, at this place, they are a section, or it ends too early
abbrev pub IsSectionEnding : Bool → List Token → ℕ → Option Flaw → Type 0
IsSectionEnding later ts at None = IsSections later ts
IsSectionEnding later ts at (Some flaw) = (flaw ≡ Flaw.Fault Code.Unexpected at) × (¬ IsSections later ts)
