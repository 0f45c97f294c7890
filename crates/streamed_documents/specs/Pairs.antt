-- Pairs of a certificate that are read one after the other.
use Rattle.std.specs.Prelude.{◌≡◌, ℕ, Bool, List, ◌++◌, Option, Some}
use Rattle.unity_base.specs.declared.window.Window.{Window}
use Rattle.unity_base.specs.Window.{coming, window_at}
use Rattle.unity_syntax.specs.declared.token.Token.{Token}
use Rattle.unity_lexer.specs.Scans.{ReadsTo}
use Rattle.certificate_events.specs.declared.reader.Taken.{Taken}
use Rattle.certificate_events.specs.declared.reader.CertReader.{CertReader}
use Rattle.certificate_events.specs.Events.{events}
use Rattle.certificate_events.specs.Sections.{ReaderStands, told}
use Rattle.front_documents.specs.Laws.{BeginsSections}
use Rattle.streamed_documents.specs.declared.behind.Pending.{Pending}
use Rattle.streamed_documents.specs.Hearing.{Hears}

-- a reader that was handed tokens was handed these as well; some section goes on with them, and they tell this
pub record TakesMore (later : Bool) (new : CertReader) (ts us : List Token) (tells : List Taken) : Type 0 where
  pub stands : ReaderStands later new (ts ++ us)
  pub opens : BeginsSections later (ts ++ us)
  pub told_is : told later (ts ++ us) ≡ told later ts ++ tells

-- tokens were read of these bytes and taken, and what they tell was heard
pub record HeardMore (later : Bool) (w x : Window) (left : Option (List ℕ)) (old new : CertReader) (p q : Pending)
    (bytes : List ℕ) : Type 0 where
  pub tokens : List Token
  pub tells : List Taken
  pub reads : ReadsTo (window_at w) bytes tokens (window_at x) (coming x left)
  pub takes : (ts : List Token) → ReaderStands later old ts → BeginsSections later ts →
      TakesMore later new ts tokens tells
  pub heard : Hears p q (events tells)

-- where the bytes are told
abbrev pub HearsMore : Bool → Window → Window → Option (List ℕ) → CertReader → CertReader → Pending → Pending → Type 0
HearsMore later w x left old new p q =
    (bytes : List ℕ) → coming w left ≡ Some bytes → HeardMore later w x left old new p q bytes
