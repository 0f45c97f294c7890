-- What came next in a section that is read token by token.
use Rattle.std.specs.Prelude.{◌≡◌, ◌+◌, Bool, List, [], ◌∷◌, ◌++◌}
use Rattle.unity_syntax.specs.declared.token.Token.{Token}
use Rattle.unity_lexer.specs.declared.scan.Scan.{Scan}
use Rattle.unity_lexer.specs.declared.scan.Scan.TheVariants as scan
use Rattle.certificate_events.specs.declared.reader.Taken.{Taken}
use Rattle.certificate_events.specs.declared.reader.CertReader.{CertReader}
use Rattle.certificate_events.specs.Sections.{ReaderStands, TokenTakes, reader_count, told}
use Rattle.streamed_documents.specs.declared.behind.Step.{Step}

-- what was read
abbrev pub scan_of : Step → Scan
scan_of (Step.Taken token taken) = scan.Token token
scan_of Step.End = scan.End
scan_of (Step.Fault code at) = scan.Fault code at
scan_of Step.TooLong = scan.TooLong

-- a reader took a token, which tells this behind those that it was handed before
pub record TakesToken (old new : CertReader) (t : Token) (taken : Taken) : Type 0 where
  pub stands : (later : Bool) (ts : List Token) → ReaderStands later old ts → ReaderStands later new (ts ++ t ∷ [])
  pub takes : (later : Bool) (ts : List Token) → ReaderStands later old ts → TokenTakes later ts t taken
  pub told_is : (later : Bool) (ts : List Token) → ReaderStands later old ts →
      told later (ts ++ t ∷ []) ≡ told later ts ++ taken ∷ []
  pub count : reader_count new ≡ reader_count old + 1

-- it took the token that was read, and nothing where none was
abbrev pub TakesStep : CertReader → CertReader → Step → Type 0
TakesStep old new (Step.Taken token taken) = TakesToken old new token taken
TakesStep old new step = new ≡ old
