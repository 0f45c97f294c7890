-- Sections of certificates, and what a reader of one stands for.
use Rattle.std.specs.Prelude.{◌≡◌, ℕ, Bool, List, ◌∷◌, ◌++◌, length, slice_get, Some}
use Rattle.case_tables.specs.declared.word_table.Word.{Word}
use Rattle.grammar_theory.specs.Ebnf.{Terminal, Derives}
use Rattle.unity_syntax.specs.declared.token.Token.{Token}
use Rattle.unity_syntax.specs.declared.certificate.Certificates.{Certificates}
use Rattle.unity_syntax.specs.Classes.{reserved, terminals}
use Rattle.unity_syntax.specs.Grammar.{grammar, certificates_}
use Rattle.unity_syntax.specs.View.{view_certificates}
use Rattle.certificate_events.specs.declared.reader.Taken.{Taken}
use Rattle.certificate_events.specs.declared.reader.CertReader.{CertReader}
use Rattle.certificate_events.specs.Signs.{signs}
use Rattle.certificate_events.specs.Steps.{start, reach, answers}
use Rattle.certificate_events.specs.Events.{section_takes}

-- the tokens behind a word `certificates` are the rest of this section
pub record IsSection (later : Bool) (ts : List Token) (c : Certificates) : Type 0 where
  pub bytes : List ℕ
  pub word : Terminal
  pub is_word : word.class ≡ reserved Word.Certificates
  pub derives : Derives grammar certificates_ (view_certificates c) (word ∷ terminals later bytes ts)

-- they are the rest of some section
abbrev pub IsSections : Bool → List Token → Type 0
IsSections later ts = (c : Certificates) × IsSection later ts c

-- the tokens that a reader was handed
pub record ReaderStands (later : Bool) (r : CertReader) (ts : List Token) : Type 0 where
  pub version : r.later ≡ later
  pub place : r.place ≡ reach start (signs later ts)

-- how many were taken one by one
abbrev pub reader_count : CertReader → ℕ
reader_count r = r.taken

-- what a token tells behind others: that no section goes on so, or what a section that does has there
abbrev pub TokenTakes : Bool → List Token → Token → Taken → Type 0
TokenTakes later ts t Taken.Unexpected =
    (rest : List Token) (c : Certificates) → IsSection later (ts ++ t ∷ rest) c → ⊥
TokenTakes later ts t taken =
    (rest : List Token) × (c : Certificates) × IsSection later (ts ++ t ∷ rest) c
    × (slice_get (section_takes c) (length ts) ≡ Some taken)

-- what tokens tell, one after the other
abbrev pub told : Bool → List Token → List Taken
told later ts = answers start (signs later ts)
