-- The three tokens of a pair, where they stand one after the other in a section.
use Rattle.std.specs.Prelude.{◌≡◌, ℕ, Bool, true, false, List, [], ◌∷◌, ◌++◌}
use Rattle.case_tables.specs.declared.symbol_table.Symbol.{Symbol}
use Rattle.unity_base.specs.declared.events.CertEvent.{CertEvent}
use Rattle.unity_syntax.specs.declared.token.Token.{Token}
use Rattle.unity_syntax.specs.declared.token.TokenKind.{TokenKind}
use Rattle.certificate_events.specs.declared.places.Stage.{Stage}
use Rattle.certificate_events.specs.declared.reader.Taken.{Taken}
use Rattle.certificate_events.specs.declared.reader.CertReader.{CertReader}
use Rattle.certificate_events.specs.Sections.{ReaderStands, IsSections, told}

-- a pair may stand next
abbrev pub is_pairs : Stage → Bool
is_pairs Stage.Pairs = true
is_pairs st = false

abbrev pub awaits_pair : CertReader → Bool
awaits_pair r = is_pairs r.place.stage

-- a number has to stand next, or a minus before one
abbrev pub is_number_stage : Stage → Bool
is_number_stage (Stage.Plain a) = true
is_number_stage (Stage.Signed a) = true
is_number_stage st = false

abbrev pub awaits_number : CertReader → Bool
awaits_number r = is_number_stage r.place.stage

-- a number, `*` and a number
pub record IsPairOf (by number : ℕ) (ps : List Token) : Type 0 where
  pub first : Token
  pub times : Token
  pub second : Token
  pub are : ps ≡ first ∷ times ∷ second ∷ []
  pub first_is : first.kind ≡ TokenKind.Number by
  pub times_is : times.kind ≡ TokenKind.Symbol Symbol.Times
  pub second_is : second.kind ≡ TokenKind.Number number

-- a reader that was handed tokens was handed these as well; they tell an event with the last of them, and some section
-- goes on with them
pub record TakesPair (later : Bool) (new : CertReader) (ts ps : List Token) (e : CertEvent) : Type 0 where
  pub stands : ReaderStands later new (ts ++ ps)
  pub tells : told later (ts ++ ps) ≡ told later ts ++ Taken.Nothing ∷ Taken.Nothing ∷ Taken.Event e ∷ []
  pub opens : (rest : List Token) × IsSections later ((ts ++ ps) ++ rest)
