-- The programs of a well-named document name only the slots that they show.
use Rattle.std.specs.Prelude.{◌≡◌, ℕ, List, [], ◌∷◌, Bool, true, not, ◌&&◌, nat_eq, All}
use Rattle.std.specs.List.{list_any}
use Rattle.unity_syntax.specs.declared.program.Program.{Program}
use Rattle.unity_syntax.specs.declared.document.Document.{Document}
use Rattle.meaning_documents.specs.Setting.{programs_among}
use Rattle.names_rules.specs.WellNamed.{IsWellNamed}
use Rattle.expand_correct.specs.from_expand_documents.Cores.{core_document}
use Rattle.expand_fits_parts.specs.Forms.Programs.{ProgramShows}

-- whether the name of each program that is no union stands at a byte of its own, and at none of these
abbrev pub names_apart : List ℕ → List Program → Bool
names_apart before [] = true
names_apart before (Program.Union at name left right ∷ rest) = names_apart before rest
names_apart before (Program.Plain at name declare always initially start items ∷ rest) =
    not (list_any (nat_eq name.at) before) && names_apart (name.at ∷ before) rest

-- so it is in each document that was read from a text
pub record HasApartNames (d : Document) : Type 0 where
  pub apart : names_apart [] (programs_among d.parts) ≡ true

abbrev pub ProgramsShow : Type 0
ProgramsShow = (d : Document) → IsWellNamed d → HasApartNames d → All ProgramShows (core_document d).programs
