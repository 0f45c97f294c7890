-- The programs of a document without a fault become exact, and no end of a range and no divisor in them is bad.
use Rattle.std.specs.Prelude.{◌≡◌, [], None, ⊤}
use Rattle.unity_syntax.specs.declared.program.Program.{Program}
use Rattle.unity_syntax.specs.declared.document.Document.{Document}
use Rattle.meaning_documents.specs.Setting.{programs_among}
use Rattle.names_rules.specs.WellNamed.{IsWellNamed}
use Rattle.expand_rules.specs.Forming.{Scope}
use Rattle.expand_rules.specs.Documents.{scope_of, within}
use Rattle.expand_rules.specs.Programs.{InitiallyExact, StatementsExact}
use Rattle.expand_correct.specs.Exact.Parts.{EachItem}
use Rattle.expand_documents.specs.Faults.{expansion_fault}

-- an initially section and statements that are exact; a union has none of its own
abbrev pub ProgramExact : Scope → Program → Type 0
ProgramExact s (Program.Union at name left right) = ⊤
ProgramExact s (Program.Plain at name declare always initially start items) =
    InitiallyExact s initially × StatementsExact s items

-- so are those of each program
abbrev pub ProgramsExact : Type 0
ProgramsExact = (d : Document) → IsWellNamed d → expansion_fault d ≡ None →
    EachItem (ProgramExact (within (scope_of (programs_among d.parts)) [])) (programs_among d.parts)
