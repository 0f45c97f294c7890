-- What becomes exact in a well-named document: its statements, its initially sections and its always names.
use Rattle.std.specs.Prelude.{◌≡◌, ℕ, List, [], true, Option, Some, None, ⊤}
use Rattle.std.specs.Map.{lookup}
use Rattle.std.specs.Str.{bytes_eq}
use Rattle.unity_syntax.specs.declared.program.Initially.{Initially}
use Rattle.unity_syntax.specs.declared.program.Program.{Program}
use Rattle.unity_syntax.specs.declared.document.Document.{Document}
use Rattle.meaning_documents.specs.Instances.{Instance, instances}
use Rattle.meaning_documents.specs.Setting.{programs_among}
use Rattle.names_rules.specs.WellNamed.{IsWellNamed}
use Rattle.expand_rules.specs.declared.cores.Formed.{Formed}
use Rattle.expand_rules.specs.Forming.{Scope, as_truth, formed}
use Rattle.expand_rules.specs.Assigning.{stated}
use Rattle.expand_rules.specs.Documents.{scope_of, within}
use Rattle.expand_correct.specs.Exact.Parts.{EachItem}

-- where the expressions of a document stand, outside all bound names
abbrev pub document_scope : Document → Scope
document_scope d = within (scope_of (programs_among d.parts)) []

-- a statement becomes exact
abbrev pub IsExactInstance : Scope → Instance → Type 0
IsExactInstance s i = (stated s i).effect.exact ≡ true

-- the statements of a program do; a union has none of its own
abbrev pub ExactStatements : Scope → Program → Type 0
ExactStatements s (Program.Union at name left right) = ⊤
ExactStatements s (Program.Plain at name declare always initially start items) =
    EachItem (IsExactInstance s) (instances items)

-- an initially section does, where there is one
abbrev pub ExactSection : Scope → Option Initially → Type 0
ExactSection s None = ⊤
ExactSection s (Some section) = (as_truth (formed section.of s)).exact ≡ true

abbrev pub ExactInitially : Scope → Program → Type 0
ExactInitially s (Program.Union at name left right) = ⊤
ExactInitially s (Program.Plain at name declare always initially start items) = ExactSection s initially

-- in a well-named document, each statement of each program becomes exact,
abbrev pub StatementsByNames : Type 0
StatementsByNames = (d : Document) → IsWellNamed d → EachItem (ExactStatements (document_scope d)) (programs_among
    d.parts)

-- so does each initially section,
abbrev pub InitiallyByNames : Type 0
InitiallyByNames = (d : Document) → IsWellNamed d → EachItem (ExactInitially (document_scope d)) (programs_among
    d.parts)

-- and what each always name has become is exact
abbrev pub AlwaysByNames : Type 0
AlwaysByNames = (d : Document) → IsWellNamed d → (word : List ℕ) (f : Formed) →
    lookup (bytes_eq word) (document_scope d).always ≡ Some f → f.exact ≡ true
