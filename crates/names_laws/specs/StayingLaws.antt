-- What a word of a well-named document means stays its meaning in the rest of the document.
use Rattle.std.specs.Prelude.{◌≡◌, ℕ, List, Some, None}
use Rattle.std.specs.Map.{lookup}
use Rattle.std.specs.Str.{bytes_eq}
use Rattle.unity_syntax.specs.declared.declaration.Var.{Var}
use Rattle.unity_syntax.specs.declared.declaration.Def.{Def}
use Rattle.unity_syntax.specs.declared.document.Part.{Part as DocumentPart}
use Rattle.names_rules.specs.declared.named.Named.{Named}
use Rattle.names_rules.specs.Scope.{Table}
use Rattle.names_rules.specs.Part.{run}
use Rattle.names_rules.specs.Declarations.{variable_part, always_part}
use Rattle.names_rules.specs.WellNamed.{Declared, part_of}

-- each word of a table is in another as what it is here; only the program that declared it last may differ
abbrev pub StaysIn : Table → Table → Type 0
StaysIn names later = (word : List ℕ) (n : Named) → lookup (bytes_eq word) names ≡ Some n →
    (program : ℕ) × (lookup (bytes_eq word) later ≡ Some (record n { program = program }))

-- so it is after parts of a document without a fault,
abbrev pub StaysInDocuments : Type 0
StaysInDocuments = (d : Declared) (parts : List DocumentPart) → (run part_of d parts).fault ≡ None →
    StaysIn d.names (run part_of d parts).after.names

-- after variables of a program,
abbrev pub StaysInVariables : Type 0
StaysInVariables = (names : Table) (program : ℕ) (declare : List Var) →
    (run (variable_part program) names declare).fault ≡ None →
    StaysIn names (run (variable_part program) names declare).after

-- and after its definitions
abbrev pub StaysInDefinitions : Type 0
StaysInDefinitions = (names : Table) (program : ℕ) (always : List Def) →
    (always_part program names always).fault ≡ None → StaysIn names (always_part program names always).after
