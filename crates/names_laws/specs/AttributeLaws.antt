-- What a reading without a fault says of an expression.
use Rattle.std.specs.Prelude.{◌≡◌, ℕ, List, true, false, Some, None}
use Rattle.std.specs.Map.{lookup}
use Rattle.std.specs.Option.{is_some}
use Rattle.std.specs.Str.{bytes_eq}
use Rattle.unity_syntax.specs.declared.expression.Expr.{Expr}
use Rattle.unity_syntax.specs.declared.declaration.Var.{Var}
use Rattle.unity_syntax.specs.declared.declaration.Def.{Def}
use Rattle.unity_syntax.specs.declared.document.Part.{Part as DocumentPart}
use Rattle.names_rules.specs.declared.named.Named.{Named}
use Rattle.names_rules.specs.Scope.{Scope, Table}
use Rattle.names_rules.specs.Reading.{read}
use Rattle.names_rules.specs.Part.{run}
use Rattle.names_rules.specs.Declarations.{variable_part, always_part}
use Rattle.names_rules.specs.WellNamed.{nothing_declared, part_of}
use Rattle.names_laws.specs.Attributes.{exact_in, names_nothing}

-- an array is not constant
abbrev pub VariesAsArray : Named → Type 0
VariesAsArray n = is_some n.indices ≡ true → n.constant ≡ false

-- no array of a table is constant
abbrev pub ArraysVary : Table → Type 0
ArraysVary names = (word : List ℕ) (n : Named) → lookup (bytes_eq word) names ≡ Some n → VariesAsArray n

-- an expression without a fault is exact
abbrev pub ExactWhereFaultless : Type 0
ExactWhereFaultless = (e : Expr) (s : Scope) → ArraysVary s.names → (read e s).fault ≡ None → exact_in e s ≡ true

-- and names nothing that varies where its reading says that it is constant, and only there
abbrev pub ConstantAsRead : Type 0
ConstantAsRead = (e : Expr) (s : Scope) → ArraysVary s.names → (read e s).fault ≡ None →
    names_nothing e s ≡ (read e s).constant

-- the tables in which a document's words are looked up have no constant array: after each part of it,
abbrev pub DocumentsVary : Type 0
DocumentsVary = (parts : List DocumentPart) → ArraysVary (run part_of nothing_declared parts).after.names

-- after each variable of a program,
abbrev pub VariablesVary : Type 0
VariablesVary = (program : ℕ) (names : Table) (declare : List Var) → ArraysVary names →
    ArraysVary (run (variable_part program) names declare).after

-- and after each of its definitions
abbrev pub DefinitionsVary : Type 0
DefinitionsVary = (program : ℕ) (names : Table) (always : List Def) → ArraysVary names →
    ArraysVary (always_part program names always).after
