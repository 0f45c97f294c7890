-- The words that a well-named document declares as variables, and the variables that it means by them.
use Rattle.std.specs.Prelude.{◌≡◌, ℕ, ℤ, List, Bool, true, false, Some, None, option_map}
use Rattle.std.specs.Map.{lookup}
use Rattle.std.specs.Str.{bytes_eq}
use Rattle.unity_syntax.specs.declared.declaration.Var.{Var}
use Rattle.unity_syntax.specs.declared.declaration.Def.{Def}
use Rattle.unity_syntax.specs.declared.document.Part.{Part as DocumentPart}
use Rattle.meaning_documents.specs.Names.{Variable, slot_named}
use Rattle.meaning_documents.specs.Setting.{programs_among, with_declarations}
use Rattle.names_rules.specs.declared.named.Named.{Named}
use Rattle.names_rules.specs.declared.named.Sort.{Sort}
use Rattle.names_rules.specs.declared.named.Span.{Span}
use Rattle.names_rules.specs.Scope.{Scope, Table, is_variable, found}
use Rattle.names_rules.specs.Part.{run}
use Rattle.names_rules.specs.Declarations.{variable_part, always_part}
use Rattle.names_rules.specs.WellNamed.{nothing_declared, part_of}
use Rattle.meaning_documents.specs.Setting.{variables_of}
use Rattle.meaning_documents.specs.Names.{variable_named}

-- whether a type is that of truths
abbrev pub is_boolean_sort : Sort → Bool
is_boolean_sort Sort.Boolean = true
is_boolean_sort _ = false

abbrev pub span_ends : Span → ℤ × ℤ
span_ends r = (r.low, r.high)

-- a word and a variable that are both truths or neither, and have the same indices
abbrev pub SameKind : Named → Variable → Type 0
SameKind n v = (is_boolean_sort n.sort ≡ v.is_truth) × (option_map span_ends n.indices ≡ v.indices)

-- the words of a table that are variables are these variables
pub record Mirrors (names : Table) (vs : List Variable) : Type 0 where
  pub there : (word : List ℕ) (n : Named) → lookup (bytes_eq word) names ≡ Some n → is_variable n.meaning ≡ true →
      (v : Variable) × (variable_named word vs ≡ Some v) × SameKind n v
  pub back : (word : List ℕ) (v : Variable) → variable_named word vs ≡ Some v →
      (n : Named) × (lookup (bytes_eq word) names ≡ Some n) × (is_variable n.meaning ≡ true)

-- after parts of a document without a fault, they are the variables of its programs so far,
abbrev pub MirroredByDocuments : Type 0
MirroredByDocuments = (parts : List DocumentPart) → (run part_of nothing_declared parts).fault ≡ None →
    Mirrors (run part_of nothing_declared parts).after.names (variables_of (programs_among parts))

-- after variables of a program, those and the ones before it,
abbrev pub MirroredByVariables : Type 0
MirroredByVariables = (names : Table) (vs : List Variable) (program : ℕ) (declare : List Var) → Mirrors names vs →
    (run (variable_part program) names declare).fault ≡ None →
    Mirrors (run (variable_part program) names declare).after (with_declarations vs declare)

-- and after its definitions, the same
abbrev pub MirroredByDefinitions : Type 0
MirroredByDefinitions = (names : Table) (vs : List Variable) (program : ℕ) (always : List Def) → Mirrors names vs →
    (always_part program names always).fault ≡ None → Mirrors (always_part program names always).after vs

-- a variable stays the one of its name after further declarations
abbrev pub VariablesStay : Type 0
VariablesStay = (vs : List Variable) (declare : List Var) (name : List ℕ) (v : Variable) →
    variable_named name vs ≡ Some v → variable_named name (with_declarations vs declare) ≡ Some v

-- a variable that is no array has its first slot
abbrev pub PlainSlot : Type 0
PlainSlot = (vs : List Variable) (name : List ℕ) (v : Variable) → variable_named name vs ≡ Some v →
    v.indices ≡ None → slot_named name None vs ≡ Some v.first

-- a word that means a variable, and no bound name or parameter, is the name of one, and has its first slot where it is
-- no array
abbrev pub VariableFound : Type 0
VariableFound = (s : Scope) (vs : List Variable) (word : List ℕ) (n : Named) → Mirrors s.names vs →
    lookup (bytes_eq word) s.bounds ≡ None → lookup (bytes_eq word) s.params ≡ None → found s word ≡ Some n →
    is_variable n.meaning ≡ true →
    (v : Variable) × (variable_named word vs ≡ Some v) × SameKind n v ×
    (n.indices ≡ None → slot_named word None vs ≡ Some v.first)
