-- The always names that a well-named document defines, among its words.
use Rattle.std.specs.Prelude.{◌≡◌, ℕ, List, Bool, true, false, Some, None}
use Rattle.std.specs.List.{flat_map, list_any}
use Rattle.std.specs.Map.{lookup}
use Rattle.std.specs.Str.{bytes_eq}
use Rattle.unity_syntax.specs.declared.declaration.Def.{Def}
use Rattle.unity_syntax.specs.declared.document.Part.{Part as DocumentPart}
use Rattle.meaning_documents.specs.Setting.{programs_among, definitions}
use Rattle.names_rules.specs.declared.named.Meaning.{Meaning}
use Rattle.names_rules.specs.declared.named.Named.{Named}
use Rattle.names_rules.specs.Scope.{Table}
use Rattle.names_rules.specs.Part.{run}
use Rattle.names_rules.specs.WellNamed.{nothing_declared, part_of}

-- whether a meaning is that of an always name
abbrev pub is_always : Meaning → Bool
is_always (Meaning.Always at) = true
is_always _ = false

-- whether one of these definitions has this name
abbrev pub is_always_name : List ℕ → List Def → Bool
is_always_name word ds = list_any (λ d. bytes_eq word d.name.text) ds

-- a word is an always name in a table
abbrev pub IsAlwaysIn : Table → List ℕ → Type 0
IsAlwaysIn names word = (n : Named) × (lookup (bytes_eq word) names ≡ Some n) × (is_always n.meaning ≡ true)

-- after parts of a document without a fault, each word that one of its programs defines is an always name, and so
-- neither a variable nor a word of an enumeration
abbrev pub DefinedIsAlways : Type 0
DefinedIsAlways = (parts : List DocumentPart) → (run part_of nothing_declared parts).fault ≡ None →
    (word : List ℕ) → is_always_name word (flat_map definitions (programs_among parts)) ≡ true →
    IsAlwaysIn (run part_of nothing_declared parts).after.names word
