-- Where the expressions of a well-named document stand, names and expansion agree.
use Rattle.std.specs.Prelude.{◌≡◌, ℕ, ℤ, List, false, Some, None}
use Rattle.std.specs.Map.{lookup}
use Rattle.std.specs.Str.{bytes_eq}
use Rattle.unity_syntax.specs.declared.document.Part.{Part as DocumentPart}
use Rattle.meaning_documents.specs.Setting.{programs_among}
use Rattle.names_rules.specs.declared.named.Meaning.{Meaning}
use Rattle.names_rules.specs.Scope.{Scope as NameScope, is_param}
use Rattle.names_rules.specs.Part.{run}
use Rattle.names_rules.specs.WellNamed.{nothing_declared, part_of}
use Rattle.names_laws.specs.StayingLaws.{StaysIn}
use Rattle.expand_rules.specs.declared.cores.Bound.{Bound}
use Rattle.expand_rules.specs.Documents.{scope_of, within}
use Rattle.expand_correct.specs.Values.ExactLaws.{Agrees}

-- a bound name stands for a number, and what is neither bound nor a parameter stands for nothing here
pub record BindsAlike (n : NameScope) (bs : List (List ℕ × Bound)) : Type 0 where
  pub numbers : (word : List ℕ) (m : Meaning) → lookup (bytes_eq word) n.bounds ≡ Some m → is_param m ≡ false →
      (z : ℤ) × (lookup (bytes_eq word) bs ≡ Some (Bound.Number z))
  pub free : (word : List ℕ) → lookup (bytes_eq word) n.bounds ≡ None → lookup (bytes_eq word) n.params ≡ None →
      lookup (bytes_eq word) bs ≡ None

-- in parts of a document without a fault they agree wherever what is declared so far stays
abbrev pub DocumentAgrees : Type 0
DocumentAgrees = (parts : List DocumentPart) → (run part_of nothing_declared parts).fault ≡ None →
    (n : NameScope) (bs : List (List ℕ × Bound)) →
    StaysIn n.names (run part_of nothing_declared parts).after.names → BindsAlike n bs →
    Agrees n (within (scope_of (programs_among parts)) bs)
