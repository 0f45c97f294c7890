-- What expressions and assignments become depends on what the words around them stand for, and on nothing else of a
-- scope.
use Rattle.std.specs.Prelude.{◌≡◌, ℕ, List, [], option_map}
use Rattle.std.specs.Map.{lookup}
use Rattle.std.specs.Str.{bytes_eq}
use Rattle.unity_syntax.specs.declared.expression.Expr.{Expr}
use Rattle.unity_syntax.specs.declared.statement.Assign.{Assign}
use Rattle.meaning_documents.specs.Names.{Variable}
use Rattle.meaning_documents.specs.Names.{variable_named}
use Rattle.expand_rules.specs.Forming.{Scope, formed}
use Rattle.expand_rules.specs.Assigning.{effect_of}

-- a variable, whatever its name is
abbrev pub unnamed : Variable → Variable
unnamed v = record v { name = [] }

-- in two scopes each word stands for the same
pub record SeeSame (s t : Scope) : Type 0 where
  pub variables : (word : List ℕ) →
      option_map unnamed (variable_named word s.variables) ≡ option_map unnamed (variable_named word t.variables)
  pub words : (word : List ℕ) → lookup (bytes_eq word) s.words ≡ lookup (bytes_eq word) t.words
  pub always : (word : List ℕ) → lookup (bytes_eq word) s.always ≡ lookup (bytes_eq word) t.always
  pub bound : s.bound ≡ t.bound

-- then each expression becomes the same in both
abbrev pub FormedBySight : Type 0
FormedBySight = (e : Expr) (s t : Scope) → SeeSame s t → formed e s ≡ formed e t

-- and so does each assignment
abbrev pub AssignedBySight : Type 0
AssignedBySight = (a : Assign) (s t : Scope) → SeeSame s t → effect_of a s ≡ effect_of a t
