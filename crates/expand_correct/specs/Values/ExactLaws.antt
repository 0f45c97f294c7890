-- Which expressions and assignments become exact: those that are exact by their names.
use Rattle.std.specs.Prelude.{◌≡◌, ℕ, ℤ, List, true, false, Some}
use Rattle.std.specs.Map.{lookup}
use Rattle.std.specs.Str.{bytes_eq}
use Rattle.unity_syntax.specs.declared.expression.Expr.{Expr}
use Rattle.unity_syntax.specs.declared.statement.Assign.{Assign}
use Rattle.names_rules.specs.declared.named.Meaning.{Meaning}
use Rattle.names_rules.specs.declared.named.Named.{Named}
use Rattle.names_rules.specs.Scope.{Scope as NameScope, found, is_param}
use Rattle.names_laws.specs.Attributes.{exact_in, names_nothing}
use Rattle.names_laws.specs.AssignmentLaws.{is_exact_assignment}
use Rattle.expand_rules.specs.declared.cores.Bound.{Bound}
use Rattle.expand_rules.specs.Forming.{Scope, word_formed, formed}
use Rattle.expand_rules.specs.Assigning.{effect_of}

-- a place where names are looked up, and one where expressions are expanded: a bound name stands for a number, a word
-- that names nothing that varies becomes constant, and each word becomes exact
pub record Agrees (n : NameScope) (s : Scope) : Type 0 where
  pub bounds : (word : List ℕ) (m : Meaning) → lookup (bytes_eq word) n.bounds ≡ Some m → is_param m ≡ false →
      (z : ℤ) × (lookup (bytes_eq word) s.bound ≡ Some (Bound.Number z))
  pub constant : (word : List ℕ) (named : Named) → found n word ≡ Some named → named.constant ≡ true →
      (word_formed s word).constant ≡ true
  pub exact : (word : List ℕ) → (word_formed s word).exact ≡ true

-- an expression that is exact by its names becomes exact,
abbrev pub ExpressionsExact : Type 0
ExpressionsExact = (e : Expr) (n : NameScope) (s : Scope) → Agrees n s → exact_in e n ≡ true → (formed e s).exact ≡
    true

-- one that names nothing that varies becomes constant,
abbrev pub ExpressionsConstant : Type 0
ExpressionsConstant =
    (e : Expr) (n : NameScope) (s : Scope) → Agrees n s → names_nothing e n ≡ true → (formed e s).constant ≡ true

-- and an assignment that is exact by its names becomes exact
abbrev pub AssignmentsExact : Type 0
AssignmentsExact = (a : Assign) (n : NameScope) (s : Scope) → Agrees n s → is_exact_assignment a n ≡ true →
    (effect_of a s).exact ≡ true
