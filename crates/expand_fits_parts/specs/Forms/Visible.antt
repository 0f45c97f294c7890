-- Where an expression or an assignment has no fault of names, tests that the words found there pass are passed
-- by all its words.
use Rattle.std.specs.Prelude.{◌≡◌, ℕ, List, true, ◌||◌, Some, None}
use Rattle.std.specs.Option.{is_some}
use Rattle.unity_syntax.specs.declared.expression.Expr.{Expr}
use Rattle.unity_syntax.specs.declared.statement.Assign.{Assign}
use Rattle.names_rules.specs.declared.named.Named.{Named}
use Rattle.names_rules.specs.Scope.{Scope as NameScope, found, is_variable}
use Rattle.names_rules.specs.Reading.{read}
use Rattle.names_rules.specs.Statements.{assign_reading}
use Rattle.expand_fits_parts.specs.Forms.Naming.{WordTest, words_pass, assignment_passes}

-- the words that are found pass the first test, and those among them that are variables or arrays the second
pub record FoundPass (n : NameScope) (alone whole : WordTest) : Type 0 where
  pub words : (word : List ℕ) (m : Named) → found n word ≡ Some m → alone word ≡ true
  pub variables : (word : List ℕ) (m : Named) → found n word ≡ Some m →
      (is_variable m.meaning || is_some m.indices) ≡ true → whole word ≡ true

abbrev pub ExpressionsRead : Type 0
ExpressionsRead = (e : Expr) (n : NameScope) (alone whole : WordTest) → FoundPass n alone whole →
    (read e n).fault ≡ None → words_pass e alone whole ≡ true

abbrev pub AssignmentsRead : Type 0
AssignmentsRead = (a : Assign) (n : NameScope) (alone whole : WordTest) → FoundPass n alone whole →
    (assign_reading a n).fault ≡ None → assignment_passes a alone whole ≡ true
