-- Which words an expression and an assignment name, and what their core names.
use Rattle.std.specs.Prelude.{◌≡◌, ℕ, ◌+◌, ◌<◌, ℤ, List, ◌∷◌, Bool, true, ◌&&◌, ◌||◌, Option, Some, None}
use Rattle.std.specs.Prelude.{All}
use Rattle.std.specs.List.{list_all}
use Rattle.std.specs.Str.{bytes_eq}
use Rattle.unity_syntax.specs.declared.expression.Expr.{Expr, fold-Expr}
use Rattle.unity_syntax.specs.declared.expression.Expr.TheOpen.{Expr-F}
use Rattle.unity_syntax.specs.declared.statement.Target.{Target}
use Rattle.unity_syntax.specs.declared.statement.Assign.{Assign, fold-Assign}
use Rattle.unity_syntax.specs.declared.statement.Component.TheOpen.{Component-F, Assign-F}
use Rattle.meaning_documents.specs.Names.{Variable}
use Rattle.meaning_executions.specs.Counting.{range_size}
use Rattle.meaning_documents.specs.Writes.{Alternative, alternatives}
use Rattle.meaning_documents.specs.Names.{variable_named}
use Rattle.core_terms.specs.declared.programs.CWrite.{CWrite}
use Rattle.core_terms.specs.Places.{term_names_only, form_names_only}
use Rattle.expand_rules.specs.declared.cores.Core.{Core}
use Rattle.expand_rules.specs.declared.effects.Effect.{Effect}
use Rattle.expand_rules.specs.Forming.{Scope, word_formed}

-- words

-- a test of words
abbrev pub WordTest : Type 0
WordTest = List ℕ → Bool

abbrev pub any_word : WordTest
any_word word = true

-- a test that one more word passes
abbrev pub or_word : WordTest → List ℕ → WordTest
or_word test name word = test word || bytes_eq word name

-- whether the words of a part pass the first test where they stand alone, and the second where they stand for a
-- variable as a whole: before an index, and as a target
abbrev pub Wording : Type 0
Wording = WordTest → WordTest → Bool

abbrev pub indexed_words : List ℕ → Option Wording → Wording
indexed_words name None alone whole = alone name
indexed_words name (Some index) alone whole = whole name && index alone whole

-- a name that a quantifier binds passes within it
abbrev pub words_layer : Expr-F Wording → Wording
words_layer (Expr-F.Implies at left right) a w = left a w && right a w
words_layer (Expr-F.And at first rest) a w = first a w && list_all (λ m. m a w) rest
words_layer (Expr-F.Or at first rest) a w = first a w && list_all (λ m. m a w) rest
words_layer (Expr-F.Not at of) a w = of a w
words_layer (Expr-F.Compare at left relation right) a w = left a w && right a w
words_layer (Expr-F.Sum at minus first rest) a w = first a w && list_all (λ part. part.1 a w) rest
words_layer (Expr-F.Product at first rest) a w = first a w && list_all (λ part. part.1 a w) rest
words_layer (Expr-F.Number at number) a w = true
words_layer (Expr-F.True at) a w = true
words_layer (Expr-F.False at) a w = true
words_layer (Expr-F.Word at name index) a w = indexed_words name.text index a w
words_layer (Expr-F.Brackets at of) a w = of a w
words_layer (Expr-F.Quantified at which name range of) a w = of (or_word a name.text) w

-- whether all words of an expression pass
abbrev pub words_pass : Expr → Wording
words_pass = fold-Expr Wording words_layer

abbrev pub words_pass_or_none : Option Expr → Wording
words_pass_or_none None a w = true
words_pass_or_none (Some e) a w = words_pass e a w

-- a target and its index
abbrev pub target_words : WordTest → WordTest → Target → Bool
target_words a w t = w t.name.text && words_pass_or_none t.index a w

-- the values and the condition of an alternative
abbrev pub alternative_words : WordTest → WordTest → Alternative → Bool
alternative_words a w x =
    list_all (λ e. words_pass e a w) (x.0.first ∷ x.0.rest) && words_pass_or_none x.1 a w

abbrev pub component_words : Component-F Wording Wording → Wording
component_words (Component-F.Set at first rest alts) a w = list_all (target_words a w) (first ∷ rest)
    && list_all (alternative_words a w) (alternatives alts.values alts.condition)
component_words (Component-F.Quantified at name range of) a w = of (or_word a name.text) w

abbrev pub assign_words : Assign-F Wording Wording → Wording
assign_words x a w = x.first a w && list_all (λ m. m a w) x.rest

-- whether all words of an assignment pass
abbrev pub assignment_passes : Assign → Wording
assignment_passes = fold-Assign Wording Wording component_words assign_words

-- what a core names

-- the slots of a variable pass a test
abbrev pub SlotsPass : (ℕ → Bool) → Variable → Option (ℤ × ℤ) → Type 0
SlotsPass slots v None = slots v.first ≡ true
SlotsPass slots v (Some r) = (k : ℕ) → k < range_size r → slots (v.first + k) ≡ true

-- whether a core names only slots and only parameters that pass these tests
abbrev pub core_names_only : (ℕ → Bool) → (ℕ → Bool) → Core → Bool
core_names_only slots params (Core.Number t known) = term_names_only slots params t
core_names_only slots params (Core.Truth f known) = form_names_only slots params f

-- what words that pass stand for names only such slots and parameters
pub record SeesOnly (slots params : ℕ → Bool) (alone whole : WordTest) (s : Scope) : Type 0 where
  pub words : (word : List ℕ) → alone word ≡ true → core_names_only slots params (word_formed s word).core ≡ true
  pub variables : (word : List ℕ) (v : Variable) → whole word ≡ true → variable_named word s.variables ≡ Some v →
      SlotsPass slots v v.indices

-- a write names only such slots and parameters, and goes to such a slot
pub record WriteNames (slots params : ℕ → Bool) (w : CWrite) : Type 0 where
  pub target : slots w.slot ≡ true
  pub condition : form_names_only slots params w.when ≡ true
  pub value : term_names_only slots params w.value ≡ true

pub record EffectNames (slots params : ℕ → Bool) (e : Effect) : Type 0 where
  pub outside : All (λ f. form_names_only slots params f ≡ true) e.outside
  pub writes : All (WriteNames slots params) e.writes
