-- Cores weigh no more than is counted of them before folding, whatever slots and parameters weigh up to their ranges.
use Rattle.std.specs.Prelude.{◌≡◌, ℕ, ◌+◌, ◌≤◌, ◌<◌, max, ℤ, List, Option, Some, None, All}
use Rattle.std.specs.Map.{lookup}
use Rattle.std.specs.Str.{bytes_eq}
use Rattle.unity_syntax.specs.declared.expression.Expr.{Expr}
use Rattle.unity_syntax.specs.declared.statement.Assign.{Assign}
use Rattle.meaning_documents.specs.Names.{Variable}
use Rattle.meaning_executions.specs.Counting.{range_size}
use Rattle.meaning_documents.specs.Names.{variable_named}
use Rattle.core_terms.specs.declared.trees.CTerm.{CTerm}
use Rattle.core_terms.specs.declared.trees.CForm.{CForm}
use Rattle.core_terms.specs.declared.programs.CWrite.{CWrite}
use Rattle.core_terms.specs.Weights.{term_weights, form_weight}
use Rattle.expand_rules.specs.declared.cores.Core.{Core}
use Rattle.expand_rules.specs.declared.cores.Bound.{Bound}
use Rattle.expand_rules.specs.declared.cores.Measure.{Measure}
use Rattle.expand_rules.specs.declared.cores.Formed.{Formed}
use Rattle.expand_rules.specs.declared.effects.Effect.{Effect}
use Rattle.expand_rules.specs.Measures.{ends_weight}
use Rattle.expand_rules.specs.Forming.{Scope, formed}
use Rattle.expand_rules.specs.Assigning.{effect_of}

-- a term and its parts weigh at most what is counted
abbrev pub TermWithin : (ℕ → ℕ) → (ℕ → ℕ) → CTerm → Measure → Type 0
TermWithin slots params t m = ((term_weights slots params t).own ≤ m.own)
    × ((term_weights slots params t).most ≤ m.most)

abbrev pub FormWithin : (ℕ → ℕ) → (ℕ → ℕ) → CForm → Measure → Type 0
FormWithin slots params f m = form_weight slots params f ≤ m.most

abbrev pub CoreWithin : (ℕ → ℕ) → (ℕ → ℕ) → Core → Measure → Type 0
CoreWithin slots params (Core.Number t known) m = TermWithin slots params t m
CoreWithin slots params (Core.Truth f known) m = FormWithin slots params f m

-- the slots of a variable weigh at most what its range does
abbrev pub SlotsWithin : (ℕ → ℕ) → Variable → Option (ℤ × ℤ) → Type 0
SlotsWithin slots v None = slots v.first ≤ ends_weight v.range
SlotsWithin slots v (Some r) = (k : ℕ) → k < range_size r → slots (v.first + k) ≤ ends_weight v.range

-- so do the slots and the parameters of a scope, and what always names have become
pub record ScopeWithin (slots params : ℕ → ℕ) (s : Scope) : Type 0 where
  pub variables : (word : List ℕ) (v : Variable) → variable_named word s.variables ≡ Some v → SlotsWithin slots v
      v.indices
  pub bound : (word : List ℕ) (n weight : ℕ) → lookup (bytes_eq word) s.bound ≡ Some (Bound.Param n weight) →
      params n ≤ max 1 weight
  pub always : (word : List ℕ) (a : Formed) → lookup (bytes_eq word) s.always ≡ Some a →
      CoreWithin slots params a.core a.measure

-- then so does what an expression becomes,
abbrev pub ExpressionsWithin : Type 0
ExpressionsWithin = (slots params : ℕ → ℕ) (e : Expr) (s : Scope) → ScopeWithin slots params s →
    CoreWithin slots params (formed e s).core (formed e s).measure

abbrev pub WriteWithin : (ℕ → ℕ) → (ℕ → ℕ) → ℕ → CWrite → Type 0
WriteWithin slots params most w =
    (form_weight slots params w.when ≤ most) × ((term_weights slots params w.value).most ≤ most)

-- and what an assignment becomes
pub record EffectWithin (slots params : ℕ → ℕ) (e : Effect) : Type 0 where
  pub outside : All (λ f. form_weight slots params f ≤ e.count.most) e.outside
  pub writes : All (WriteWithin slots params e.count.most) e.writes

abbrev pub AssignmentsWithin : Type 0
AssignmentsWithin = (slots params : ℕ → ℕ) (a : Assign) (s : Scope) → ScopeWithin slots params s →
    EffectWithin slots params (effect_of a s)
