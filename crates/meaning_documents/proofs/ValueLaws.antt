-- The value of each kind of expression, one equation for each.
use Rattle.std.proofs.Common.{◌≡◌, ℕ, pos, List, map, Bool, not, ◌&&◌, ◌||◌, Some, None, sym, ap, ◌∙◌}
use Rattle.std.specs.List.{list_all, list_any}
use Rattle.unity_syntax.specs.from_case_tables.declared.symbol_table.Symbol.{Symbol}
use Rattle.unity_syntax.specs.from_case_tables.declared.word_table.Word.{Word}
use Rattle.unity_syntax.specs.declared.name.Name.{Name}
use Rattle.unity_syntax.specs.declared.name.Range.{Range}
use Rattle.unity_syntax.specs.declared.expression.Operator.{Operator}
use Rattle.unity_syntax.specs.declared.expression.Expr
use Rattle.unity_syntax.specs.declared.expression.Expr.{Expr, roll-Expr, fold-roll-Expr}
use Rattle.unity_syntax.specs.declared.expression.Expr.TheFolds.{map-Expr}
use Rattle.unity_syntax.specs.declared.expression.Expr.TheOpen.{Expr-F}
use Rattle.unity_syntax.specs.declared.expression.Expr.TheVariants.{rolls-Implies, rolls-And, rolls-Or, rolls-Not}
use Rattle.unity_syntax.specs.declared.expression.Expr.TheVariants.{rolls-Compare, rolls-Sum, rolls-Product}
use Rattle.unity_syntax.specs.declared.expression.Expr.TheVariants.{rolls-Number, rolls-True, rolls-False, rolls-Word}
use Rattle.unity_syntax.specs.declared.expression.Expr.TheVariants.{rolls-Brackets, rolls-Quantified}
use Rattle.meaning_documents.specs.Names.{Sight, with_name, word_value, element_value}
use Rattle.meaning_documents.specs.Value.{value, value_layer, Meaning, truth, holds, signed, related, added, multiplied}
use Rattle.meaning_documents.specs.Value.{gathered, range_values}

-- an expression's value is that of its outermost part
unfolds : (d : Expr-F Expr) (e : Expr) → roll-Expr d ≡ e → (s : Sight) →
    value e s ≡ value_layer (map-Expr Expr Meaning value d) s
unfolds d e same s = ap (λ x. value x s) (sym same) ∙ ap (λ m. m s) (fold-roll-Expr Meaning value_layer d)

pub value-Implies : (at : ℕ) (left right : Expr) (s : Sight) →
    value (Expr.Implies at left right) s ≡ truth (not (holds (value left s)) || holds (value right s))
value-Implies at left right s = unfolds _ _ (rolls-Implies at left right) s

pub value-And : (at : ℕ) (first : Expr) (rest : List Expr) (s : Sight) →
    value (Expr.And at first rest) s ≡ truth (holds (value first s) && list_all (λ m. holds (m s)) (map value rest))
value-And at first rest s = unfolds _ _ (rolls-And at first rest) s

pub value-Or : (at : ℕ) (first : Expr) (rest : List Expr) (s : Sight) →
    value (Expr.Or at first rest) s ≡ truth (holds (value first s) || list_any (λ m. holds (m s)) (map value rest))
value-Or at first rest s = unfolds _ _ (rolls-Or at first rest) s

pub value-Not : (at : ℕ) (of : Expr) (s : Sight) → value (Expr.Not at of) s ≡ truth (not (holds (value of s)))
value-Not at of s = unfolds _ _ (rolls-Not at of) s

pub value-Compare : (at : ℕ) (left : Expr) (relation : Symbol) (right : Expr) (s : Sight) →
    value (Expr.Compare at left relation right) s ≡ truth (related relation (value left s) (value right s))
value-Compare at left relation right s = unfolds _ _ (rolls-Compare at left relation right) s

pub value-Sum : (at : ℕ) (minus : Bool) (first : Expr) (rest : List (Symbol × Expr)) (s : Sight) →
    value (Expr.Sum at minus first rest) s ≡
    added s (signed minus (value first s)) (map (λ part. (part.0, value part.1)) rest)
value-Sum at minus first rest s = unfolds _ _ (rolls-Sum at minus first rest) s

pub value-Product : (at : ℕ) (first : Expr) (rest : List (Operator × Expr)) (s : Sight) →
    value (Expr.Product at first rest) s ≡
    multiplied s (value first s) (map (λ factor. (factor.0, value factor.1)) rest)
value-Product at first rest s = unfolds _ _ (rolls-Product at first rest) s

pub value-Number : (at number : ℕ) (s : Sight) → value (Expr.Number at number) s ≡ pos number
value-Number at number s = unfolds _ _ (rolls-Number at number) s

pub value-True : (at : ℕ) (s : Sight) → value (Expr.True at) s ≡ pos 1
value-True at s = unfolds _ _ (rolls-True at) s

pub value-False : (at : ℕ) (s : Sight) → value (Expr.False at) s ≡ pos 0
value-False at s = unfolds _ _ (rolls-False at) s

pub value-Word : (at : ℕ) (name : Name) (s : Sight) → value (Expr.Word at name None) s ≡ word_value s name.text
value-Word at name s = unfolds _ _ (rolls-Word at name None) s

pub value-Element : (at : ℕ) (name : Name) (index : Expr) (s : Sight) →
    value (Expr.Word at name (Some index)) s ≡ element_value s name.text (value index s)
value-Element at name index s = unfolds _ _ (rolls-Word at name (Some index)) s

pub value-Brackets : (at : ℕ) (of : Expr) (s : Sight) → value (Expr.Brackets at of) s ≡ value of s
value-Brackets at of s = unfolds _ _ (rolls-Brackets at of) s

pub value-Quantified : (at : ℕ) (which : Word) (name : Name) (range : Range) (of : Expr) (s : Sight) →
    value (Expr.Quantified at which name range of) s ≡
    gathered which (map (λ z. value of (with_name s name.text z)) (range_values s.bindings range))
value-Quantified at which name range of s = unfolds _ _ (rolls-Quantified at which name range of) s

-- the value of any expression, found by rewriting
pub ruleset value_laws = (
  value-Implies,
  value-And,
  value-Or,
  value-Not,
  value-Compare,
  value-Sum,
  value-Product,
  value-Number,
  value-True,
  value-False,
  value-Word,
  value-Element,
  value-Brackets,
  value-Quantified,
)
