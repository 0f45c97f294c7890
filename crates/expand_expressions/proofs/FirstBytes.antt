-- The first byte of an expression, as it is read and as it is formed.
use Rattle.std.proofs.Common.{◌≡◌, None, Some, refl}
use Rattle.unity_syntax.specs.declared.expression.Expr.{Expr}
use Rattle.unity_syntax.specs.declared.expression.Expr.TheOpen.{Expr-F}
use Rattle.unity_syntax.specs.declared.expression.Expr.TheFolds.{map-Expr}
use Rattle.unity_syntax.specs.TwoFolds.{Related}
use Rattle.unity_syntax.proofs.ExpressionFolds.{two_expressions}
use Rattle.names_rules.specs.Scope.{Scope}
use Rattle.names_rules.specs.Reading.{ReadingAt, read, read_layer}
use Rattle.expand_rules.specs.Forming.{Forming, form_layer, first_byte}

-- a reading and a form that begin at one byte
abbrev Together : ReadingAt → Forming → Type 0
Together reading forming = (s : Scope) → (reading s).at ≡ forming.at

layers_together : (y : Expr-F (Related Together)) →
    Together (read_layer (map-Expr (Related Together) ReadingAt (λ r. r.0) y))
    (form_layer (map-Expr (Related Together) Forming (λ r. r.1) y))
layers_together (Expr-F.Implies at l r) s = refl
layers_together (Expr-F.And at x xs) s = refl
layers_together (Expr-F.Or at x xs) s = refl
layers_together (Expr-F.Not at x) s = refl
layers_together (Expr-F.Compare at l relation r) s = refl
layers_together (Expr-F.Sum at minus x xs) s = refl
layers_together (Expr-F.Product at x xs) s = refl
layers_together (Expr-F.Number at number) s = refl
layers_together (Expr-F.True at) s = refl
layers_together (Expr-F.False at) s = refl
layers_together (Expr-F.Word at name None) s = refl
layers_together (Expr-F.Word at name (Some x)) s = refl
layers_together (Expr-F.Brackets at x) s = refl
layers_together (Expr-F.Quantified at which name range x) s = refl

pub read_first : (e : Expr) (s : Scope) → (read e s).at ≡ first_byte e
read_first e = two_expressions Together read_layer form_layer layers_together e
