-- What the names in an expression decide: whether it is constant, and whether a linear term can say it exactly.
use Rattle.std.specs.Prelude.{List, [], ◌∷◌, map, Bool, true, false, not, ◌&&◌, Option, Some, None, option_map}
use Rattle.std.specs.Map.{lookup}
use Rattle.std.specs.Str.{bytes_eq}
use Rattle.unity_syntax.specs.declared.name.End.{End}
use Rattle.unity_syntax.specs.declared.name.Range.{Range}
use Rattle.unity_syntax.specs.declared.expression.Operator.{Operator}
use Rattle.unity_syntax.specs.declared.expression.Expr.{Expr, fold-Expr}
use Rattle.unity_syntax.specs.declared.expression.Expr.TheOpen.{Expr-F}
use Rattle.names_rules.specs.declared.named.Meaning.{Meaning}
use Rattle.names_rules.specs.declared.named.Named.{Named}
use Rattle.names_rules.specs.Scope.{Scope, Bounds, found, is_param, with_bound}
use Rattle.names_rules.specs.Reading.{may_join}

-- whether an expression is constant: it names no variable and no parameter; and whether it is exact: each `*` has a
-- constant on one of its two sides, each `div` and `mod` on the right one, and each word in a range end is a bound name
pub record Attributes : Type 0 where
  pub constant : Bool
  pub exact : Bool

-- those of an expression without names
abbrev pub constantly : Attributes
constantly = record { constant = true; exact = true }

-- those of two parts together
abbrev pub both : Attributes → Attributes → Attributes
both a b = record { constant = a.constant && b.constant; exact = a.exact && b.exact }

-- those of parts, after others
abbrev pub all : Attributes → List Attributes → Attributes
all a [] = a
all a (b ∷ bs) = all (both a b) bs

-- those of the two sides of an operator
abbrev pub operated : Operator → Attributes → Attributes → Attributes
operated operator a b = record {
  constant = a.constant && b.constant;
  exact = may_join operator a.constant b.constant && (a.exact && b.exact);
}

-- those of a product, from the left
abbrev pub factors : Attributes → List (Operator × Attributes) → Attributes
factors a [] = a
factors a (b ∷ bs) = factors (operated b.0 a b.1) bs

-- whether a word with a meaning is constant
abbrev pub is_constant_word : Option Named → Bool
is_constant_word None = false
is_constant_word (Some n) = n.constant

-- those of a word; with an index it is an array, which is a variable
abbrev pub word_attributes : Option Named → Option Attributes → Attributes
word_attributes n None = record { constant = is_constant_word n; exact = true }
word_attributes n (Some index) = record { constant = false; exact = index.exact }

-- whether a word in a range end is a name that stands for a number there
abbrev pub means_number : Option Meaning → Bool
means_number None = false
means_number (Some meaning) = not (is_param meaning)

abbrev pub is_fixed_end : Bounds → End → Bool
is_fixed_end bounds (End.Number at minus number) = true
is_fixed_end bounds (End.Word at name offset) = means_number (lookup (bytes_eq name.text) bounds)

-- whether the words in the ends of a range are bound names
abbrev pub has_fixed_ends : Bounds → Range → Bool
has_fixed_ends bounds r = is_fixed_end bounds r.low && is_fixed_end bounds r.high

-- exact only where this is so
abbrev pub exactly : Bool → Attributes → Attributes
exactly b a = record a { exact = b && a.exact }

-- the attributes of an expression, at each place where it may stand
abbrev pub Attributed : Type 0
Attributed = Scope → Attributes

-- each kind of expression, from its parts
abbrev pub attribute_layer : Expr-F Attributed → Attributed
attribute_layer (Expr-F.Implies at left right) s = both (left s) (right s)
attribute_layer (Expr-F.And at first rest) s = all (first s) (map (λ m. m s) rest)
attribute_layer (Expr-F.Or at first rest) s = all (first s) (map (λ m. m s) rest)
attribute_layer (Expr-F.Not at of) s = of s
attribute_layer (Expr-F.Compare at left relation right) s = both (left s) (right s)
attribute_layer (Expr-F.Sum at minus first rest) s = all (first s) (map (λ part. part.1 s) rest)
attribute_layer (Expr-F.Product at first rest) s = factors (first s) (map (λ m. (m.0, m.1 s)) rest)
attribute_layer (Expr-F.Number at number) s = constantly
attribute_layer (Expr-F.True at) s = constantly
attribute_layer (Expr-F.False at) s = constantly
attribute_layer (Expr-F.Word at name index) s =
    word_attributes (found s name.text) (option_map (λ m. m s) index)
attribute_layer (Expr-F.Brackets at of) s = of s
attribute_layer (Expr-F.Quantified at which name range of) s =
    exactly (has_fixed_ends s.bounds range) (of (with_bound s name.text (Meaning.Bound name.at)))

abbrev pub attributes : Expr → Attributed
attributes = fold-Expr Attributed attribute_layer

-- whether each operator of a product has constants where it needs them, and each word in a range end is a bound name
abbrev pub exact_in : Expr → Scope → Bool
exact_in e s = (attributes e s).exact

-- whether an expression names no variable and no parameter, also not through always names
abbrev pub names_nothing : Expr → Scope → Bool
names_nothing e s = (attributes e s).constant
