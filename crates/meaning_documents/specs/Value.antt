-- The value of an expression, which is a whole number: false is 0 and true is 1.
use Rattle.std.specs.Prelude.{ℕ, ℤ, pos, neg_ℤ, ◌+ℤ◌, ◌-ℤ◌, ◌*ℤ◌, List, [], ◌∷◌, map, Bool, false, cond, not}
use Rattle.std.specs.Prelude.{◌&&◌, ◌||◌, Option, Some, None}
use Rattle.std.specs.Int.RustNames.{int_lt, int_le}
use Rattle.std.specs.List.{list_all, list_any}
use Rattle.unity_syntax.specs.from_case_tables.declared.symbol_table.Symbol.{Symbol}
use Rattle.unity_syntax.specs.from_case_tables.declared.word_table.Word.{Word}
use Rattle.unity_syntax.specs.declared.name.End.{End}
use Rattle.unity_syntax.specs.declared.name.Range.{Range}
use Rattle.unity_syntax.specs.declared.expression.Operator.{Operator}
use Rattle.unity_syntax.specs.declared.expression.Expr.{Expr, fold-Expr}
use Rattle.unity_syntax.specs.declared.expression.Expr.TheOpen.{Expr-F}
use Rattle.meaning_executions.specs.from_meaning_states.State.{int_eq}
use Rattle.meaning_executions.specs.from_meaning_states.Division.{floored, rest_of}
use Rattle.meaning_documents.specs.Names.{Bindings, Sight, with_name, number_of, or_zero, word_value}
use Rattle.meaning_executions.specs.Counting.{range_size, count_up}
use Rattle.meaning_documents.specs.Names.{element_value}

-- the value of a truth
abbrev pub truth : Bool → ℤ
truth b = cond b (pos 1) (pos 0)

-- whether a value is that of a truth
abbrev pub holds : ℤ → Bool
holds z = int_le (pos 1) z

-- a number, or its negation where `-` stands before it
abbrev pub signed : Bool → ℤ → ℤ
signed minus z = cond minus (neg_ℤ z) z

-- `a + b` or `a - b`; no symbol but these two stands between the parts of a sum, so `_` is `+`
abbrev pub plus : ℤ → Symbol → ℤ → ℤ
plus a Symbol.Minus b = a -ℤ b
plus a _ b = a +ℤ b

-- a number, with another added to it or taken from it
abbrev pub with_offset : ℤ → Option (Symbol × ℕ) → ℤ
with_offset z None = z
with_offset z (Some o) = plus z o.0 (pos o.1)

-- an end of a range: a constant, or a bound name with an offset
abbrev pub end_value : Bindings → End → ℤ
end_value bindings (End.Number at minus number) = signed minus (pos number)
end_value bindings (End.Word at name offset) = with_offset (or_zero (number_of name.text bindings)) offset

-- both ends of a range
abbrev pub range_ends : Bindings → Range → ℤ × ℤ
range_ends bindings r = (end_value bindings r.low, end_value bindings r.high)

-- the numbers of a range in turn; none where the low end is above the high end
abbrev pub range_values : Bindings → Range → List ℤ
range_values bindings r = count_up (end_value bindings r.low) (range_size (range_ends bindings r))

-- whether two numbers stand in a relation; `_` is each symbol that is none
abbrev pub related : Symbol → ℤ → ℤ → Bool
related Symbol.Equal a b = int_eq a b
related Symbol.NotEqual a b = not (int_eq a b)
related Symbol.Below a b = int_lt a b
related Symbol.AtMost a b = int_le a b
related Symbol.Above a b = int_lt b a
related Symbol.AtLeast a b = int_le b a
related _ a b = false

-- the sum of numbers
abbrev pub total : List ℤ → ℤ
total [] = pos 0
total (z ∷ rest) = z +ℤ total rest

-- what a quantifier makes of its instances: `all`, `any` or `sum`; of none it makes true, false or 0. No other word
-- stands there, so `_` is `sum`
abbrev pub gathered : Word → List ℤ → ℤ
gathered Word.All zs = truth (list_all holds zs)
gathered Word.Any zs = truth (list_any holds zs)
gathered _ zs = total zs

-- what an expression means: a number at each place where it may be read
abbrev pub Meaning : Type 0
Meaning = Sight → ℤ

-- a number with the parts of a sum added to it or taken from it, from left to right
abbrev pub added : Sight → ℤ → List (Symbol × Meaning) → ℤ
added s z [] = z
added s z (part ∷ rest) = added s (plus z part.0 (part.1 s)) rest

-- `a * b`, `a div b` or `a mod b`
abbrev pub operated : ℤ → Operator → ℤ → ℤ
operated a Operator.Times b = a *ℤ b
operated a Operator.Div b = floored a b
operated a Operator.Mod b = rest_of a b

-- a number with the operators of a product, each with its right operand, from left to right
abbrev pub multiplied : Sight → ℤ → List (Operator × Meaning) → ℤ
multiplied s z [] = z
multiplied s z (factor ∷ rest) = multiplied s (operated z factor.0 (factor.1 s)) rest

-- a word, or an array's element at the value of its index
abbrev pub indexed_value : Sight → List ℕ → Option Meaning → ℤ
indexed_value s name None = word_value s name
indexed_value s name (Some index) = element_value s name (index s)

-- the value of each kind of expression, from the meanings of its parts
abbrev pub value_layer : Expr-F Meaning → Meaning
value_layer (Expr-F.Implies at left right) s = truth (not (holds (left s)) || holds (right s))
value_layer (Expr-F.And at first rest) s = truth (holds (first s) && list_all (λ m. holds (m s)) rest)
value_layer (Expr-F.Or at first rest) s = truth (holds (first s) || list_any (λ m. holds (m s)) rest)
value_layer (Expr-F.Not at of) s = truth (not (holds (of s)))
value_layer (Expr-F.Compare at left relation right) s = truth (related relation (left s) (right s))
value_layer (Expr-F.Sum at minus first rest) s = added s (signed minus (first s)) rest
value_layer (Expr-F.Product at first rest) s = multiplied s (first s) rest
value_layer (Expr-F.Number at number) s = pos number
value_layer (Expr-F.True at) s = pos 1
value_layer (Expr-F.False at) s = pos 0
value_layer (Expr-F.Word at name index) s = indexed_value s name.text index
value_layer (Expr-F.Brackets at of) s = of s
value_layer (Expr-F.Quantified at which name range of) s =
    gathered which (map (λ z. of (with_name s name.text z)) (range_values s.bindings range))

-- the value of an expression
abbrev pub value : Expr → Meaning
value = fold-Expr Meaning value_layer
