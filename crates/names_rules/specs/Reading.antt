-- What an expression is where it stands: its type, whether it is constant, what its words mean, and its first fault.
use Rattle.std.specs.Prelude.{ℕ, ℤ, pos, neg_ℤ, List, [], ◌∷◌, ◌++◌, map, Option, Some, None, Bool, true, false, cond}
use Rattle.std.specs.Prelude.{not, ◌&&◌, ◌||◌, nat_le, nat_eq, option_map}
use Rattle.std.specs.Int.RustNames.{int_le}
use Rattle.std.specs.Map.{lookup}
use Rattle.std.specs.Str.{bytes_eq}
use Rattle.std.specs.List.{list_any}
use Rattle.std.specs.Option.{is_some}
use Rattle.unity_syntax.specs.from_case_tables.declared.code_table.Code.{Code}
use Rattle.unity_syntax.specs.from_case_tables.declared.symbol_table.Symbol.{Symbol}
use Rattle.unity_syntax.specs.from_case_tables.declared.word_table.Word.{Word}
use Rattle.unity_syntax.specs.declared.name.Name.{Name}
use Rattle.unity_syntax.specs.declared.name.End.{End}
use Rattle.unity_syntax.specs.declared.name.Range.{Range}
use Rattle.unity_syntax.specs.declared.expression.Operator.{Operator}
use Rattle.unity_syntax.specs.declared.expression.Expr.{Expr, fold-Expr}
use Rattle.unity_syntax.specs.declared.expression.Expr.TheOpen.{Expr-F}
use Rattle.names_rules.specs.declared.named.Meaning.{Meaning}
use Rattle.names_rules.specs.declared.named.Sort.{Sort}
use Rattle.names_rules.specs.declared.named.Named.{Named}
use Rattle.names_rules.specs.Scope.{Scope, Bounds, found, bound_named, is_param, with_bound}

-- a fault: its code, and the byte at which it stands
pub record Fault : Type 0 where
  pub code : Code
  pub at : ℕ

-- what words mean, by the bytes at which they begin, in reading order
abbrev pub Words : Type 0
Words = List (ℕ × Meaning)

-- what a tree is: its first byte, its type, whether it names no variable and no parameter, its first fault, and its
-- words
pub record Reading : Type 0 where
  pub at : ℕ
  pub sort : Sort
  pub constant : Bool
  pub fault : Option Fault
  pub words : Words

-- the first of two faults
abbrev pub earlier : Option Fault → Option Fault → Option Fault
earlier (Some f) g = Some f
earlier None g = g

-- a fault unless this is so
abbrev pub unless : Bool → Code → ℕ → Option Fault
unless true code at = None
unless false code at = Some (record { code = code; at = at })

-- of this type, with no fault and no words
abbrev pub plain : Sort → Reading
plain sort = record { at = 0; sort = sort; constant = true; fault = None; words = [] }

-- nothing but a fault, unless this is so
abbrev pub demanded : Bool → Code → ℕ → Reading
demanded holds code at = record (plain Sort.Number) { fault = unless holds code at }

-- two truth values that are the same
abbrev pub same_bool : Bool → Bool → Bool
same_bool true b = b
same_bool false b = not b

-- one type; an enumeration is known by where it first stands
abbrev pub same_sort : Sort → Sort → Bool
same_sort Sort.Number Sort.Number = true
same_sort Sort.Boolean Sort.Boolean = true
same_sort (Sort.Words at last) (Sort.Words at2 last2) = nat_eq at at2
same_sort _ _ = false

abbrev pub placed : ℕ → Reading → Reading
placed at r = record r { at = at }

abbrev pub typed : Sort → Reading → Reading
typed sort r = record r { sort = sort }

-- an operand of a type: another type is a fault at the operand, after the operand's own
abbrev pub needs : Sort → Reading → Reading
needs sort r = record r { sort = sort; fault = earlier r.fault (unless (same_sort r.sort sort) Code.WrongType r.at) }

-- r is the operand before those of q
abbrev pub then : Reading → Reading → Reading
then r q = record q { constant = r.constant && q.constant; fault = earlier r.fault q.fault; words = r.words ++ q.words }

-- r stands before q, and is no part of its value
abbrev pub beside : Reading → Reading → Reading
beside r q = record q { fault = earlier r.fault q.fault; words = r.words ++ q.words }

-- operands, from left to right
abbrev pub in_order : List Reading → Reading
in_order [] = plain Sort.Number
in_order (r ∷ rest) = then r (in_order rest)

-- an expression of a type, with its operands
abbrev pub joined : Sort → List Reading → Reading
joined sort rs = typed sort (in_order rs)

-- readings that stand one after the other
abbrev pub all_beside : List Reading → Reading
all_beside [] = plain Sort.Number
all_beside (r ∷ rest) = beside r (all_beside rest)

-- a word with a meaning, and what may be wrong there
abbrev pub mark : Named → ℕ → Option Fault → Reading
mark n at fault =
    record { at = at; sort = n.sort; constant = n.constant; fault = fault; words = (at, n.meaning) ∷ [] }

-- a word without a meaning
abbrev pub faulty : Code → ℕ → Reading
faulty code at = demanded false code at

-- why a word means nothing in an expression: its definition is not over, or there is none
abbrev pub missing : Scope → List ℕ → Code
missing s word = cond (list_any (bytes_eq word) s.pending) Code.Circular Code.Unknown

-- a word in an expression; an index follows an array, and nothing else
abbrev pub word_found : Scope → Name → Bool → Option Named → Reading
word_found s name indexed None = faulty (missing s name.text) name.at
word_found s name indexed (Some n) =
    mark n name.at (unless (same_bool (is_some n.indices) indexed) Code.WrongType name.at)

abbrev pub head_word : Scope → Name → Bool → Reading
head_word s name indexed = word_found s name indexed (found s name.text)

abbrev pub word_reading : Scope → Name → Option Reading → Reading
word_reading s name None = head_word s name false
word_reading s name (Some index) =
    typed (head_word s name true).sort (then (head_word s name true) (needs Sort.Number index))

-- the ends of ranges go up to this, on both sides of 0
abbrev pub end_limit : ℕ
end_limit = 1000000000

-- a word in an end of a range: a name that an outer quantifier binds
abbrev pub end_word : Name → Option Meaning → Reading
end_word name None = faulty Code.NotConstant name.at
end_word name (Some meaning) =
    mark (bound_named meaning) name.at (unless (not (is_param meaning)) Code.NotConstant name.at)

abbrev pub end_reading : Bounds → End → Reading
end_reading b (End.Number at minus number) = demanded (nat_le number end_limit) Code.BadRange at
end_reading b (End.Word at name offset) = end_word name (lookup (bytes_eq name.text) b)

-- a range, which may be empty
abbrev pub range_reading : Bounds → Range → Reading
range_reading b r = beside (end_reading b r.low) (end_reading b r.high)

-- a number with its sign
abbrev pub signed : Bool → ℕ → ℤ
signed minus number = cond minus (neg_ℤ (pos number)) (pos number)

-- whether the low end of a range is above its high end, both being numbers
abbrev pub upside_down : End → End → Bool
upside_down (End.Number at minus low) (End.Number at2 minus2 high) =
    not (int_le (signed minus low) (signed minus2 high))
upside_down _ _ = false

-- a range that may not be empty; with a bound name in it that is found out when it is expanded
abbrev pub filled : Bounds → Range → Reading
filled b r = beside (range_reading b r) (demanded (not (upside_down r.low r.high)) Code.BadRange r.at)

-- a name is bound here that has no meaning yet
abbrev pub binding : Scope → Name → Meaning → Reading
binding s name meaning =
    mark (bound_named meaning) name.at (unless (not (is_some (found s name.text))) Code.DeclaredTwice name.at)

-- the type of what a quantifier gathers, and of what it gives
abbrev pub gathers : Word → Sort
gathers Word.Sum = Sort.Number
gathers _ = Sort.Boolean

-- the left side of a comparison: that of an equation has any type
abbrev pub left_side : Symbol → Reading → Reading
left_side Symbol.Equal r = r
left_side Symbol.NotEqual r = r
left_side _ r = needs Sort.Number r

-- whether an operator may stand between sides that are constant or not: `*` needs a constant on one of its two sides,
-- `div` and `mod` on the right one
abbrev pub may_join : Operator → Bool → Bool → Bool
may_join Operator.Times left right = left || right
may_join Operator.Div left right = right
may_join Operator.Mod left right = right

-- whether each operator may stand where it does, its left side being all before it, which is constant or not
abbrev pub is_linear : Bool → List (Operator × Reading) → Bool
is_linear constant [] = true
is_linear constant (f ∷ rest) = may_join f.0 constant f.1.constant && is_linear (constant && f.1.constant) rest

-- right operands, without their operators
abbrev pub right_sides : List (Operator × Reading) → List Reading
right_sides fs = map (λ f. f.1) fs

-- a product: the fault of an operator that may not stand there comes after those of all operands
abbrev pub product : ℕ → Reading → List (Operator × Reading) → Reading
product at first rest = record (joined Sort.Number (first ∷ right_sides rest)) {
  fault = earlier (in_order (first ∷ right_sides rest)).fault
      (unless (is_linear first.constant rest) Code.NotLinear at);
}

-- what an expression is, at each place where it may stand
abbrev pub ReadingAt : Type 0
ReadingAt = Scope → Reading

-- operands that are to have this type
abbrev pub operands : Sort → Scope → List ReadingAt → List Reading
operands sort s ms = map (λ m. needs sort (m s)) ms

-- the further operands of a product, which are to be numbers, each with its operator
abbrev pub factors : Scope → List (Operator × ReadingAt) → List (Operator × Reading)
factors s ms = map (λ m. (m.0, needs Sort.Number (m.1 s))) ms

-- each kind of expression, from its parts
abbrev pub read_layer : Expr-F ReadingAt → ReadingAt
read_layer (Expr-F.Implies at left right) s =
    placed at (joined Sort.Boolean (operands Sort.Boolean s (left ∷ right ∷ [])))
read_layer (Expr-F.And at first rest) s =
    placed at (joined Sort.Boolean (operands Sort.Boolean s (first ∷ rest)))
read_layer (Expr-F.Or at first rest) s =
    placed at (joined Sort.Boolean (operands Sort.Boolean s (first ∷ rest)))
read_layer (Expr-F.Not at of) s = placed at (needs Sort.Boolean (of s))
read_layer (Expr-F.Compare at left relation right) s = placed at (typed Sort.Boolean
    (then (left_side relation (left s)) (needs (left_side relation (left s)).sort (right s))))
read_layer (Expr-F.Sum at minus first rest) s =
    placed at (joined Sort.Number (operands Sort.Number s (first ∷ map (λ part. part.1) rest)))
read_layer (Expr-F.Product at first rest) s =
    placed at (product at (needs Sort.Number (first s)) (factors s rest))
read_layer (Expr-F.Number at number) s = placed at (plain Sort.Number)
read_layer (Expr-F.True at) s = placed at (plain Sort.Boolean)
read_layer (Expr-F.False at) s = placed at (plain Sort.Boolean)
read_layer (Expr-F.Word at name index) s = placed at (word_reading s name (option_map (λ m. m s) index))
read_layer (Expr-F.Brackets at of) s = placed at (of s)
read_layer (Expr-F.Quantified at which name range of) s = placed at
    (beside (beside (binding s name (Meaning.Bound name.at)) (range_reading s.bounds range))
    (needs (gathers which) (of (with_bound s name.text (Meaning.Bound name.at)))))

-- what an expression is
abbrev pub read : Expr → ReadingAt
read = fold-Expr ReadingAt read_layer
