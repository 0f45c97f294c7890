-- Each kind of expression in a small program, worked out by hand.
use Rattle.std.specs.Prelude.{◌≡◌, ℤ, pos, neg_ℤ, List, [], ◌∷◌, map}
use Rattle.case_tables.specs.declared.symbol_table.Symbol.{Symbol}
use Rattle.case_tables.specs.declared.symbol_table.Symbol.TheVariants.{Below as below}
use Rattle.case_tables.specs.declared.word_table.Word.{Word}
use Rattle.unity_syntax.specs.declared.expression.Operator.{Operator}
use Rattle.unity_syntax.specs.declared.expression.Expr
use Rattle.unity_syntax.specs.declared.expression.Expr.{Expr}
use Rattle.meaning_states.specs.State.{State}
use Rattle.meaning_documents.specs.Value.{value}
use Rattle.meaning_documents.specs.Setting.{Setting, setting_of, seen}
use Rattle.examples_definitions.specs.SmallTrees.{word, element, number, sum_of, minus, equal, compare, and_of, or_of}
use Rattle.examples_definitions.specs.SmallTrees.{range, range_below, range_beside, over, variable, truth_variable}
use Rattle.examples_definitions.specs.SmallTrees.{array, operated, bracketed}
use Rattle.examples_definitions.specs.SmallTrees.{target, one, plainly, set, statement, lone, free_program}
use Rattle.examples_definitions.specs.ValueExamples.{SumFromLeft}

-- program Scale
-- declare
--   x : 0..9
--   y : 0..9
--   done : boolean
--   b : array -1..1 of 0..9
-- assign
--   stay: x := x
-- end
abbrev pub scale : Setting
scale = setting_of (free_program "Scale" (variable "x" 0 9 ∷ variable "y" 0 9 ∷ truth_variable "done" ∷
    array "b" (range_below 1 1) 0 9 ∷ [])
    (lone (statement "stay" (set (target "x") (plainly (one (word "x")))))) ∷ [])

-- x = 2, y = 4, done = true, b[-1] = 5, b[0] = 6, b[1] = 7
abbrev pub weighed : State
weighed = pos 2 ∷ pos 4 ∷ pos 1 ∷ pos 5 ∷ pos 6 ∷ pos 7 ∷ []

-- the values of expressions there
abbrev pub values : List Expr → List ℤ
values es = map (λ e. value e (seen scale [] weighed)) es

-- a relation between x and y, between x and 2, and between y and x
abbrev pub relations : Symbol → List Expr
relations r = compare (word "x") r (word "y") ∷ compare (word "x") r (number 2) ∷ compare (word "y") r (word "x") ∷ []

abbrev pub Equals : Type 0
Equals = values (relations Symbol.Equal) ≡ pos 0 ∷ pos 1 ∷ pos 0 ∷ []

abbrev pub Differs : Type 0
Differs = values (relations Symbol.NotEqual) ≡ pos 1 ∷ pos 0 ∷ pos 1 ∷ []

abbrev pub IsBelow : Type 0
IsBelow = values (relations below) ≡ pos 1 ∷ pos 0 ∷ pos 0 ∷ []

abbrev pub IsAtMost : Type 0
IsAtMost = values (relations Symbol.AtMost) ≡ pos 1 ∷ pos 1 ∷ pos 0 ∷ []

abbrev pub IsAbove : Type 0
IsAbove = values (relations Symbol.Above) ≡ pos 0 ∷ pos 0 ∷ pos 1 ∷ []

abbrev pub IsAtLeast : Type 0
IsAtLeast = values (relations Symbol.AtLeast) ≡ pos 0 ∷ pos 1 ∷ pos 1 ∷ []

-- truths are compared too: `done = (x = 2)`
abbrev pub TruthsCompare : Type 0
TruthsCompare = values (equal (word "done") (Expr.Brackets 0 (equal (word "x") (number 2))) ∷ []) ≡ pos 1 ∷ []

-- the six relations between numbers, and `=` between truths
pub record ComparisonExamples : Type 0 where
  pub equals : Equals
  pub differs : Differs
  pub is_below : IsBelow
  pub is_at_most : IsAtMost
  pub is_above : IsAbove
  pub is_at_least : IsAtLeast
  pub truths : TruthsCompare

-- `true`, `false`, `not done` and `not x = 3`
abbrev pub Negations : Type 0
Negations = values (Expr.True 0 ∷ Expr.False 0 ∷ Expr.Not 0 (word "done") ∷
    Expr.Not 0 (equal (word "x") (number 3)) ∷ []) ≡
    pos 1 ∷ pos 0 ∷ pos 0 ∷ pos 1 ∷ []

-- `true => true`, `true => false`, `false => true` and `false => false`
abbrev pub Implications : Type 0
Implications = values (Expr.Implies 0 (Expr.True 0) (Expr.True 0) ∷ Expr.Implies 0 (Expr.True 0) (Expr.False 0) ∷
    Expr.Implies 0 (Expr.False 0) (Expr.True 0) ∷ Expr.Implies 0 (Expr.False 0) (Expr.False 0) ∷ []) ≡
    pos 1 ∷ pos 0 ∷ pos 1 ∷ pos 1 ∷ []

-- `done and x = 2 and y = 4`, and with `y = 5`, and with `not done` in front
abbrev pub Conjunctions : Type 0
Conjunctions = values (and_of (word "done") (equal (word "x") (number 2)) (equal (word "y") (number 4)) ∷
    and_of (word "done") (equal (word "x") (number 2)) (equal (word "y") (number 5)) ∷
    and_of (Expr.Not 0 (word "done")) (equal (word "x") (number 2)) (equal (word "y") (number 4)) ∷ []) ≡
    pos 1 ∷ pos 0 ∷ pos 0 ∷ []

-- `not done or x = 3 or y = 5`, and with `y = 4`, and with `done` in front
abbrev pub Disjunctions : Type 0
Disjunctions = values (or_of (Expr.Not 0 (word "done")) (equal (word "x") (number 3)) (equal (word "y") (number 5)) ∷
    or_of (Expr.Not 0 (word "done")) (equal (word "x") (number 3)) (equal (word "y") (number 4)) ∷
    or_of (word "done") (equal (word "x") (number 3)) (equal (word "y") (number 5)) ∷ []) ≡
    pos 0 ∷ pos 1 ∷ pos 1 ∷ []

-- `true` and `false`, `not`, `=>`, `and` and `or`
pub record ConnectiveExamples : Type 0 where
  pub negations : Negations
  pub implications : Implications
  pub conjunctions : Conjunctions
  pub disjunctions : Disjunctions

-- `x * y * 3` and `2 * (x + y)`
abbrev pub Products : Type 0
Products = values
    (Expr.Product 0 (word "x") ((Operator.Times, word "y") ∷ (Operator.Times, number 3) ∷ []) ∷
    operated (number 2) Operator.Times (bracketed (sum_of (word "x") (word "y"))) ∷ []) ≡
    pos 24 ∷ pos 12 ∷ []

-- a product is read from the left: `7 div 2 * x` is 3 * 2, `x * 7 div y` is 14 div 4 and `9 div y mod 2` is 2 mod 2;
-- with brackets `7 div (2 * x)` is 7 div 4, `x * (7 div y)` is 2 * 1 and `9 div (y mod 3)` is 9 div 1
abbrev pub ProductsFromLeft : Type 0
ProductsFromLeft = values
    (Expr.Product 0 (number 7) ((Operator.Div, number 2) ∷ (Operator.Times, word "x") ∷ []) ∷
    Expr.Product 0 (word "x") ((Operator.Times, number 7) ∷ (Operator.Div, word "y") ∷ []) ∷
    Expr.Product 0 (number 9) ((Operator.Div, word "y") ∷ (Operator.Mod, number 2) ∷ []) ∷
    operated (number 7) Operator.Div (bracketed (operated (number 2) Operator.Times (word "x"))) ∷
    operated (word "x") Operator.Times (bracketed (operated (number 7) Operator.Div (word "y"))) ∷
    operated (number 9) Operator.Div (bracketed (operated (word "y") Operator.Mod (number 3))) ∷ []) ≡
    pos 6 ∷ pos 3 ∷ pos 0 ∷ pos 1 ∷ pos 2 ∷ pos 9 ∷ []

-- a sign belongs to the sum: `-7 div 2` is the negation of `7 div 2` and `-b[1] mod 3` that of `b[1] mod 3`; in
-- brackets it belongs to the number, `(-7) div 2` and `(-7) mod 3`
abbrev pub SignBeforeDivision : Type 0
SignBeforeDivision = values
    (minus (operated (number 7) Operator.Div (number 2)) ∷
    minus (operated (element "b" (number 1)) Operator.Mod (number 3)) ∷
    operated (bracketed (minus (number 7))) Operator.Div (number 2) ∷
    operated (bracketed (minus (number 7))) Operator.Mod (number 3) ∷ []) ≡
    neg_ℤ (pos 3) ∷ neg_ℤ (pos 1) ∷ neg_ℤ (pos 4) ∷ pos 2 ∷ []

-- sums, products, divisions and signs
pub record ArithmeticExamples : Type 0 where
  pub sum_from_left : SumFromLeft
  pub products : Products
  pub from_left : ProductsFromLeft
  pub sign : SignBeforeDivision

-- `b[-1]`, `b[0]` and `b[1]`, and outside `b[-2]` and `b[2]`
abbrev pub IndicesBelowNought : Type 0
IndicesBelowNought = values (element "b" (minus (number 1)) ∷ element "b" (number 0) ∷ element "b" (number 1) ∷
    element "b" (minus (number 2)) ∷ element "b" (number 2) ∷ []) ≡
    pos 5 ∷ pos 6 ∷ pos 7 ∷ pos 0 ∷ pos 0 ∷ []

-- `(sum i : -2..1 :: i)` is -2
abbrev pub RangeBelowNought : Type 0
RangeBelowNought = values (over Word.Sum "i" (range_below 2 1) (word "i") ∷ []) ≡ neg_ℤ (pos 2) ∷ []

-- `(sum i : 1..2 :: (sum j : i + 1..3 :: j))` is 2 + 3 + 3, and with `i - 1..1` it is 0 + 1 + 1
abbrev pub EndsWithOffset : Type 0
EndsWithOffset = values (over Word.Sum "i" (range 1 2)
    (over Word.Sum "j" (range_beside "i" Symbol.Plus 1 3) (word "j")) ∷
    over Word.Sum "i" (range 1 2) (over Word.Sum "j" (range_beside "i" Symbol.Minus 1 1) (word "j")) ∷ []) ≡
    pos 8 ∷ pos 2 ∷ []

-- indices and ranges below nought, and ends beside a bound name
pub record RangeExamples : Type 0 where
  pub indices : IndicesBelowNought
  pub below_nought : RangeBelowNought
  pub offsets : EndsWithOffset
