-- Values in a small program, worked out by hand.
use Rattle.std.specs.Prelude.{◌≡◌, ℤ, pos, [], ◌∷◌, map, true, false}
use Rattle.case_tables.specs.declared.word_table.Word.{Word}
use Rattle.unity_syntax.specs.declared.expression.Expr.{Expr}
use Rattle.unity_syntax.specs.declared.program.Program.{Program}
use Rattle.meaning_states.specs.State.{State}
use Rattle.meaning_documents.specs.Value.{value}
use Rattle.meaning_documents.specs.Setting.{Setting, setting_of, slot_ranges, seen}
use Rattle.examples_definitions.specs.SmallTrees.{word, element, number, sum_of, difference, minus, equal, less, range}
use Rattle.examples_definitions.specs.SmallTrees.{range_from, over, variable, truth_variable, array, truth_array}
use Rattle.examples_definitions.specs.SmallTrees.{enumeration, always, target, one, plainly, set, statement, lone}
use Rattle.examples_definitions.specs.SmallTrees.{program}
use Rattle.examples_definitions.specs.SmallTrees.{free_program}

-- program Lamp
-- declare
--   x : 0..3
--   a : array 1..2 of 0..9
--   light : {red, amber, green}
--   done : boolean
-- always
--   double = x + x
--   fourfold = double + double
-- assign
--   stay: x := x
-- end
abbrev pub lamp : Program
lamp = program "Lamp" (variable "x" 0 3 ∷ array "a" (range 1 2) 0 9 ∷ enumeration "light" "red" "amber" "green" ∷
    truth_variable "done" ∷ [])
    (always "double" (sum_of (word "x") (word "x")) ∷ always "fourfold" (sum_of (word "double") (word "double")) ∷ [])
    (lone (statement "stay" (set (target "x") (plainly (one (word "x"))))))

-- program Again declares x once more, with the same type, and y
abbrev pub again : Program
again = program "Again" (variable "x" 0 3 ∷ variable "y" 4 5 ∷ []) []
    (lone (statement "rest" (set (target "y") (plainly (one (word "y"))))))

-- what both fix
abbrev pub fixed_by_both : Setting
fixed_by_both = setting_of (lamp ∷ again ∷ [])

-- x = 2, a[1] = 7, a[2] = 9, light = amber, done = true, y = 4
abbrev pub shining : State
shining = pos 2 ∷ pos 7 ∷ pos 9 ∷ pos 1 ∷ pos 1 ∷ pos 4 ∷ []

abbrev pub value_there : Expr → ℤ
value_there e = value e (seen fixed_by_both [] shining)

-- slots are numbered in the order of first declaration; x, declared again, is the same variable
abbrev pub SlotsInOrder : Type 0
SlotsInOrder = map (λ v. v.first) fixed_by_both.variables ≡ 0 ∷ 1 ∷ 3 ∷ 4 ∷ 5 ∷ []

-- each slot has its variable's range
abbrev pub RangesOfSlots : Type 0
RangesOfSlots = slot_ranges fixed_by_both.variables ≡
    (pos 0, pos 3) ∷ (pos 0, pos 9) ∷ (pos 0, pos 9) ∷ (pos 0, pos 2) ∷ (pos 0, pos 1) ∷ (pos 4, pos 5) ∷ []

-- of these variables `done` alone has truths
abbrev pub TruthsOfLamp : Type 0
TruthsOfLamp = map (λ v. v.is_truth) fixed_by_both.variables ≡ false ∷ false ∷ false ∷ true ∷ false ∷ []

-- program Types
-- declare
--   seen : array 1..2 of boolean
--   bit : 0..1
-- assign
--   stay: bit := bit
-- end
abbrev pub types : Program
types = free_program "Types" (truth_array "seen" (range 1 2) ∷ variable "bit" 0 1 ∷ [])
    (lone (statement "stay" (set (target "bit") (plainly (one (word "bit"))))))

-- an array of `boolean` has truths, and `0..1` has none
abbrev pub TruthsByType : Type 0
TruthsByType = map (λ v. v.is_truth) (setting_of (types ∷ [])).variables ≡ true ∷ false ∷ []

-- what a slot is: its number, its range, and whether it has truths
pub record SlotExamples : Type 0 where
  pub slots : SlotsInOrder
  pub slot_ranges : RangesOfSlots
  pub truths_of_lamp : TruthsOfLamp
  pub truths_by_type : TruthsByType

-- a variable has its slot's number
abbrev pub VariableIsRead : Type 0
VariableIsRead = value_there (word "y") ≡ pos 4

-- an enumeration word is its place: `green` is 2
abbrev pub WordIsItsPlace : Type 0
WordIsItsPlace = value_there (word "green") ≡ pos 2

-- `light = amber`
abbrev pub WordsCompare : Type 0
WordsCompare = value_there (equal (word "light") (word "amber")) ≡ pos 1

-- an always name over another: `fourfold` is 8
abbrev pub AlwaysOverAlways : Type 0
AlwaysOverAlways = value_there (word "fourfold") ≡ pos 8

-- what a name stands for: a variable, an enumeration word, or an always name
pub record NameExamples : Type 0 where
  pub variable : VariableIsRead
  pub word : WordIsItsPlace
  pub words : WordsCompare
  pub always : AlwaysOverAlways

-- a bound name hides no variable: `(sum i : 1..2 :: x)` is 2 + 2
abbrev pub BindingHidesNothing : Type 0
BindingHidesNothing = value_there (over Word.Sum "i" (range 1 2) (word "x")) ≡ pos 4

-- a bound name changes no always name: `(sum x : 0..0 :: double)` is still 4
abbrev pub BindingChangesNoAlways : Type 0
BindingChangesNoAlways = value_there (over Word.Sum "x" (range 0 0) (word "double")) ≡ pos 4

-- a bound name is itself inside, whatever it means outside: `(sum x : 3..3 :: x)` is 3
abbrev pub BindingIsItself : Type 0
BindingIsItself = value_there (over Word.Sum "x" (range 3 3) (word "x")) ≡ pos 3

-- what a bound name means inside its quantifier, and what it leaves as it is
pub record BoundNameExamples : Type 0 where
  pub hides_nothing : BindingHidesNothing
  pub changes_no_always : BindingChangesNoAlways
  pub binding_is_itself : BindingIsItself

-- `a[x]` is a[2]
abbrev pub ElementIsRead : Type 0
ElementIsRead = value_there (element "a" (word "x")) ≡ pos 9

-- `a[x + 1]` and `a[0]` lie outside, and are 0
abbrev pub ElementAbove : Type 0
ElementAbove = value_there (element "a" (sum_of (word "x") (number 1))) ≡ pos 0

abbrev pub ElementBelow : Type 0
ElementBelow = value_there (element "a" (number 0)) ≡ pos 0

-- elements of an array, inside and outside
pub record ElementExamples : Type 0 where
  pub element : ElementIsRead
  pub above : ElementAbove
  pub below : ElementBelow

-- over an empty range `all` is true, `any` false and `sum` 0
abbrev pub AllOfNone : Type 0
AllOfNone = value_there (over Word.All "i" (range 1 0) (Expr.False 0)) ≡ pos 1

abbrev pub AnyOfNone : Type 0
AnyOfNone = value_there (over Word.Any "i" (range 1 0) (Expr.True 0)) ≡ pos 0

abbrev pub SumOfNone : Type 0
SumOfNone = value_there (over Word.Sum "i" (range 1 0) (number 3)) ≡ pos 0

-- `(sum i : 1..2 :: a[i])` is 7 + 9
abbrev pub SumOfElements : Type 0
SumOfElements = value_there (over Word.Sum "i" (range 1 2) (element "a" (word "i"))) ≡ pos 16

-- `(all i : 1..2 :: a[i] < 9)` fails at 2, `(any i : 1..2 :: a[i] < 9)` holds at 1
abbrev pub AllFailsAtOne : Type 0
AllFailsAtOne = value_there (over Word.All "i" (range 1 2) (less (element "a" (word "i")) (number 9))) ≡ pos 0

abbrev pub AnyHoldsAtOne : Type 0
AnyHoldsAtOne = value_there (over Word.Any "i" (range 1 2) (less (element "a" (word "i")) (number 9))) ≡ pos 1

-- the inner range begins at the outer name: `(sum i : 1..3 :: (sum j : i..3 :: 1))` is 3 + 2 + 1
abbrev pub InnerRange : Type 0
InnerRange = value_there (over Word.Sum "i" (range 1 3) (over Word.Sum "j" (range_from "i" 3) (number 1))) ≡ pos 6

-- what a quantifier gives
pub record QuantifierExamples : Type 0 where
  pub all_of_none : AllOfNone
  pub any_of_none : AnyOfNone
  pub sum_of_none : SumOfNone
  pub elements : SumOfElements
  pub all_fails : AllFailsAtOne
  pub any_holds : AnyHoldsAtOne
  pub inner_range : InnerRange

-- `-x - y + 1` is -5: the sign stands before the first part alone
abbrev pub SumFromLeft : Type 0
SumFromLeft = value_there (sum_of (difference (minus (word "x")) (word "y")) (number 1)) ≡
    value_there (minus (number 5))
