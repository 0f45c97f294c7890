-- Writes, steps and instances of small statements, worked out by hand.
use Rattle.std.specs.Prelude.{◌≡◌, pos, [], ◌∷◌, map, Option, Some, None, codes}
use Rattle.unity_syntax.specs.declared.expression.Expr.{Expr}
use Rattle.unity_syntax.specs.declared.statement.Component.{Component}
use Rattle.unity_syntax.specs.declared.statement.Assign.{Assign}
use Rattle.unity_syntax.specs.declared.statement.Items.{Items}
use Rattle.meaning_states.specs.State.{State}
use Rattle.meaning_states.specs.Step.{step}
use Rattle.meaning_documents.specs.Writes.{writes}
use Rattle.meaning_documents.specs.Instances.{instances, instance_name}
use Rattle.meaning_documents.specs.Setting.{Setting, setting_of, slot_ranges, seen}
use Rattle.meaning_documents.specs.AsSystem.{instance_step}
use Rattle.examples_definitions.specs.SmallTrees.{word, element, number, sum_of, equal, less, range, range_from}
use Rattle.examples_definitions.specs.SmallTrees.{variable}
use Rattle.examples_definitions.specs.SmallTrees.{array, target, element_target, one, two, plainly, if_true, if_either}
use Rattle.examples_definitions.specs.SmallTrees.{set}
use Rattle.examples_definitions.specs.SmallTrees.{set_two, single, both, for_each, statement, lone, beside, choice_of}
use Rattle.examples_definitions.specs.SmallTrees.{program}

-- program Three
-- declare
--   x : 0..3
--   y : 0..3
--   a : array 0..2 of 0..9
-- assign
--   stay: x := x
-- end
abbrev pub three : Setting
three = setting_of (program "Three" (variable "x" 0 3 ∷ variable "y" 0 3 ∷ array "a" (range 0 2) 0 9 ∷ []) []
    (lone (statement "stay" (set (target "x") (plainly (one (word "x")))))) ∷ [])

-- x = 1, y = 2, a[0] = 7, a[1] = 5, a[2] = 9
abbrev pub before : State
before = pos 1 ∷ pos 2 ∷ pos 7 ∷ pos 5 ∷ pos 9 ∷ []

-- the state after an assignment there, or none where it is undefined
abbrev pub after : Assign → Option State
after assign = step (slot_ranges three.variables) (writes assign (seen three [] before)) before

-- `x, y := y, x` swaps
abbrev pub SwapSwaps : Type 0
SwapSwaps = after (single (set_two (target "x") (target "y") (plainly (two (word "y") (word "x"))))) ≡
    Some (pos 2 ∷ pos 1 ∷ pos 7 ∷ pos 5 ∷ pos 9 ∷ [])

-- so does `x := y || y := x`
abbrev pub ComponentsSwap : Type 0
ComponentsSwap = after (both (set (target "x") (plainly (one (word "y"))))
    (set (target "y") (plainly (one (word "x"))))) ≡
    Some (pos 2 ∷ pos 1 ∷ pos 7 ∷ pos 5 ∷ pos 9 ∷ [])

-- `x := 0 || x := 3` is undefined, and `x := 3 || x := 3` is not
abbrev pub ComponentsDiffer : Type 0
ComponentsDiffer = after (both (set (target "x") (plainly (one (number 0))))
    (set (target "x") (plainly (one (number 3))))) ≡ None

abbrev pub ComponentsAgree : Type 0
ComponentsAgree = after (both (set (target "x") (plainly (one (number 3))))
    (set (target "x") (plainly (one (number 3))))) ≡
    Some (pos 3 ∷ pos 2 ∷ pos 7 ∷ pos 5 ∷ pos 9 ∷ [])

-- `a[y] := 4` writes a[2]; the index is taken in the old state, though y changes too
abbrev pub ElementSet : Type 0
ElementSet = after (both (set (target "y") (plainly (one (number 0))))
    (set (element_target "a" (word "y")) (plainly (one (number 4))))) ≡
    Some (pos 1 ∷ pos 0 ∷ pos 7 ∷ pos 5 ∷ pos 4 ∷ [])

-- `<|| i : 0..1 :: a[i] := a[i + 1] |>` moves both elements at once
abbrev pub AllAtOnce : Type 0
AllAtOnce = after (single (for_each "i" (range 0 1)
    (set (element_target "a" (word "i")) (plainly (one (element "a" (sum_of (word "i") (number 1)))))))) ≡
    Some (pos 1 ∷ pos 2 ∷ pos 5 ∷ pos 9 ∷ pos 9 ∷ [])

-- `<|| i : 1..0 :: a[i] := 0 |>` does nothing
abbrev pub NothingAtOnce : Type 0
NothingAtOnce = after (single (for_each "i" (range 1 0)
    (set (element_target "a" (word "i")) (plainly (one (number 0)))))) ≡ Some before

-- the writes of `<|| i : 0..1 :: a[i], x := 4, i if true ~ 4, i if true |>`: for each instance each alternative, for
-- each of these each target
abbrev pub WritesInOrder : Type 0
WritesInOrder = writes (single (for_each "i" (range 0 1) (set_two (element_target "a" (word "i")) (target "x")
    (if_either (two (number 4) (word "i")) (Expr.True 0) (two (number 4) (word "i")) (Expr.True 0)))))
    (seen three [] before) ≡
    (Some 2, pos 4) ∷ (Some 0, pos 0) ∷ (Some 2, pos 4) ∷ (Some 0, pos 0) ∷
    (Some 3, pos 4) ∷ (Some 0, pos 1) ∷ (Some 3, pos 4) ∷ (Some 0, pos 1) ∷ []

-- what is done at once: all is taken from the old state, and writes of one slot must agree
pub record AtOnceExamples : Type 0 where
  pub swap : SwapSwaps
  pub components_swap : ComponentsSwap
  pub components_differ : ComponentsDiffer
  pub components_agree : ComponentsAgree
  pub element_set : ElementSet
  pub all_at_once : AllAtOnce
  pub nothing_at_once : NothingAtOnce
  pub writes_in_order : WritesInOrder

-- `x := 0 if y < 1 ~ 3 if y = 1`: where no condition is true, x keeps its value
abbrev pub NoneTaken : Type 0
NoneTaken = after (single (set (target "x")
    (if_either (one (number 0)) (less (word "y") (number 1)) (one (number 3)) (equal (word "y") (number 1))))) ≡
    Some before

-- `x := 0 if y < 1 ~ 3 if y = 2`: the one whose condition is true is taken
abbrev pub OneTaken : Type 0
OneTaken = after (single (set (target "x")
    (if_either (one (number 0)) (less (word "y") (number 1)) (one (number 3)) (equal (word "y") (number 2))))) ≡
    Some (pos 3 ∷ pos 2 ∷ pos 7 ∷ pos 5 ∷ pos 9 ∷ [])

-- `x := 0 if y < 3 ~ 3 if y = 2`: both conditions are true and the values differ, so the step is undefined
abbrev pub UnequalTaken : Type 0
UnequalTaken = after (single (set (target "x")
    (if_either (one (number 0)) (less (word "y") (number 3)) (one (number 3)) (equal (word "y") (number 2))))) ≡
    None

-- `x := 3 if y < 3 ~ y + 1 if y = 2`: both conditions are true and the values are equal
abbrev pub EqualTaken : Type 0
EqualTaken = after (single (set (target "x")
    (if_either (one (number 3)) (less (word "y") (number 3)) (one (sum_of (word "y") (number 1)))
    (equal (word "y") (number 2))))) ≡
    Some (pos 3 ∷ pos 2 ∷ pos 7 ∷ pos 5 ∷ pos 9 ∷ [])

-- which alternatives are taken
pub record AlternativeExamples : Type 0 where
  pub none_taken : NoneTaken
  pub one_taken : OneTaken
  pub unequal_taken : UnequalTaken
  pub equal_taken : EqualTaken

-- `a[y + 1] := 4` is undefined: the target lies outside the array
abbrev pub TargetOutside : Type 0
TargetOutside = after (single (set (element_target "a" (sum_of (word "y") (number 1))) (plainly (one (number 4))))) ≡
    None

-- `a[y + 1] := 4 if x = 0`: a target outside is no matter where the alternative is not taken
abbrev pub OutsideNotTaken : Type 0
OutsideNotTaken = after (single
    (set (element_target "a" (sum_of (word "y") (number 1)))
    (if_true (one (number 4)) (equal (word "x") (number 0))))) ≡
    Some before

-- `x := a[y + 1]` reads outside the array, which gives 0
abbrev pub ReadOutside : Type 0
ReadOutside = after (single (set (target "x") (plainly (one (element "a" (sum_of (word "y") (number 1))))))) ≡
    Some (pos 0 ∷ pos 2 ∷ pos 7 ∷ pos 5 ∷ pos 9 ∷ [])

-- `x := y + 2` is undefined: 4 lies outside 0..3
abbrev pub ValueOutside : Type 0
ValueOutside = after (single (set (target "x") (plainly (one (sum_of (word "y") (number 2)))))) ≡ None

-- targets, reads and values outside an array or a range
pub record OutsideExamples : Type 0 where
  pub target_outside : TargetOutside
  pub outside_not_taken : OutsideNotTaken
  pub read_outside : ReadOutside
  pub value_outside : ValueOutside

-- `x := 1`
abbrev pub set_x : Component
set_x = set (target "x") (plainly (one (number 1)))

-- `<[] i : 0..1 :: <[] j : 0..1 :: move: x := 1 |> [] rest: x := 1 |> [] stay: x := 1`: the outer bound name is slowest
abbrev pub OuterSlowest : Type 0
OuterSlowest = map instance_name (instances (beside
    (choice_of "i" (range 0 1) (beside (choice_of "j" (range 0 1) (lone (statement "move" set_x)))
    (statement "rest" set_x)))
    (statement "stay" set_x))) ≡
    (codes "move", pos 0 ∷ pos 0 ∷ []) ∷ (codes "move", pos 0 ∷ pos 1 ∷ []) ∷ (codes "rest", pos 0 ∷ []) ∷
    (codes "move", pos 1 ∷ pos 0 ∷ []) ∷ (codes "move", pos 1 ∷ pos 1 ∷ []) ∷ (codes "rest", pos 1 ∷ []) ∷
    (codes "stay", []) ∷ []

-- `<[] i : 1..2 :: <[] j : i..2 :: move: x := 1 |> |>`: an inner range may begin at the outer name
abbrev pub InnerFromOuter : Type 0
InnerFromOuter = map instance_name
    (instances (lone (choice_of "i" (range 1 2)
    (lone (choice_of "j" (range_from "i" 2) (lone (statement "move" set_x))))))) ≡
    (codes "move", pos 1 ∷ pos 1 ∷ []) ∷ (codes "move", pos 1 ∷ pos 2 ∷ []) ∷ (codes "move", pos 2 ∷ pos 2 ∷ []) ∷ []

-- `<[] i : 0..1 :: order: a[i], a[i + 1] := a[i + 1], a[i] if a[i + 1] < a[i] |>` sorts by exchanging neighbours
abbrev pub sort : Items
sort = lone (choice_of "i" (range 0 1) (lone (statement "order"
    (set_two (element_target "a" (word "i")) (element_target "a" (sum_of (word "i") (number 1)))
    (if_true (two (element "a" (sum_of (word "i") (number 1))) (element "a" (word "i")))
    (less (element "a" (sum_of (word "i") (number 1))) (element "a" (word "i"))))))))

-- of 7, 5, 9 the first instance exchanges 7 and 5, and the second leaves 5 and 9
abbrev pub SortSteps : Type 0
SortSteps = map (λ i. instance_step three i before) (instances sort) ≡
    Some (pos 1 ∷ pos 2 ∷ pos 5 ∷ pos 7 ∷ pos 9 ∷ []) ∷ Some before ∷ []

-- the instances of a statement in their order, and their steps
pub record InstanceExamples : Type 0 where
  pub outer_slowest : OuterSlowest
  pub inner_from_outer : InnerFromOuter
  pub sort_steps : SortSteps
