-- Unions and rounds, worked out by hand.
use Rattle.std.specs.Prelude.{◌≡◌, ℕ, ℤ, pos, List, [], ◌∷◌, map, Option, Some, None, option_map, codes}
use Rattle.unity_syntax.specs.declared.program.Program.{Program}
use Rattle.unity_syntax.specs.declared.document.Document.{Document}
use Rattle.meaning_documents.specs.Instances.{instance_name}
use Rattle.meaning_documents.specs.Programs.{program_named, programs_of, document_setting}
use Rattle.meaning_documents.specs.Setting.{slot_ranges}
use Rattle.meaning_executions.specs.Rounds.{rounds, IsShortest}
use Rattle.examples_definitions.specs.SmallTrees.{word, number, equal, range, variable, target, one, plainly, set}
use Rattle.examples_definitions.specs.SmallTrees.{statement, lone, choice_of, initial_program, free_program}
use Rattle.examples_definitions.specs.SmallTrees.{union_program}
use Rattle.examples_definitions.specs.SmallTrees.{document}

-- F has `<[] i : 0..1 :: send: x := i |>`, G has `take: y := x`, L has `stay: y := y`; H = F [] G and K = H [] L, and
-- Early = F [] L stands before L
abbrev pub sender : Program
sender = initial_program "F" (variable "x" 0 1 ∷ []) (equal (word "x") (number 0))
    (lone (choice_of "i" (range 0 1) (lone (statement "send" (set (target "x") (plainly (one (word "i"))))))))

abbrev pub taker : Program
taker = initial_program "G" (variable "x" 0 1 ∷ variable "y" 0 1 ∷ []) (equal (word "y") (number 1))
    (lone (statement "take" (set (target "y") (plainly (one (word "x"))))))

abbrev pub idler : Program
idler = free_program "L" (variable "y" 0 1 ∷ []) (lone (statement "stay" (set (target "y") (plainly (one (word "y"))))))

abbrev pub composed_document : Document
composed_document = document (sender ∷ taker ∷ union_program "H" "F" "G" ∷ union_program "Early" "F" "L" ∷ idler ∷
    union_program "K" "H" "L" ∷ [])

-- the names of the instances of a program, if there is one
abbrev pub names_in : List ℕ → Option (List (List ℕ × List ℤ))
names_in name = option_map (λ c. map instance_name c.instances) (program_named name (programs_of composed_document))

-- H has F's instances and then G's
abbrev pub UnionInOrder : Type 0
UnionInOrder = names_in (codes "H") ≡
    Some ((codes "send", pos 0 ∷ []) ∷ (codes "send", pos 1 ∷ []) ∷ (codes "take", []) ∷ [])

-- a union of a union
abbrev pub UnionOfUnion : Type 0
UnionOfUnion = names_in (codes "K") ≡
    Some ((codes "send", pos 0 ∷ []) ∷ (codes "send", pos 1 ∷ []) ∷ (codes "take", []) ∷ (codes "stay", []) ∷ [])

-- it keeps both initially sections of its parts, in order; L has none
abbrev pub UnionOfSections : Type 0
UnionOfSections = option_map (λ c. c.initially) (program_named (codes "K") (programs_of composed_document)) ≡
    Some (equal (word "x") (number 0) ∷ equal (word "y") (number 1) ∷ [])

-- a program that stands later is no part of a union
abbrev pub LaterIsNoPart : Type 0
LaterIsNoPart = names_in (codes "Early") ≡ None

-- all programs have the slots of the document: x, then y
abbrev pub SlotsOfDocument : Type 0
SlotsOfDocument = slot_ranges (document_setting composed_document).variables ≡ (pos 0, pos 1) ∷ (pos 0, pos 1) ∷ []

-- of two instances: 0 1, 1 0, and 0 that is left over
abbrev pub TwoRounds : Type 0
TwoRounds = rounds (0 ∷ 1 ∷ 1 ∷ 0 ∷ 0 ∷ []) 2 ≡ 2

-- 0 0 1 is one round, 1 0 the next
abbrev pub UnevenRounds : Type 0
UnevenRounds = rounds (0 ∷ 0 ∷ 1 ∷ 1 ∷ 0 ∷ []) 2 ≡ 2

-- no round without instance 1
abbrev pub NoRoundWithout : Type 0
NoRoundWithout = rounds (0 ∷ 0 ∷ 2 ∷ 0 ∷ 2 ∷ []) 3 ≡ 0

-- of three instances: 2 0 1, in any order
abbrev pub RoundOfThree : Type 0
RoundOfThree = rounds (2 ∷ 0 ∷ 1 ∷ []) 3 ≡ 1

-- 0 1 2 and 2 1 0
abbrev pub TwoOfThree : Type 0
TwoOfThree = rounds (0 ∷ 1 ∷ 2 ∷ 2 ∷ 1 ∷ 0 ∷ []) 3 ≡ 2

-- 0 1 0 2 is one round, and in 1 0 1, which are left over, 2 is not among them
abbrev pub OneOfThree : Type 0
OneOfThree = rounds (0 ∷ 1 ∷ 0 ∷ 2 ∷ 1 ∷ 0 ∷ 1 ∷ []) 3 ≡ 1

-- no choices have no round, and one of many instances has none
abbrev pub RoundsOfNothing : Type 0
RoundsOfNothing = rounds [] 3 ≡ 0

abbrev pub RoundsOfMany : Type 0
RoundsOfMany = rounds (63 ∷ []) 64 ≡ 0

-- of one instance each choice is a round
abbrev pub RoundsOfOne : Type 0
RoundsOfOne = rounds (0 ∷ 0 ∷ 0 ∷ []) 1 ≡ 3

-- and so it is among none
abbrev pub RoundsOfNone : Type 0
RoundsOfNone = rounds (0 ∷ 0 ∷ []) 0 ≡ 2

-- the shortest prefix of 0 0 1 1 0 with one round has three choices
abbrev pub ShortestOfOne : Type 0
ShortestOfOne = IsShortest (0 ∷ 0 ∷ 1 ∷ 1 ∷ 0 ∷ []) 2 1 3

-- and that with two rounds has all five
abbrev pub ShortestOfTwo : Type 0
ShortestOfTwo = IsShortest (0 ∷ 0 ∷ 1 ∷ 1 ∷ 0 ∷ []) 2 2 5

-- all of these
pub record UnionExamples : Type 0 where
  pub in_order : UnionInOrder
  pub of_union : UnionOfUnion
  pub sections : UnionOfSections
  pub later : LaterIsNoPart
  pub slots : SlotsOfDocument

pub record RoundExamples : Type 0 where
  pub two : TwoRounds
  pub uneven : UnevenRounds
  pub without : NoRoundWithout
  pub of_three : RoundOfThree
  pub two_of_three : TwoOfThree
  pub one_of_three : OneOfThree
  pub of_nothing : RoundsOfNothing
  pub of_many : RoundsOfMany
  pub of_one : RoundsOfOne
  pub of_none : RoundsOfNone
  pub shortest_of_one : ShortestOfOne
  pub shortest_of_two : ShortestOfTwo
