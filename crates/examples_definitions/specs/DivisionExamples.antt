-- Division, rounded down, of the numbers from -7 to 7.
use Rattle.std.specs.Prelude.{◌≡◌, ℤ, pos, neg_ℤ, List, [], ◌∷◌, map}
use Rattle.meaning_states.specs.Division.{divisor, floored, rest_of}
use Rattle.meaning_executions.specs.Counting.{count_up}

-- from -7 to 7
abbrev pub numbers : List ℤ
numbers = count_up (neg_ℤ (pos 7)) 15

-- by 1 each number is itself
abbrev pub FlooredByOne : Type 0
FlooredByOne = map (λ z. floored z (pos 1)) numbers ≡ numbers

abbrev pub FlooredByTwo : Type 0
FlooredByTwo = map (λ z. floored z (pos 2)) numbers ≡
    neg_ℤ (pos 4) ∷ neg_ℤ (pos 3) ∷ neg_ℤ (pos 3) ∷ neg_ℤ (pos 2) ∷ neg_ℤ (pos 2) ∷ neg_ℤ (pos 1) ∷
    neg_ℤ (pos 1) ∷ pos 0 ∷ pos 0 ∷ pos 1 ∷ pos 1 ∷ pos 2 ∷ pos 2 ∷ pos 3 ∷ pos 3 ∷ []

abbrev pub FlooredByThree : Type 0
FlooredByThree = map (λ z. floored z (pos 3)) numbers ≡
    neg_ℤ (pos 3) ∷ neg_ℤ (pos 2) ∷ neg_ℤ (pos 2) ∷ neg_ℤ (pos 2) ∷ neg_ℤ (pos 1) ∷ neg_ℤ (pos 1) ∷
    neg_ℤ (pos 1) ∷ pos 0 ∷ pos 0 ∷ pos 0 ∷ pos 1 ∷ pos 1 ∷ pos 1 ∷ pos 2 ∷ pos 2 ∷ []

-- by 1 nothing is left
abbrev pub RestByOne : Type 0
RestByOne = map (λ z. rest_of z (pos 1)) numbers ≡ map (λ z. pos 0) numbers

abbrev pub RestByTwo : Type 0
RestByTwo = map (λ z. rest_of z (pos 2)) numbers ≡
    pos 1 ∷ pos 0 ∷ pos 1 ∷ pos 0 ∷ pos 1 ∷ pos 0 ∷ pos 1 ∷ pos 0 ∷ pos 1 ∷ pos 0 ∷ pos 1 ∷ pos 0 ∷ pos 1 ∷
    pos 0 ∷ pos 1 ∷ []

abbrev pub RestByThree : Type 0
RestByThree = map (λ z. rest_of z (pos 3)) numbers ≡
    pos 2 ∷ pos 0 ∷ pos 1 ∷ pos 2 ∷ pos 0 ∷ pos 1 ∷ pos 2 ∷ pos 0 ∷ pos 1 ∷ pos 2 ∷ pos 0 ∷ pos 1 ∷ pos 2 ∷
    pos 0 ∷ pos 1 ∷ []

-- what is no divisor counts as 1
abbrev pub DivisorBelowOne : Type 0
DivisorBelowOne = map divisor (neg_ℤ (pos 2) ∷ pos 0 ∷ pos 1 ∷ pos 2 ∷ []) ≡ pos 1 ∷ pos 1 ∷ pos 1 ∷ pos 2 ∷ []

-- all of these
pub record DivisionExamples : Type 0 where
  pub floored_by_one : FlooredByOne
  pub floored_by_two : FlooredByTwo
  pub floored_by_three : FlooredByThree
  pub rest_by_one : RestByOne
  pub rest_by_two : RestByTwo
  pub rest_by_three : RestByThree
  pub below_one : DivisorBelowOne
