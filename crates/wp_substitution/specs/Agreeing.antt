-- Writes that agree: what is known of them says that no slot gets two numbers.
use Rattle.std.specs.Prelude.{ℕ, ℤ, nat_eq, List, [], ◌∷◌, Bool, true, ◌&&◌, cond, Option, Some, None}
use Rattle.meaning_states.specs.State.{int_eq}
use Rattle.core_terms.specs.declared.programs.CWrite.{CWrite}
use Rattle.core_terms.specs.Folding.{number_of, truth_of}

-- the number that a write gives, where it is known that it is made
abbrev pub made_number : Option Bool → Option ℤ → Option ℤ
made_number None z = None
made_number (Some made) z = cond made z None

abbrev pub number_given : CWrite → Option ℤ
number_given w = made_number (truth_of w.when) (number_of w.value)

-- the first number of two that there is
abbrev pub first_number : Option ℤ → Option ℤ → Option ℤ
first_number None later = later
first_number (Some z) later = Some z

-- a write's number, or else the later one
abbrev pub number_at : CWrite → Option ℤ → Option ℤ
number_at w later = first_number (number_given w) later

-- the first number that writes give a slot
abbrev pub first_given : ℕ → List CWrite → Option ℤ
first_given n [] = None
first_given n (w ∷ ws) = cond (nat_eq w.slot n) (number_at w (first_given n ws)) (first_given n ws)

-- two numbers are one, where both are there
abbrev pub are_one : Option ℤ → Option ℤ → Bool
are_one None later = true
are_one (Some z) None = true
are_one (Some z) (Some y) = int_eq z y

abbrev pub value_agrees : CWrite → Option ℤ → Bool
value_agrees w later = are_one (number_given w) later

-- the writes to one slot that are made give it one number
abbrev pub writes_agree : List CWrite → Bool
writes_agree [] = true
writes_agree (w ∷ ws) = writes_agree ws && value_agrees w (first_given w.slot ws)
