-- Numbers that change by the same from each number to the next.
use Rattle.std.specs.Prelude.{ℕ, ℤ, pos, ◌+ℤ◌, ◌-ℤ◌, ◌*ℤ◌, Bool, ◌&&◌, ◌||◌}
use Rattle.std.specs.Int.RustNames.{int_le}
use Rattle.meaning_states.specs.State.{int_eq}
use Rattle.core_terms.specs.declared.known.Pairing.{Pairing}
use Rattle.core_terms.specs.declared.known.Sense.{Sense}
use Rattle.core_terms.specs.declared.known.Joining.{Joining}
use Rattle.leadsto_rules.specs.declared.lines.Line.{Line}

-- the number after so many steps
abbrev pub line_at : Line → ℕ → ℤ
line_at l k = l.value +ℤ l.slope *ℤ pos k

abbrev pub sum_line : Line → Line → Line
sum_line a b = record { value = a.value +ℤ b.value; slope = a.slope +ℤ b.slope }

abbrev pub difference_line : Line → Line → Line
difference_line a b = record { value = a.value -ℤ b.value; slope = a.slope -ℤ b.slope }

abbrev pub multiple_line : ℤ → Line → Line
multiple_line k a = record { value = k *ℤ a.value; slope = k *ℤ a.slope }

-- a sum or a difference of two lines
abbrev pub pair_line : Pairing → Line → Line → Line
pair_line Pairing.Sum a b = sum_line a b
pair_line Pairing.Difference a b = difference_line a b

-- whether a number is at least 0, or is 0
abbrev pub holds_at : Sense → ℤ → Bool
holds_at Sense.AtLeast z = int_le (pos 0) z
holds_at Sense.Zero z = int_eq z (pos 0)

-- whether two truths hold, or one of them does
abbrev pub joined_truth : Joining → Bool → Bool → Bool
joined_truth Joining.Both a b = a && b
joined_truth Joining.Either a b = a || b
