-- Writes that leave their slots as they are.
use Rattle.std.specs.Prelude.{ℤ, Bool, false, not, ◌||◌, Option, Some, None, slice_get, []}
use Rattle.meaning_states.specs.State.{State, int_eq}
use Rattle.meaning_states.specs.Step.{Write}
use Rattle.core_terms.specs.declared.programs.CWrite.{CWrite}
use Rattle.core_terms.specs.Values.{number_at, term_value, form_value}

-- there is a number, and it is this one
abbrev pub is_that_number : Option ℤ → ℤ → Bool
is_that_number None z = false
is_that_number (Some y) z = int_eq z y

-- the write goes to a slot that has its value
abbrev pub changes_nothing : State → Write → Bool
changes_nothing state (None, z) = false
changes_nothing state (Some n, z) = is_that_number (slice_get state n) z

-- the write, where it is made, leaves its slot as it is
abbrev pub leaves : State → CWrite → Bool
leaves state w = not (form_value state [] w.when) || int_eq (term_value state [] w.value) (number_at state w.slot)
