-- The span of a line outside of which all its factors are 0.
use Rattle.std.specs.Prelude.{ℤ, pos, Bool, List}
use Rattle.std.specs.List.{list_all}
use Rattle.meaning_states.specs.State.{int_eq}

abbrev pub equals_zero : ℤ → Bool
equals_zero z = int_eq z (pos 0)

-- all factors are 0
abbrev pub are_zero : List ℤ → Bool
are_zero zs = list_all equals_zero zs
