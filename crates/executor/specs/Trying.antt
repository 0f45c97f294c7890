-- Writes in the order of their slots.
use Rattle.std.specs.Prelude.{ℕ, ◌+◌, nat_le, List, [], ◌∷◌, Bool, true, ◌&&◌}
use Rattle.core_terms.specs.declared.programs.CWrite.{CWrite}

-- the slots of the writes rise, from this number on
abbrev pub slots_rise : ℕ → List CWrite → Bool
slots_rise least [] = true
slots_rise least (w ∷ ws) = nat_le least w.slot && slots_rise (w.slot + 1) ws
