-- Which expressions are too large.
use Rattle.std.specs.Prelude.{◌^◌, Bool, not, ◌&&◌, ◌||◌, nat_le}
use Rattle.expand_rules.specs.declared.cores.Measure.{Measure}
use Rattle.expand_rules.specs.declared.cores.Formed.{Formed}

-- whatever an expression of this size, constant or not, is a part of is too large: it weighs more than 2^62, or more
-- than 65,536 nodes stay counted of it, which a constant index alone can hide
abbrev pub is_past_by : Bool → Measure → Bool
is_past_by constant m = not (nat_le m.most (2 ^ 62))
    || (not (nat_le m.quantified 65536) || (not constant && not (nat_le m.size 65536)))

abbrev pub is_past : Formed → Bool
is_past f = is_past_by f.constant f.measure

-- a formula, or an always name's definition, is too large: it weighs more than 2^62 or has more than 65,536 nodes
abbrev pub is_too_large : Formed → Bool
is_too_large f = is_past f || not (nat_le f.measure.size 65536)
