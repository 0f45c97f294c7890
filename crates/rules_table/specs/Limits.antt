-- The limits of conclusions, of instances and of what is left to be shown.
use Rattle.std.specs.Prelude.{◌^◌, nat_le, Bool, ◌&&◌, List}
use Rattle.core_terms.specs.declared.trees.Range.{Range}
use Rattle.core_terms.specs.declared.trees.CForm.{CForm}
use Rattle.core_terms.specs.declared.programs.CSlot.{CSlot}
use Rattle.core_terms.specs.Sizes.{form_nodes}
use Rattle.core_terms.specs.Weights.{form_weight, slot_weight, place_weight}
use Rattle.obligations.specs.Obligations.{is_within_limits}
use Rattle.rules_table.specs.Validity.{goal_obligation}

-- a formula is small enough for a conclusion or an instance
abbrev pub fits : List CSlot → List Range → CForm → Bool
fits slots params f =
    nat_le (form_nodes f) 65536 && nat_le (form_weight (slot_weight slots) (place_weight params) f) (2 ^ 62)

-- and for what is left to be shown
abbrev pub is_provable : List CSlot → List Range → CForm → Bool
is_provable slots params f = is_within_limits (goal_obligation slots params f)
