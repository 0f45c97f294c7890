-- Formulas that can be handed on: what they name exists, and they weigh little.
use Rattle.std.specs.Prelude.{◌≤◌, ◌^◌, List, length}
use Rattle.core_terms.specs.declared.trees.Range.{Range}
use Rattle.core_terms.specs.declared.trees.CForm.{CForm}
use Rattle.core_terms.specs.declared.programs.CSlot.{CSlot}
use Rattle.core_terms.specs.Places.{form_slots, form_params}
use Rattle.core_terms.specs.Weights.{plain_weight}

-- each slot and each parameter that the formula names exists
pub record NamesExist (slots : List CSlot) (params : List Range) (f : CForm) : Type 0 where
  pub slots_exist : form_slots f ≤ length slots
  pub params_exist : form_params f ≤ length params

-- and it weighs at most 2^62, where slots and parameters weigh 1
pub record IsUsable (slots : List CSlot) (params : List Range) (f : CForm) : Type 0 where
  pub names : NamesExist slots params f
  pub light : plain_weight f ≤ 2 ^ 62
