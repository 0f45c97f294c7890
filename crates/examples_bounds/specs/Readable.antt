-- Formulas that can be evaluated at each state.
use Rattle.std.specs.Prelude.{◌≤◌, ◌^◌, ℤ, List, length}
use Rattle.core_terms.specs.declared.trees.CForm.{CForm}
use Rattle.core_terms.specs.declared.programs.CSlot.{CSlot}
use Rattle.core_terms.specs.Places.{form_slots, form_params}
use Rattle.core_terms.specs.Weights.{form_weight, number_weight, slot_weight}

-- a formula names only slots and parameters that have a number, and no part of it weighs too much
pub record FormIsReadable (slots : List CSlot) (params : List ℤ) (f : CForm) : Type 0 where
  pub slots_exist : form_slots f ≤ length slots
  pub params_exist : form_params f ≤ length params
  pub weight : form_weight (slot_weight slots) (number_weight params) f ≤ 2 ^ 62
