-- A side of a formula that fits can be handed on.
use Rattle.std.proofs.Common.{◌≡◌, ℕ, ◌≤◌, max, List, length, sym, ap, ◌∙◌, subst, arith}
use Rattle.core_terms.specs.Conditions.{FormFits}
use Rattle.core_terms.specs.Places.{form_slots, form_params, slots_step, params_step, greatest_part}
use Rattle.core_terms.specs.Weights.{Weights, weigh_form, weigh_term, one_weight, plain_weight}
use Rattle.core_terms.specs.declared.programs.CSlot.{CSlot}
use Rattle.core_terms.specs.declared.trees.CTerm.{CTerm}
use Rattle.core_terms.specs.declared.trees.CForm.{CForm, out-CForm, roll-CForm, roll-out-CForm, fold-roll-CForm}
use Rattle.core_terms.specs.declared.trees.CForm.TheOpen.{CForm-F}
use Rattle.core_terms.specs.declared.trees.CForm.TheVariants.{Bottom, Or, rolls-Bottom, rolls-Or}
use Rattle.core_terms.specs.declared.trees.Range.{Range}
use Rattle.safety_rules.specs.from_rules_table.Further.{first_side}
use Rattle.safety_rules.specs.Usable.{IsUsable}
use Rattle.safety_rules.proofs.UsableLaws.{usable, weight-Or}

slots-Or : (f g : CForm) → form_slots (Or f g) ≡ max (form_slots f) (form_slots g)
slots-Or f g =
    ap form_slots (sym (rolls-Or f g)) ∙ fold-roll-CForm ℕ ℕ greatest_part slots_step (CForm-F.Or f g)

params-Or : (f g : CForm) → form_params (Or f g) ≡ max (form_params f) (form_params g)
params-Or f g =
    ap form_params (sym (rolls-Or f g)) ∙ fold-roll-CForm ℕ ℕ greatest_part params_step (CForm-F.Or f g)

slots-Bottom : form_slots Bottom ≡ 0
slots-Bottom = ap form_slots (sym rolls-Bottom) ∙ fold-roll-CForm ℕ ℕ greatest_part slots_step CForm-F.Bottom

params-Bottom : form_params Bottom ≡ 0
params-Bottom = ap form_params (sym rolls-Bottom) ∙ fold-roll-CForm ℕ ℕ greatest_part params_step CForm-F.Bottom

weight-Bottom : plain_weight Bottom ≡ 0
weight-Bottom =
    ap plain_weight (sym rolls-Bottom)
    ∙ fold-roll-CForm ℕ Weights weigh_form (weigh_term one_weight one_weight) CForm-F.Bottom

module _ (slots : List CSlot) (params : List Range) where
  bottom_usable : IsUsable slots params Bottom
  bottom_usable = record {
    names = record {
      slots_exist = let none = slots-Bottom in omega (arith, none);
      params_exist = let none = params-Bottom in omega (arith, none);
    };
    light = let none = weight-Bottom in omega (arith, none);
  }

  rolled_side : (y : CForm-F CForm CTerm) → IsUsable slots params (roll-CForm y) →
      IsUsable slots params (first_side y)
  rolled_side (CForm-F.Or q b) h =
      let whole = subst (IsUsable slots params) (rolls-Or q b) h in
      let slots_are = slots-Or q b in
      let params_are = params-Or q b in
      let weight_is = weight-Or q b in
      let few_slots = whole.names.slots_exist in
      let few_params = whole.names.params_exist in
      let light = whole.light in
      record {
        names = record {
          slots_exist = omega (arith, slots_are, few_slots);
          params_exist = omega (arith, params_are, few_params);
        };
        light = omega (arith, weight_is, light);
      }
  rolled_side _ h = bottom_usable

  pub side_usable : (f : CForm) → FormFits slots params f → IsUsable slots params (first_side (out-CForm f))
  side_usable f fits =
      rolled_side (out-CForm f) (subst (IsUsable slots params) (sym (roll-out-CForm f)) (usable slots params f fits))
