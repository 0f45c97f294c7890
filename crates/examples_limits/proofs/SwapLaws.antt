-- The swap fits, and is made.
use Rattle.std.proofs.Common.{◌≡◌, ℕ, ◌+◌, ◌<◌, pos, [], ◌∷◌, Some, refl, sym, ap, ◌∙◌, arith}
use Rattle.std.proofs.lemmas.List.Elements.{All-nil, All-cons}
use Rattle.core_terms.specs.declared.trees.CTerm.{fold-roll-CTerm}
use Rattle.core_terms.specs.declared.trees.CTerm.TheVariants.{Slot, rolls-Slot}
use Rattle.core_terms.specs.declared.trees.CForm.{fold-roll-CForm}
use Rattle.core_terms.specs.declared.trees.CForm.TheVariants.{Top, rolls-Top}
use Rattle.core_terms.specs.declared.trees.CForm.TheOpen.{CTerm-F, CForm-F}
use Rattle.core_terms.specs.Weights.{Weights, weigh_term, weigh_form, term_weights, slot_weight, place_weight}
use Rattle.core_terms.specs.Places.{greatest_part, slots_step, params_step, form_slots, form_params, term_slots}
use Rattle.core_terms.specs.Places.{term_params}
use Rattle.core_terms.specs.Conditions.{FormFits, WriteFits, StatementFits}
use Rattle.core_terms.specs.Steps.{core_step}
use Rattle.core_terms.proofs.PartLaws.{value-Top, value-Slot}
use Rattle.core_terms.proofs.WeightLaws.{weight-Top}
use Rattle.examples_limits.specs.Swap.{two_slots, copying, swap, before, HasStep}

top_fits : FormFits two_slots [] Top
top_fits =
    let slots : form_slots Top ≡ 0 =
    ap form_slots (sym rolls-Top) ∙ fold-roll-CForm ℕ ℕ greatest_part slots_step CForm-F.Top in
    let params : form_params Top ≡ 0 =
    ap form_params (sym rolls-Top) ∙ fold-roll-CForm ℕ ℕ greatest_part params_step CForm-F.Top in
    let weight = weight-Top (slot_weight two_slots) (place_weight []) in
    record {
      slots_exist = omega (arith, slots);
      params_exist = omega (arith, params);
      weight = omega (arith, weight);
    }

copying_fits : (slot from : ℕ) → slot < 2 → from < 2 → slot_weight two_slots from ≡ 9 →
    WriteFits two_slots (copying slot from)
copying_fits slot from h k e =
    let slots : term_slots (Slot from) ≡ from + 1 =
    ap term_slots (sym (rolls-Slot from)) ∙ fold-roll-CTerm ℕ ℕ greatest_part slots_step (CTerm-F.Slot from) in
    let params : term_params (Slot from) ≡ 0 =
    ap term_params (sym (rolls-Slot from)) ∙ fold-roll-CTerm ℕ ℕ greatest_part params_step (CTerm-F.Slot from) in
    let whole = ap (term_weights (slot_weight two_slots) (place_weight [])) (sym (rolls-Slot from))
    ∙ fold-roll-CTerm ℕ Weights weigh_form (weigh_term (slot_weight two_slots) (place_weight [])) (CTerm-F.Slot from)
    in
    let weight = ap (λ (w : Weights). w.most) whole in
    record {
      target = omega (arith, h);
      condition = top_fits;
      value = record {
        slots_exist = omega (arith, slots, k);
        params_exist = omega (arith, params);
        weight = omega (arith, weight, e);
      };
    }

swap_fits : StatementFits two_slots swap
swap_fits = record {
  outside = All-nil (FormFits two_slots []);
  writes = All-cons (WriteFits two_slots) (copying 0 1) (copying 1 0 ∷ [])
      (copying_fits 0 1 (omega arith) (omega arith) refl)
      (All-cons (WriteFits two_slots) (copying 1 0) [] (copying_fits 1 0 (omega arith) (omega arith) refl)
      (All-nil (WriteFits two_slots)));
}

swap_steps : core_step two_slots swap before ≡ Some (pos 2 ∷ pos 1 ∷ [])
swap_steps = simp (value-Top, value-Slot) refl

pub has_step : HasStep
has_step = record { state = refl; fits = swap_fits; step = swap_steps }
