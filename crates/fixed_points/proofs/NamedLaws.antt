-- A statement's part of the formula of fixed points names no slot and no parameter that the statement does not name.
use Rattle.std.proofs.Common.{ℕ, ◌≤◌, List, [], map, length, All, arith}
use Rattle.std.proofs.lemmas.List.Elements.{All-map, All-weaker}
use Rattle.core_terms.specs.declared.trees.CTerm.{CTerm, fold-CTerm}
use Rattle.core_terms.specs.declared.trees.CTerm.TheVariants.{Slot}
use Rattle.core_terms.specs.declared.trees.CForm.{CForm, fold-CForm}
use Rattle.core_terms.specs.declared.trees.CForm.TheOpen.{CTerm-F}
use Rattle.core_terms.specs.declared.programs.CSlot.{CSlot}
use Rattle.core_terms.specs.declared.programs.CWrite.{CWrite}
use Rattle.core_terms.specs.declared.programs.CStmt.{CStmt}
use Rattle.core_terms.specs.Places.{greatest_part, slots_step, params_step, form_slots, form_params, term_slots}
use Rattle.core_terms.specs.Places.{term_params}
use Rattle.core_terms.specs.Conditions.{FormFits, WriteFits, StatementFits}
use Rattle.wp_substitution.specs.Preconditions.{all_of, defined_form}
use Rattle.wp_substitution.proofs.PlaceLaws.{Counts, count-Slot, difference_within, zero_within, not_within, and_within}
use Rattle.wp_substitution.proofs.PlaceLaws.{or_within}
use Rattle.wp_substitution.proofs.NamedLaws.{all_of_below, defined_below, slot_counts, param_counts}
use Rattle.fixed_points.specs.FixedForms.{same_value, fixed_part}

module _ (step : CTerm-F ℕ ℕ → ℕ) (counts : Counts step) (limit : ℕ) where
  abbrev FormBelow : CForm → Type 0
  FormBelow f = fold-CForm ℕ ℕ greatest_part step f ≤ limit

  abbrev TermBelow : CTerm → Type 0
  TermBelow t = fold-CTerm ℕ ℕ greatest_part step t ≤ limit

  abbrev WriteBelow : CWrite → Type 0
  WriteBelow w = FormBelow w.when × TermBelow w.value

  same_below : (w : CWrite) → WriteBelow w × TermBelow (Slot w.slot) → FormBelow (same_value w)
  same_below w h =
      or_within step counts limit _ _ (not_within step counts limit w.when h.0.0)
      (zero_within step counts limit _ (difference_within step counts limit w.value (Slot w.slot) h.0.1 h.1))

  pub part_below : (slots : List CSlot) (s : CStmt) → All FormBelow s.outside →
      All (λ w. WriteBelow w × TermBelow (Slot w.slot)) s.writes → FormBelow (fixed_part slots s)
  part_below slots s h k =
      and_within step counts limit (defined_form slots s) (all_of (map same_value s.writes))
      (defined_below step counts limit slots s h
      (All-weaker (λ w. WriteBelow w × TermBelow (Slot w.slot)) WriteBelow (λ w b. b.0) s.writes k))
      (all_of_below step counts limit (map same_value s.writes)
      (All-map FormBelow same_value s.writes
      (All-weaker (λ w. WriteBelow w × TermBelow (Slot w.slot)) (λ w. FormBelow (same_value w)) same_below
      s.writes k)))

pub part_slots : (slots : List CSlot) (s : CStmt) → StatementFits slots s →
    form_slots (fixed_part slots s) ≤ length slots
part_slots slots s h =
    let limit = length slots in
    part_below slots_step slot_counts limit slots s
    (All-weaker (FormFits slots []) (λ f. form_slots f ≤ limit) (λ f g. g.slots_exist) s.outside h.outside)
    (All-weaker (WriteFits slots)
    (λ w. ((form_slots w.when ≤ limit) × (term_slots w.value ≤ limit)) × (term_slots (Slot w.slot) ≤ limit))
    (λ w g. let own = g.target in (
      (g.condition.slots_exist, g.value.slots_exist),
      omega (arith, own, count-Slot slots_step slot_counts w.slot),
    )) s.writes h.writes)

pub part_params : (slots : List CSlot) (s : CStmt) → StatementFits slots s → form_params (fixed_part slots s) ≤ 0
part_params slots s h =
    part_below params_step param_counts 0 slots s
    (All-weaker (FormFits slots []) (λ f. form_params f ≤ 0) (λ f g. g.params_exist) s.outside h.outside)
    (All-weaker (WriteFits slots)
    (λ w. ((form_params w.when ≤ 0) × (term_params w.value ≤ 0)) × (term_params (Slot w.slot) ≤ 0))
    (λ w g. (
      (g.condition.params_exist, g.value.params_exist),
      omega (arith, count-Slot params_step param_counts w.slot),
    )) s.writes h.writes)
