-- What an induction needs weighs little, and names what exists.
use Rattle.std.proofs.Common.{◌≡◌, ℕ, ◌*◌, ◌≤◌, ◌^◌, ℤ, pos, negsuc, ◌≤ℤ◌, List}
use Rattle.std.proofs.Common.{[], ◌∷◌, ◌++◌, Option, Some, None, refl, sym, subst}
use Rattle.std.proofs.Common.{slice_get, length, arith}
use Rattle.std.specs.Prelude.{All}
use Rattle.std.specs.Option.{option_map}
use Rattle.std.specs.Int.RustNames.{unsigned_abs}
use Rattle.std.proofs.lemmas.Int.{ints}
use Rattle.std.proofs.lemmas.List.Elements.{All-push}
use Rattle.meaning_executions.specs.Counting.{natural}
use Rattle.core_terms.specs.Conditions.{FormFits, TermFits}
use Rattle.core_terms.specs.Folding.{not_form, at_least_form, difference_term}
use Rattle.core_terms.specs.Places.{slots_step, params_step, term_slots, term_params}
use Rattle.core_terms.specs.Weights.{range_weight, slot_weight, place_weight, one_weight, plain_weights}
use Rattle.core_terms.specs.declared.programs.CSlot.{CSlot}
use Rattle.core_terms.specs.declared.trees.CForm.{CForm}
use Rattle.core_terms.specs.declared.trees.CTerm.{CTerm}
use Rattle.core_terms.specs.declared.trees.CTerm.TheVariants.{Const}
use Rattle.core_terms.specs.declared.trees.Range.{Range}
use Rattle.core_terms.proofs.WeightLaws.{own_within}
use Rattle.core_terms.proofs.HeavierLaws.{term_scaled}
use Rattle.safety_rules.proofs.lemmas_from_wp_substitution.LightLaws.{form_light}
use Rattle.safety_rules.proofs.lemmas_from_wp_substitution.PlaceLaws.{difference_within, constant_within}
use Rattle.safety_rules.proofs.lemmas_from_wp_substitution.PlaceLaws.{at_least_within}
use Rattle.safety_rules.specs.Foldable.{IsFoldable}
use Rattle.safety_rules.proofs.JoinLaws.{all_foldable}
use Rattle.rules_table.specs.Forms.{imply}
use Rattle.rules_table.specs.Terms.{measure_lies}
use Rattle.safety_rules.specs.Usable.{NamesExist}
use Rattle.safety_rules.proofs.UsableLaws.{usable, all_usable}
use Rattle.safety_rules.proofs.lemmas_from_wp_substitution.NamedLaws.{slot_counts, param_counts}
use Rattle.safety_rules.proofs.UsableLaws.{both_usable, light_not, all_exist, exist_imply, exist_and}
use Rattle.leadsto_rules.specs.Inductions.{IsLightInduction, InductionFits}
use Rattle.leadsto_rules.specs.declared.inductions.Induction.{Induction}

range_least : (r : Option Range) → 1 ≤ range_weight r
range_least None = omega arith
range_least (Some r) = omega arith

slot_least : (slots : List CSlot) (n : ℕ) → 1 ≤ 1 * slot_weight slots n
slot_least slots n = let h = range_least (option_map (λ s. s.range) (slice_get slots n)) in omega (arith, h)

param_least : (params : List Range) (n : ℕ) → 1 ≤ 1 * place_weight params n
param_least params n = let h = range_least (slice_get params n) in omega (arith, h)

term_light : (slots : List CSlot) (params : List Range) (t : CTerm) → TermFits slots params t →
    (plain_weights t).most ≤ 2 ^ 62
term_light slots params t h =
    let less =
    term_scaled 1 one_weight one_weight (slot_weight slots) (place_weight params) (omega arith) (slot_least slots)
    (param_least params) t in
    omega (arith, less.1, h.weight)

module _ (slots : List CSlot) (ranges : List Range) where
  pub light : (i : Induction) → InductionFits slots ranges i → IsLightInduction i
  light i fits =
      let most = term_light slots ranges i.measure.now fits.measure in
      record {
        own = omega (arith, most, own_within one_weight one_weight i.measure.now);
        most = most;
        p = form_light slots ranges i.p.now fits.p;
        q = form_light slots ranges i.q.now fits.q;
      }

  above_exists : (t u : CTerm) → term_slots t ≤ length slots → term_params t ≤ length ranges →
      term_slots u ≤ length slots → term_params u ≤ length ranges →
      NamesExist slots ranges (at_least_form (difference_term t u))
  above_exists t u st pt su pu = record {
    slots_exist = at_least_within slots_step slot_counts (length slots) (difference_term t u)
        (difference_within slots_step slot_counts (length slots) t u st su);
    params_exist = at_least_within params_step param_counts (length ranges) (difference_term t u)
        (difference_within params_step param_counts (length ranges) t u pt pu);
  }

  pub lies_exist : (t : CTerm) (range : Range) → TermFits slots ranges t →
      NamesExist slots ranges (measure_lies t range)
  lies_exist t range fits =
      exist_and slots ranges (at_least_form (difference_term t (Const range.lo)))
      (at_least_form (difference_term (Const range.hi) t))
      (above_exists t (Const range.lo) fits.slots_exist fits.params_exist
      (constant_within slots_step slot_counts (length slots) range.lo)
      (constant_within params_step param_counts (length ranges) range.lo))
      (above_exists (Const range.hi) t (constant_within slots_step slot_counts (length slots) range.hi)
      (constant_within params_step param_counts (length ranges) range.hi) fits.slots_exist fits.params_exist)

  pub form_exists : (using : List CForm) (i : Induction) → All (FormFits slots []) using →
      InductionFits slots ranges i →
      NamesExist slots ranges (imply (using ++ (i.p.now ∷ not_form i.q.now ∷ [])) (measure_lies i.measure.now i.range))
  form_exists using i hu fits =
      let all : List CForm = using ++ (i.p.now ∷ not_form i.q.now ∷ []) in
      exist_imply slots ranges all (measure_lies i.measure.now i.range)
      (all_exist slots ranges all
      (both_usable slots ranges using i.p.now (not_form i.q.now) all refl hu (usable slots ranges i.p.now fits.p)
      (light_not slots ranges i.q.now (usable slots ranges i.q.now fits.q))))
      (lies_exist i.measure.now i.range fits.measure)

-- U and two formulas can be joined
pub premises_foldable : (slots : List CSlot) (using first all : List CForm) (p n : CForm) → first ≡ using ++ p ∷ [] →
    all ≡ first ++ n ∷ [] → All (FormFits slots []) using → IsFoldable p → IsFoldable n → All IsFoldable all
premises_foldable slots using first all p n one two hu hp hn =
    subst (λ fs. All IsFoldable fs) (sym two)
    (All-push IsFoldable first n
    (subst (λ fs. All IsFoldable fs) (sym one)
    (All-push IsFoldable using p (all_foldable slots [] using (all_usable slots [] using hu)) hp)) hn)

-- a difference that is not negative, as a count
pub natural_abs : (z : ℤ) → pos 0 ≤ℤ z → natural z ≡ unsigned_abs z
natural_abs (pos n) h = refl
natural_abs (negsuc n) h = absurd (omega (arith, ints, h))
