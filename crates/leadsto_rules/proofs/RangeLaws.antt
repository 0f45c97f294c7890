-- The ranges of the names that a term binds, and what the formulas at their numbers name.
use Rattle.std.proofs.Common.{◌≡◌, ℕ, zero, suc, ◌≤◌, ℤ, pos, ◌+ℤ◌, Bool, List, ◌∷◌, ◌++◌, map, length}
use Rattle.std.proofs.Common.{sym, ap, ◌∙◌, subst, append-nil, arith, refl}
use Rattle.core_terms.specs.Conditions.{Parts, parts_step, parts_of, also, ranges_step, bound_ranges}
use Rattle.core_terms.specs.Folding.{or_form}
use Rattle.core_terms.specs.Places.{slots_step, params_step, term_slots, term_params}
use Rattle.core_terms.specs.Replacing.{arg_term, arg_at}
use Rattle.core_terms.specs.declared.documents.PTerm.{PTerm, roll-PTerm, fold-roll-PTerm, ind-PTerm}
use Rattle.core_terms.specs.declared.documents.PTerm.TheOpen.{PTerm-F}
use Rattle.core_terms.specs.declared.documents.PTerm.TheFolds.{map-PTerm}
use Rattle.core_terms.specs.declared.programs.CSlot.{CSlot}
use Rattle.core_terms.specs.declared.trees.CForm.{CForm}
use Rattle.core_terms.specs.declared.trees.CTerm.TheVariants.{Slot}
use Rattle.core_terms.specs.declared.trees.Range.{Range}
use Rattle.rules_table.specs.Forms.{or_any, any_of}
use Rattle.meaning_executions.specs.Counting.{count_up}
use Rattle.rules_table.specs.Numbers.{args_from, form_for}
use Rattle.safety_rules.specs.Usable.{NamesExist}
use Rattle.safety_rules.proofs.ParamLaws.{params_kept}
use Rattle.safety_rules.proofs.UsableLaws.{exist_or}
use Rattle.safety_rules.proofs.lemmas_from_wp_substitution.NamedLaws.{slot_counts, param_counts}
use Rattle.safety_rules.proofs.lemmas_from_wp_substitution.PlaceLaws.{count-Slot, count-Param, constant_within}
use Rattle.safety_rules.proofs.lemmas_from_wp_substitution.PlaceLaws.{bottom_within, form_within}
use Rattle.leadsto_rules.proofs.ArgLaws.{each_argument}

abbrev Same : PTerm → Type 0
Same t = (v : ℕ → Bool) → (parts_of t v).ranges ≡ bound_ranges t

abbrev SameRanges : Type 0
SameRanges = (t : PTerm) × Same t

abbrev trees : PTerm-F SameRanges → PTerm-F PTerm
trees y = map-PTerm SameRanges PTerm (λ g. g.0) y

layer_same : (y : PTerm-F SameRanges) (v : ℕ → Bool) →
    (parts_step (map-PTerm PTerm ((ℕ → Bool) → Parts) parts_of (trees y)) v).ranges ≡
    ranges_step (map-PTerm PTerm (List Range) bound_ranges (trees y))
layer_same (PTerm-F.Imply p q) v = refl
layer_same (PTerm-F.From r) v = refl
layer_same (PTerm-F.Trans t u) v = ap (λ rs. rs ++ (parts_of u.0 v).ranges) (t.1 v) ∙ ap (λ rs. bound_ranges t.0 ++ rs)
    (u.1 v)
layer_same (PTerm-F.Either t u) v = ap (λ rs. rs ++ (parts_of u.0 v).ranges) (t.1 v) ∙ ap (λ rs. bound_ranges t.0 ++ rs)
    (u.1 v)
layer_same (PTerm-F.Exists m range t) v = ap (λ rs. range ∷ rs) (t.1 (also m v))
layer_same (PTerm-F.Induct m range measure p q t) v = ap (λ rs. range ∷ rs) (t.1 (also m v))
layer_same (PTerm-F.Psp t r) v = append-nil (parts_of t.0 v).ranges ∙ t.1 v
layer_same (PTerm-F.Weaken p q t) v = t.1 v

layer : (y : PTerm-F SameRanges) → Same (roll-PTerm (trees y))
layer y v =
    ap (λ (f : (ℕ → Bool) → Parts). (f v).ranges) (fold-roll-PTerm ((ℕ → Bool) → Parts) parts_step (trees y))
    ∙ layer_same y v ∙ sym (fold-roll-PTerm (List Range) ranges_step (trees y))

-- whatever is visible
pub parts_ranges : (t : PTerm) → Same t
parts_ranges t = ind-PTerm Same (λ z y e. subst (λ k. Same (roll-PTerm k)) e (layer y)) t

module _ (slots : List CSlot) (ranges : List Range) where
  -- the formula at a number names what exists
  pub instance_exists : (m : ℕ) (z : ℤ) (f : CForm) → NamesExist slots ranges f →
      NamesExist slots ranges (form_for ranges m z f)
  instance_exists m z f h = record {
    slots_exist = form_within slots_step slot_counts (length slots) (λ n. Slot n) (arg_at (args_from 0 m z ranges))
        (λ n h. let is = count-Slot slots_step slot_counts n in omega (arith, is, h))
        (λ n h. each_argument (λ o. term_slots (arg_term o) ≤ length slots) m z
        (constant_within slots_step slot_counts (length slots) (pos 0))
        (constant_within slots_step slot_counts (length slots) z) ranges n
        (λ k less. let is = count-Param slots_step slot_counts k in omega (arith, is))) f h.slots_exist;
    params_exist = params_kept (length ranges) (length ranges) (λ n. Slot n) (arg_at (args_from 0 m z ranges))
        (λ n. let is = count-Slot params_step param_counts n in omega (arith, is))
        (λ n h. each_argument (λ o. term_params (arg_term o) ≤ length ranges) m z
        (constant_within params_step param_counts (length ranges) (pos 0))
        (constant_within params_step param_counts (length ranges) z) ranges n
        (λ k less. let is = count-Param params_step param_counts k in omega (arith, is, less))) f h.params_exist;
  }

  or_exists : (f : ℤ → CForm) → ((z : ℤ) → NamesExist slots ranges (f z)) → (w : CForm) → NamesExist slots ranges w →
      (z : ℤ) (n : ℕ) → NamesExist slots ranges (or_any w (map f (count_up z n)))
  or_exists f each w h z zero = h
  or_exists f each w h z (suc n) =
      or_exists f each (or_form w (f z)) (exist_or slots ranges w (f z) h (each z)) (z +ℤ pos 1) n

  -- and so does the disjunction
  pub any_exists : (f : ℤ → CForm) → ((z : ℤ) → NamesExist slots ranges (f z)) → (z : ℤ) (n : ℕ) →
      NamesExist slots ranges (any_of (map f (count_up z n)))
  any_exists f each z zero = record {
    slots_exist = bottom_within slots_step slot_counts (length slots);
    params_exist = bottom_within params_step param_counts (length ranges);
  }
  any_exists f each z (suc n) = or_exists f each (f z) (each z) (z +ℤ pos 1) n
