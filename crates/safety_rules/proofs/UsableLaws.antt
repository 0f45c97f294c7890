-- Formulas that are made of usable ones are usable.
use Rattle.std.proofs.Common.{◌≡◌, ℕ, ◌≤◌, ◌^◌, max, List, [], ◌∷◌, ◌++◌, length, Some, None, refl, sym, ap, ◌∙◌}
use Rattle.std.proofs.Common.{◌<◌, slice_index_or, subst, arith}
use Rattle.std.specs.Prelude.{All}
use Rattle.std.proofs.lemmas.List.Elements.{All-nil, All-cons, All-head, All-tail, All-append, All-push, All-weaker}
use Rattle.std.proofs.lemmas.List.Elements.{All-get_or}
use Rattle.core_terms.specs.declared.trees.Range.{Range}
use Rattle.core_terms.specs.declared.trees.CForm.{CForm, fold-roll-CForm}
use Rattle.core_terms.specs.declared.trees.CForm.TheVariants.{Not, And, Or, rolls-Not, rolls-And, rolls-Or}
use Rattle.core_terms.specs.declared.trees.CForm.TheOpen.{CForm-F}
use Rattle.core_terms.proofs.WeightLaws.{folded_form_lighter}
use Rattle.core_terms.specs.declared.programs.CSlot.{CSlot}
use Rattle.core_terms.specs.declared.programs.CStmt.{CStmt}
use Rattle.core_terms.specs.Places.{slots_step, params_step, form_slots, term_slots}
use Rattle.core_terms.specs.Conditions.{FormFits, WriteFits, StatementFits}
use Rattle.core_terms.specs.Folding.{and_form, or_form, not_form}
use Rattle.core_terms.specs.Weights.{Weights, weigh_form, weigh_term, one_weight, plain_weight}
use Rattle.wp_substitution.specs.Preconditions.{and_all, defined_form, wp_form}
use Rattle.wp_substitution.specs.Joined.{IsLight, joined_all}
use Rattle.wp_substitution.proofs.PlaceLaws.{not_within, and_within, or_within}
use Rattle.wp_substitution.proofs.NamedLaws.{slot_counts, param_counts, defined_below, defined_params, wp_slots}
use Rattle.wp_substitution.proofs.NamedLaws.{wp_params}
use Rattle.wp_substitution.proofs.LightLaws.{form_light}
use Rattle.fixed_points.specs.FixedForms.{fixed_part}
use Rattle.fixed_points.proofs.NamedLaws.{part_slots, part_params}
use Rattle.rules_table.specs.Forms.{imply}
use Rattle.rules_table.specs.Table.{ends_of_both, ends_of_either}
use Rattle.safety_rules.specs.Premises.{implied_by}
use Rattle.safety_rules.specs.Usable.{NamesExist, IsUsable}

module _ (slots : List CSlot) (params : List Range) where
  abbrev Exist : CForm → Type 0
  Exist f = NamesExist slots params f

  pub exist_not : (f : CForm) → Exist f → Exist (not_form f)
  exist_not f h = record {
    slots_exist = not_within slots_step slot_counts (length slots) f h.slots_exist;
    params_exist = not_within params_step param_counts (length params) f h.params_exist;
  }

  pub exist_and : (f g : CForm) → Exist f → Exist g → Exist (and_form f g)
  exist_and f g h k = record {
    slots_exist = and_within slots_step slot_counts (length slots) f g h.slots_exist k.slots_exist;
    params_exist = and_within params_step param_counts (length params) f g h.params_exist k.params_exist;
  }

  pub exist_or : (f g : CForm) → Exist f → Exist g → Exist (or_form f g)
  exist_or f g h k = record {
    slots_exist = or_within slots_step slot_counts (length slots) f g h.slots_exist k.slots_exist;
    params_exist = or_within params_step param_counts (length params) f g h.params_exist k.params_exist;
  }

  exist_all : (f : CForm) (fs : List CForm) → Exist f → All Exist fs → Exist (and_all f fs)
  exist_all f [] h k = h
  exist_all f (g ∷ fs) h k =
      exist_all (and_form f g) fs (exist_and f g h (All-head Exist g fs k)) (All-tail Exist g fs k)

  pub exist_imply : (fs : List CForm) (q : CForm) → All Exist fs → Exist q → Exist (imply fs q)
  exist_imply [] q h k = k
  exist_imply (f ∷ fs) q h k =
      exist_or (not_form (and_all f fs)) q
      (exist_not (and_all f fs) (exist_all f fs (All-head Exist f fs h) (All-tail Exist f fs h))) k

  pub exist_wp : (s : CStmt) (q : CForm) → StatementFits slots s → Exist q → Exist (wp_form slots s q)
  exist_wp s q fits h = record {
    slots_exist = wp_slots slots s q fits h.slots_exist;
    params_exist = let less = wp_params slots s q fits in let few = h.params_exist in omega (arith, less, few);
  }

  pub exist_defined : (s : CStmt) → StatementFits slots s → Exist (defined_form slots s)
  exist_defined s fits = record {
    slots_exist = defined_below slots_step slot_counts (length slots) slots s
        (All-weaker (FormFits slots []) (λ f. form_slots f ≤ length slots)
        (λ f g. g.slots_exist) s.outside fits.outside)
        (All-weaker (WriteFits slots) (λ w. (form_slots w.when ≤ length slots) × (term_slots w.value ≤ length slots))
        (λ w g. (g.condition.slots_exist, g.value.slots_exist)) s.writes fits.writes);
    params_exist = let none = defined_params slots s fits in omega (arith, none);
  }

  pub exist_part : (s : CStmt) → StatementFits slots s → Exist (fixed_part slots s)
  exist_part s fits = record {
    slots_exist = part_slots slots s fits;
    params_exist = let none = part_params slots s fits in omega (arith, none);
  }

  pub usable : (f : CForm) → FormFits slots params f → IsUsable slots params f
  usable f fits = record {
    names = record { slots_exist = fits.slots_exist; params_exist = fits.params_exist };
    light = form_light slots params f fits;
  }

  -- a formula without parameters is usable beside any
  pub usable_closed : (f : CForm) → FormFits slots [] f → IsUsable slots params f
  usable_closed f fits = record {
    names = record {
      slots_exist = fits.slots_exist;
      params_exist = let none = fits.params_exist in omega (arith, none);
    };
    light = form_light slots [] f fits;
  }

  pub all_usable : (fs : List CForm) → All (FormFits slots []) fs → All (IsUsable slots params) fs
  all_usable fs h = All-weaker (FormFits slots []) (IsUsable slots params) usable_closed fs h

  pub all_light : (fs : List CForm) → All (IsUsable slots params) fs → All IsLight fs
  all_light fs h = All-weaker (IsUsable slots params) IsLight (λ f u. u.light) fs h

  pub all_exist : (fs : List CForm) → All (IsUsable slots params) fs → All Exist fs
  all_exist fs h = All-weaker (IsUsable slots params) Exist (λ f u. u.names) fs h

-- premises that are joined one after the other
after_first : (f : CForm) (fs : List CForm) → joined_all (Some f) fs ≡ Some (and_all f fs)
after_first f [] = refl
after_first f (g ∷ fs) = after_first (and_form f g) fs

pub imply-is : (fs : List CForm) (q : CForm) → implied_by (joined_all None fs) q ≡ imply fs q
imply-is [] q = refl
imply-is (f ∷ fs) q = subst (λ o. implied_by o q ≡ imply (f ∷ fs) q) (sym (after_first f fs)) refl

weight-Not : (f : CForm) → plain_weight (Not f) ≡ plain_weight f
weight-Not f =
    ap plain_weight (sym (rolls-Not f)) ∙ fold-roll-CForm ℕ Weights weigh_form (weigh_term one_weight one_weight)
    (CForm-F.Not f)

weight-And : (f g : CForm) → plain_weight (And f g) ≡ max (plain_weight f) (plain_weight g)
weight-And f g =
    ap plain_weight (sym (rolls-And f g))
    ∙ fold-roll-CForm ℕ Weights weigh_form (weigh_term one_weight one_weight) (CForm-F.And f g)

pub weight-Or : (f g : CForm) → plain_weight (Or f g) ≡ max (plain_weight f) (plain_weight g)
weight-Or f g =
    ap plain_weight (sym (rolls-Or f g))
    ∙ fold-roll-CForm ℕ Weights weigh_form (weigh_term one_weight one_weight) (CForm-F.Or f g)

-- weights of folded formulas are those of their parts at most

pub light_not : (slots : List CSlot) (params : List Range) (f : CForm) → IsUsable slots params f →
    IsUsable slots params (not_form f)
light_not slots params f u = record {
  names = exist_not slots params f u.names;
  light = let less = folded_form_lighter one_weight one_weight (Not f) in let is = weight-Not f in
      let light = u.light in omega (arith, less, is, light);
}

pub light_or : (slots : List CSlot) (params : List Range) (f g : CForm) → IsUsable slots params f →
    IsUsable slots params g → IsUsable slots params (or_form f g)
light_or slots params f g u v = record {
  names = exist_or slots params f g u.names v.names;
  light = let less = folded_form_lighter one_weight one_weight (Or f g) in let is = weight-Or f g in
      let one = u.light in let two = v.light in omega (arith, less, is, one, two);
}

pub light_and : (slots : List CSlot) (params : List Range) (f g : CForm) → IsUsable slots params f →
    IsUsable slots params g → IsUsable slots params (and_form f g)
light_and slots params f g u v = record {
  names = exist_and slots params f g u.names v.names;
  light = let less = folded_form_lighter one_weight one_weight (And f g) in let is = weight-And f g in
      let one = u.light in let two = v.light in omega (arith, less, is, one, two);
}

pub pushed_usable : (slots : List CSlot) (params : List Range) (using : List CForm) (p : CForm) (all : List CForm) →
    all ≡ using ++ p ∷ [] → All (FormFits slots []) using → IsUsable slots params p → All (IsUsable slots params) all
pushed_usable slots params using p all is fits u =
    subst (λ fs. All (IsUsable slots params) fs) (sym is)
    (All-push (IsUsable slots params) using p (all_usable slots params using fits) u)

pub both_usable : (slots : List CSlot) (params : List Range) (using : List CForm) (p f : CForm) (all : List CForm) →
    all ≡ using ++ (p ∷ f ∷ []) → All (FormFits slots []) using → IsUsable slots params p → IsUsable slots params f →
    All (IsUsable slots params) all
both_usable slots params using p f all is fits u v =
    subst (λ fs. All (IsUsable slots params) fs) (sym is)
    (All-append (IsUsable slots params) using (p ∷ f ∷ []) (all_usable slots params using fits)
    (All-cons (IsUsable slots params) p (f ∷ []) u
    (All-cons (IsUsable slots params) f [] v (All-nil (IsUsable slots params)))))

-- what fits together

pub fits_max : (slots : List CSlot) (params : List Range) (f g : CForm) → FormFits slots params f →
    FormFits slots params g → max (plain_weight f) (plain_weight g) ≤ 2 ^ 62
fits_max slots params f g h k =
    let one = (usable slots params f h).light in let two = (usable slots params g k).light in omega (arith, one, two)

pub fits_exist : (slots : List CSlot) (params : List Range) (f : CForm) → FormFits slots params f →
    NamesExist slots params f
fits_exist slots params f h = (usable slots params f h).names

pub exist_ends : (slots : List CSlot) (params : List Range) (p q r s : CForm) → NamesExist slots params p →
    NamesExist slots params q → NamesExist slots params r → NamesExist slots params s →
    NamesExist slots params (ends_of_both p q r s)
exist_ends slots params p q r s hp hq hr hs =
    exist_or slots params (or_form (and_form p s) (and_form r q)) (and_form q s)
    (exist_or slots params (and_form p s) (and_form r q) (exist_and slots params p s hp hs)
    (exist_and slots params r q hr hq)) (exist_and slots params q s hq hs)

pub exist_other_ends : (slots : List CSlot) (params : List Range) (p q r s : CForm) → NamesExist slots params p →
    NamesExist slots params q → NamesExist slots params r → NamesExist slots params s →
    NamesExist slots params (ends_of_either p q r s)
exist_other_ends slots params p q r s hp hq hr hs =
    exist_or slots params (or_form (and_form (not_form p) s) (and_form (not_form r) q)) (and_form q s)
    (exist_or slots params (and_form (not_form p) s) (and_form (not_form r) q)
    (exist_and slots params (not_form p) s (exist_not slots params p hp) hs)
    (exist_and slots params (not_form r) q (exist_not slots params r hr) hq)) (exist_and slots params q s hq hs)

-- a statement of a list whose statements all fit
pub item_fits : (slots : List CSlot) (items all : List CStmt) (i : ℕ) (s : CStmt) → s ≡ slice_index_or items i s →
    i < length items → items ≡ all → All (StatementFits slots) all → StatementFits slots s
item_fits slots items all i s item less same fits =
    subst (λ t. StatementFits slots t) (sym item)
    (All-get_or (StatementFits slots) items i s less (subst (λ ss. All (StatementFits slots) ss) (sym same) fits))

-- what is read of a shared item is the item
pub read_is : {X : Type 0} (items : List X) (i : ℕ) (item s : X) → s ≡ item → item ≡ slice_index_or items i item →
    s ≡ slice_index_or items i s
read_is items i item s same is = subst (λ t. t ≡ slice_index_or items i t) (sym same) is

-- what a call made of fitting formulas
module _ (slots : List CSlot) (params : List Range) where
  made_exist : (f g : CForm) → f ≡ g → NamesExist slots params g → NamesExist slots params f
  made_exist f g e h = subst (λ x. NamesExist slots params x) (sym e) h

  pub fits_itself : (f g : CForm) → FormFits slots params g → f ≡ g → NamesExist slots params f
  fits_itself f g u e = made_exist f g e (fits_exist slots params g u)

  pub fits_or : (f p q : CForm) → FormFits slots params p → FormFits slots params q → f ≡ or_form p q →
      NamesExist slots params f
  fits_or f p q u v e = made_exist f (or_form p q) e
      (exist_or slots params p q (fits_exist slots params p u) (fits_exist slots params q v))

  pub fits_and : (f p q : CForm) → FormFits slots params p → FormFits slots params q → f ≡ and_form p q →
      NamesExist slots params f
  fits_and f p q u v e = made_exist f (and_form p q) e
      (exist_and slots params p q (fits_exist slots params p u) (fits_exist slots params q v))

  pub fits_ends : (f p q r s : CForm) → FormFits slots params p → FormFits slots params q →
      FormFits slots params r → FormFits slots params s → f ≡ ends_of_both p q r s → NamesExist slots params f
  fits_ends f p q r s hp hq hr hs e = made_exist f (ends_of_both p q r s) e
      (exist_ends slots params p q r s (fits_exist slots params p hp) (fits_exist slots params q hq)
      (fits_exist slots params r hr) (fits_exist slots params s hs))

  pub fits_other_ends : (f p q r s : CForm) → FormFits slots params p → FormFits slots params q →
      FormFits slots params r → FormFits slots params s → f ≡ ends_of_either p q r s → NamesExist slots params f
  fits_other_ends f p q r s hp hq hr hs e = made_exist f (ends_of_either p q r s) e
      (exist_other_ends slots params p q r s (fits_exist slots params p hp) (fits_exist slots params q hq)
      (fits_exist slots params r hr) (fits_exist slots params s hs))
