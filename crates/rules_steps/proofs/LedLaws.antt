-- What a proof term gives fits where the term stands.
use Rattle.std.proofs.Common.{◌≡◌, ℕ, ◌+◌, ℤ, Bool, not, ◌&&◌, List, []}
use Rattle.std.proofs.Common.{◌∷◌, ◌++◌, map, Ok, refl, sym, ◌∙◌, subst, length}
use Rattle.std.specs.Prelude.{All, nat_le, ◌^◌}
use Rattle.std.proofs.lemmas.List.Elements.{All-nil, All-cons, All-head, All-tail}
use Rattle.case_tables.specs.declared.code_table.Code.{Code}
use Rattle.core_terms.specs.declared.trees.Range.{Range}
use Rattle.core_terms.specs.declared.trees.CForm.{CForm}
use Rattle.core_terms.specs.declared.trees.CTerm.{CTerm}
use Rattle.core_terms.specs.declared.programs.CSlot.{CSlot}
use Rattle.core_terms.specs.declared.documents.Ref.{Ref}
use Rattle.core_terms.specs.declared.documents.PTerm.{PTerm, roll-PTerm, ind-PTerm}
use Rattle.core_terms.specs.declared.documents.PTerm.TheOpen.{PTerm-F}
use Rattle.core_terms.specs.declared.documents.PTerm.TheFolds.{map-PTerm}
use Rattle.core_terms.specs.declared.documents.PTerm.TheVariants.{Imply, From, Trans, Either, Exists, Induct, Psp}
use Rattle.core_terms.specs.declared.documents.PTerm.TheVariants.{Weaken, rolls-Imply, rolls-From, rolls-Trans}
use Rattle.core_terms.specs.declared.documents.PTerm.TheVariants.{rolls-Either, rolls-Exists, rolls-Induct, rolls-Psp}
use Rattle.core_terms.specs.declared.documents.PTerm.TheVariants.{rolls-Weaken}
use Rattle.core_terms.specs.declared.documents.PTerm.{fold-roll-PTerm}
use Rattle.core_terms.specs.Conditions.{FormFits, IsRange, Parts, also, bound_ranges, parts_of, parts_step}
use Rattle.core_terms.specs.Conditions.{ranges_step}
use Rattle.core_terms.specs.Folding.{or_form, not_form}
use Rattle.core_terms.specs.Places.{slots_step, params_step, names_param}
use Rattle.core_terms.specs.Trees.{same_form}
use Rattle.meaning_states.proofs.StepTheorems.{and_left, and_right}
use Rattle.safety_rules.proofs.lemmas_from_wp_substitution.PlaceLaws.{bottom_within}
use Rattle.fair_rounds.specs.declared.records.Record.{Record}
use Rattle.safety_rules.specs.from_rules_table.Forms.{any_of, imply, or_any}
use Rattle.safety_rules.specs.from_rules_table.Limits.{fits}
use Rattle.safety_rules.specs.from_rules_table.Numbers.{form_for, numbers_of}
use Rattle.safety_rules.specs.from_rules_table.Table.{Site, needs, go_on, is_unless}
use Rattle.safety_rules.specs.from_rules_table.Terms.{at_measure, below_measure, leads, leads_any, leads_by, leads_down}
use Rattle.safety_rules.specs.from_rules_table.Terms.{leads_either}
use Rattle.safety_rules.specs.from_rules_table.Terms.{leads_from, leads_on, leads_safely, leads_weaker, measure_lies}
use Rattle.safety_rules.specs.from_rules_table.Terms.{node, referred}
use Rattle.safety_rules.specs.from_rules_table.Terms.{term_of}
use Rattle.safety_rules.specs.from_rules_table.declared.led.Led.{Led}
use Rattle.safety_rules.proofs.lemmas_from_rules_table.RowEquations.{term-Imply, term-From, term-Trans, term-Either}
use Rattle.safety_rules.proofs.lemmas_from_rules_table.RowEquations.{term-Exists, term-Induct}
use Rattle.safety_rules.proofs.lemmas_from_rules_table.RowEquations.{term-Psp, term-Weaken}
use Rattle.safety_rules.proofs.lemmas_from_rules_table.EachLaws.{Each, each_join, each_parts, from_all}
use Rattle.safety_rules.proofs.lemmas_from_rules_table.SiteLaws.{met, went_on}
use Rattle.safety_rules.specs.Usable.{NamesExist}
use Rattle.safety_rules.proofs.UsableLaws.{exist_imply, exist_or, fits_exist}
use Rattle.safety_rules.proofs.lemmas_from_wp_substitution.NamedLaws.{slot_counts, param_counts}
use Rattle.safety_rules.proofs.UsableLaws.{all_exist, both_usable, light_not, usable}
use Rattle.leadsto_rules.specs.Leading.{IsTermIn, LedFits}
use Rattle.leadsto_rules.proofs.InductionLaws.{lies_exist}
use Rattle.leadsto_rules.proofs.RangeLaws.{instance_exists}
use Rattle.leadsto_rules.proofs.NodeLaws.{follows_exist, one_exists, two_exist, both_closed, both_exist, either_exists}
use Rattle.leadsto_rules.proofs.NodeLaws.{both_hold_exist, kept_exists}
use Rattle.leadsto_rules.proofs.ReferredLaws.{form_fits}
use Rattle.leadsto_rules.proofs.SeesLaws.{sees-Imply, sees-Trans, sees-Either, sees-Exists, sees-Induct, sees-Psp}
use Rattle.leadsto_rules.proofs.SeesLaws.{sees-Weaken}
use Rattle.rules_steps.specs.Using.{BookFits}
use Rattle.rules_steps.proofs.ItemLaws.{to_all}
use Rattle.rules_steps.proofs.ReferredLaws.{referred_is}

-- the names that a term binds have ranges

abbrev Ranged : PTerm → Type 0
Ranged t = (v : ℕ → Bool) → Each IsRange (parts_of t v).ranges → Each IsRange (bound_ranges t)

abbrev IsRanged : Type 0
IsRanged = (t : PTerm) × Ranged t

abbrev ranged_trees : PTerm-F IsRanged → PTerm-F PTerm
ranged_trees y = map-PTerm IsRanged PTerm (λ g. g.0) y

layer_ranged : (y : PTerm-F IsRanged) (v : ℕ → Bool) →
    Each IsRange (parts_step (map-PTerm PTerm ((ℕ → Bool) → Parts) parts_of (ranged_trees y)) v).ranges →
    Each IsRange (ranges_step (map-PTerm PTerm (List Range) bound_ranges (ranged_trees y)))
layer_ranged (PTerm-F.Imply p q) v h = tt
layer_ranged (PTerm-F.From r) v h = tt
layer_ranged (PTerm-F.Trans t u) v h =
    let both = each_parts IsRange (parts_of t.0 v).ranges (parts_of u.0 v).ranges h in
    each_join IsRange (bound_ranges t.0) (bound_ranges u.0) (t.1 v both.0) (u.1 v both.1)
layer_ranged (PTerm-F.Either t u) v h =
    let both = each_parts IsRange (parts_of t.0 v).ranges (parts_of u.0 v).ranges h in
    each_join IsRange (bound_ranges t.0) (bound_ranges u.0) (t.1 v both.0) (u.1 v both.1)
layer_ranged (PTerm-F.Exists m range t) v h = (h.0, t.1 (also m v) h.1)
layer_ranged (PTerm-F.Induct m range measure p q t) v h = (h.0, t.1 (also m v) h.1)
layer_ranged (PTerm-F.Psp t r) v h = t.1 v (each_parts IsRange (parts_of t.0 v).ranges [] h).0
layer_ranged (PTerm-F.Weaken p q t) v h = t.1 v h

rolled_ranged : (y : PTerm-F IsRanged) → Ranged (roll-PTerm (ranged_trees y))
rolled_ranged y v h =
    let x : PTerm-F PTerm = ranged_trees y in
    subst (λ rs. Each IsRange rs) (sym (fold-roll-PTerm (List Range) ranges_step x))
    (layer_ranged y v (subst (λ f. Each IsRange (f v).ranges)
    (fold-roll-PTerm ((ℕ → Bool) → Parts) parts_step x) h))

pub bound_are_ranges : (t : PTerm) (v : ℕ → Bool) → All IsRange (parts_of t v).ranges → All IsRange (bound_ranges t)
bound_are_ranges t v all =
    to_all IsRange (bound_ranges t)
    (ind-PTerm Ranged (λ z y e. subst (λ k. Ranged (roll-PTerm k)) e (rolled_ranged y)) t v
    (from_all IsRange (parts_of t v).ranges all))

-- a formula at a number

module _ (slots : List CSlot) (ranges : List Range) where
  abbrev Exist : CForm → Type 0
  Exist f = NamesExist slots ranges f

  at_numbers : (m : ℕ) (f : CForm) (zs : List ℤ) → Exist f → All Exist (map (λ z. form_for ranges m z f) zs)
  at_numbers m f [] h = All-nil Exist
  at_numbers m f (z ∷ zs) h =
      All-cons Exist (form_for ranges m z f) (map (λ z. form_for ranges m z f) zs)
      (instance_exists slots ranges m z f h) (at_numbers m f zs h)

  or_exists : (f : CForm) (fs : List CForm) → Exist f → All Exist fs → Exist (or_any f fs)
  or_exists f [] h k = h
  or_exists f (g ∷ fs) h k =
      or_exists (or_form f g) fs (exist_or slots ranges f g h (All-head Exist g fs k)) (All-tail Exist g fs k)

  some_exists : (fs : List CForm) → All Exist fs → Exist (any_of fs)
  some_exists [] h = record {
    slots_exist = bottom_within slots_step slot_counts (length slots);
    params_exist = bottom_within params_step param_counts (length ranges);
  }
  some_exists (f ∷ fs) h = or_exists f fs (All-head Exist f fs h) (All-tail Exist f fs h)

-- what a term gives

module _ (site : Site) (ranges : List Range) (all : All IsRange ranges) (book : List Record)
    (fit : BookFits site.slots book) (closed : All (FormFits site.slots []) site.using) where
  abbrev slots : List CSlot
  slots = site.slots

  abbrev Fits : PTerm → Type 0
  Fits t = IsTermIn slots ranges t → (l : Led) → term_of site ranges book t ≡ Ok l → LedFits slots ranges l

  node_fits : (l : Led) → NamesExist slots ranges l.p → NamesExist slots ranges l.q →
      All (FormFits slots []) l.under → All (NamesExist slots ranges) l.forms → (m : Led) →
      node site ranges l ≡ Ok m → LedFits slots ranges m
  node_fits l p q under forms m e =
      let one = met (nat_le l.bound (2 ^ 63)) Code.BoundTooLarge
      (needs (fits slots ranges l.p && fits slots ranges l.q) Code.FormulaTooLarge (Ok l)) m e in
      let two = met (fits slots ranges l.p && fits slots ranges l.q) Code.FormulaTooLarge (Ok l) m one.1 in
      let same : l ≡ m = cc (two.1) in
      subst (λ (x : Led). LedFits slots ranges x) same (record {
        p = form_fits slots ranges l.p (and_left (fits slots ranges l.p) (fits slots ranges l.q) two.0) p;
        q = form_fits slots ranges l.q (and_right (fits slots ranges l.p) (fits slots ranges l.q) two.0) q;
        under = under;
        forms = forms;
      })

  imply_fits : (p q : CForm) → Fits (Imply p q)
  imply_fits p q sees l e =
      let own = sees-Imply slots ranges p q sees in
      node_fits (leads_by site.using p q) (fits_exist slots ranges p own.0) (fits_exist slots ranges q own.1)
      (All-nil (FormFits slots [])) (one_exists slots ranges (imply (site.using ++ p ∷ []) q)
      (follows_exist slots ranges site.using p q closed own.0 own.1)) l
      (sym (term-Imply site ranges book p q) ∙ e)

  from_fits : (r : Ref) → Fits (From r)
  from_fits r sees l e =
      let one = went_on (referred site ranges book leads r) (λ (a : Record). node site ranges (leads_from a)) l
      (sym (term-From site ranges book r) ∙ e) in
      let a = referred_is site ranges leads book r one.0 fit all one.1 in
      node_fits (leads_from one.0) (fits_exist slots ranges one.0.p a.p) (fits_exist slots ranges one.0.q a.q)
      (to_all (FormFits slots []) one.0.under a.under)
      (All-nil (NamesExist slots ranges)) l one.2

  trans_fits : (t u : PTerm) → Fits t → Fits u → Fits (Trans t u)
  trans_fits t u first second sees l e =
      let own = sees-Trans slots ranges t u sees in
      let one = went_on (term_of site ranges book t) (λ (a : Led). go_on (term_of site ranges book u) (λ b.
      needs (same_form a.q b.p) Code.MiddleDiffers (node site ranges (leads_on a b)))) l
      (sym (term-Trans site ranges book t u) ∙ e) in
      let a : Led = one.0 in
      let two = went_on (term_of site ranges book u) (λ (b : Led).
      needs (same_form a.q b.p) Code.MiddleDiffers (node site ranges (leads_on a b))) l one.2 in
      let b : Led = two.0 in
      let done = met (same_form a.q b.p) Code.MiddleDiffers (node site ranges (leads_on a b)) l two.2 in
      let h = first own.0 a one.1 in
      let k = second own.1 b two.1 in
      node_fits (leads_on a b) (fits_exist slots ranges a.p h.p) (fits_exist slots ranges b.q k.q)
      (both_closed slots ranges a.under b.under h.under k.under)
      (both_exist slots ranges a.forms b.forms h.forms k.forms) l done.1

  either_fits : (t u : PTerm) → Fits t → Fits u → Fits (Either t u)
  either_fits t u first second sees l e =
      let own = sees-Either slots ranges t u sees in
      let one = went_on (term_of site ranges book t) (λ (a : Led). go_on (term_of site ranges book u) (λ b.
      needs (same_form a.q b.q) Code.MiddleDiffers (node site ranges (leads_either a b)))) l
      (sym (term-Either site ranges book t u) ∙ e) in
      let a : Led = one.0 in
      let two = went_on (term_of site ranges book u) (λ (b : Led).
      needs (same_form a.q b.q) Code.MiddleDiffers (node site ranges (leads_either a b))) l one.2 in
      let b : Led = two.0 in
      let done = met (same_form a.q b.q) Code.MiddleDiffers (node site ranges (leads_either a b)) l two.2 in
      let h = first own.0 a one.1 in
      let k = second own.1 b two.1 in
      node_fits (leads_either a b) (either_exists slots ranges a.p b.p h.p k.p) (fits_exist slots ranges a.q h.q)
      (both_closed slots ranges a.under b.under h.under k.under)
      (both_exist slots ranges a.forms b.forms h.forms k.forms) l done.1

  exists_fits : (m : ℕ) (range : Range) (t : PTerm) → Fits t → Fits (Exists m range t)
  exists_fits m range t part sees l e =
      let own = sees-Exists slots ranges m range t sees in
      let one = went_on (term_of site ranges book t) (λ (a : Led).
      needs (not (names_param m a.q)) Code.ParamEscapes (node site ranges (leads_any ranges m range a))) l
      (sym (term-Exists site ranges book m range t) ∙ e) in
      let a : Led = one.0 in
      let done = met (not (names_param m a.q)) Code.ParamEscapes (node site ranges (leads_any ranges m range a)) l
      one.2 in
      let h = part own.1 a one.1 in
      node_fits (leads_any ranges m range a)
      (some_exists slots ranges (map (λ z. form_for ranges m z a.p) (numbers_of range))
      (at_numbers slots ranges m a.p (numbers_of range) (fits_exist slots ranges a.p h.p)))
      (fits_exist slots ranges a.q h.q) h.under h.forms l done.1

  induct_fits : (m : ℕ) (range : Range) (measure : CTerm) (p q : CForm) (t : PTerm) → Fits t →
      Fits (Induct m range measure p q t)
  induct_fits m range measure p q t part sees l e =
      let own = sees-Induct slots ranges m range measure p q t sees in
      let test : Led → Bool = λ (a : Led).
      same_form a.p (at_measure measure m p) && same_form a.q (below_measure measure m p q) in
      let one = went_on (term_of site ranges book t) (λ (a : Led). needs (test a) Code.MiddleDiffers
      (node site ranges (leads_down site.using range measure p q a))) l
      (sym (term-Induct site ranges book m range measure p q t) ∙ e) in
      let a : Led = one.0 in
      let done = met (test a) Code.MiddleDiffers (node site ranges (leads_down site.using range measure p q a)) l
      one.2 in
      let h = part own.1 a one.1 in
      let premises : List CForm = site.using ++ (p ∷ not_form q ∷ []) in
      let form : CForm = imply premises (measure_lies measure range) in
      node_fits (leads_down site.using range measure p q a) (fits_exist slots ranges p own.0.p)
      (fits_exist slots ranges q own.0.q) h.under
      (both_exist slots ranges a.forms (form ∷ []) h.forms (one_exists slots ranges form
      (exist_imply slots ranges premises (measure_lies measure range)
      (all_exist slots ranges premises
      (both_usable slots ranges site.using p (not_form q) premises refl closed (usable slots ranges p own.0.p)
      (light_not slots ranges q (usable slots ranges q own.0.q))))
      (lies_exist slots ranges measure range own.0.measure)))) l done.1

  psp_fits : (t : PTerm) (r : Ref) → Fits t → Fits (Psp t r)
  psp_fits t r part sees l e =
      let own = sees-Psp slots ranges t r sees in
      let one = went_on (term_of site ranges book t) (λ (a : Led).
      go_on (referred site ranges book is_unless r) (λ b. node site ranges (leads_safely a b))) l
      (sym (term-Psp site ranges book t r) ∙ e) in
      let a : Led = one.0 in
      let two = went_on (referred site ranges book is_unless r) (λ (b : Record).
      node site ranges (leads_safely a b)) l one.2 in
      let b : Record = two.0 in
      let h = part own a one.1 in
      let k = referred_is site ranges is_unless book r b fit all two.1 in
      node_fits (leads_safely a b) (both_hold_exist slots ranges a.p b.p h.p k.p)
      (kept_exists slots ranges a.q b.p b.q h.q k.p k.q)
      (both_closed slots ranges a.under b.under h.under (to_all (FormFits slots []) b.under k.under)) h.forms l two.2

  weaken_fits : (p q : CForm) (t : PTerm) → Fits t → Fits (Weaken p q t)
  weaken_fits p q t part sees l e =
      let own = sees-Weaken slots ranges p q t sees in
      let one = went_on (term_of site ranges book t) (λ (a : Led).
      node site ranges (leads_weaker site.using p q a)) l (sym (term-Weaken site ranges book p q t) ∙ e) in
      let a : Led = one.0 in
      let h = part own.1 a one.1 in
      let before : CForm = imply (site.using ++ (p ∷ [])) a.p in
      let after : CForm = imply (site.using ++ (a.q ∷ [])) q in
      node_fits (leads_weaker site.using p q a) (fits_exist slots ranges p own.0.0)
      (fits_exist slots ranges q own.0.1) h.under
      (both_exist slots ranges a.forms (before ∷ after ∷ []) h.forms
      (two_exist slots ranges before after (follows_exist slots ranges site.using p a.p closed own.0.0 h.p)
      (follows_exist slots ranges site.using a.q q closed h.q own.0.1))) l one.2

  abbrev Fitting : Type 0
  Fitting = (t : PTerm) × Fits t

  layer_fits : (y : PTerm-F Fitting) → Fits (roll-PTerm (map-PTerm Fitting PTerm (λ g. g.0) y))
  layer_fits (PTerm-F.Imply p q) = subst Fits (sym (rolls-Imply p q)) (imply_fits p q)
  layer_fits (PTerm-F.From r) = subst Fits (sym (rolls-From r)) (from_fits r)
  layer_fits (PTerm-F.Trans t u) = subst Fits (sym (rolls-Trans t.0 u.0)) (trans_fits t.0 u.0 t.1 u.1)
  layer_fits (PTerm-F.Either t u) = subst Fits (sym (rolls-Either t.0 u.0)) (either_fits t.0 u.0 t.1 u.1)
  layer_fits (PTerm-F.Exists m range t) =
      subst Fits (sym (rolls-Exists m range t.0)) (exists_fits m range t.0 t.1)
  layer_fits (PTerm-F.Induct m range measure p q t) =
      subst Fits (sym (rolls-Induct m range measure p q t.0)) (induct_fits m range measure p q t.0 t.1)
  layer_fits (PTerm-F.Psp t r) = subst Fits (sym (rolls-Psp t.0 r)) (psp_fits t.0 r t.1)
  layer_fits (PTerm-F.Weaken p q t) = subst Fits (sym (rolls-Weaken p q t.0)) (weaken_fits p q t.0 t.1)

  pub term_fits : (t : PTerm) → Fits t
  term_fits t = ind-PTerm Fits (λ z y e. subst (λ k. Fits (roll-PTerm k)) e (layer_fits y)) t
