-- How many variables an obligation has, and how great its numbers are.
use Rattle.std.proofs.Common.{◌≡◌, ℕ, suc, nat_eq, nat_le, ◌+◌, ◌^◌, ◌≤◌, max, Bool, true, false, cond, not, ◌&&◌}
use Rattle.std.proofs.Common.{◌||◌}
use Rattle.std.proofs.Common.{◌⊎◌, inl, inr, Option, Some, None, List, [], ◌∷◌, length, slice_get, arith, refl, sym}
use Rattle.std.proofs.Common.{ap}
use Rattle.std.proofs.Common.{◌∙◌, subst}
use Rattle.std.specs.List.{filter, list_all}
use Rattle.std.specs.Option.{option_map}
use Rattle.std.specs.Int.RustNames.{unsigned_abs}
use Rattle.std.proofs.lemmas.Bool.{and_parts, eqb-true}
use Rattle.std.proofs.lemmas.Bool.Decides.{nat_tests}
use Rattle.core_terms.specs.declared.trees.CTerm.{CTerm, roll-CTerm, fold-roll-CTerm}
use Rattle.core_terms.specs.declared.trees.CForm.{CForm, roll-CForm, ind-CForm, fold-roll-CForm}
use Rattle.core_terms.specs.declared.trees.CForm.TheOpen.{CTerm-F, CForm-F}
use Rattle.core_terms.specs.declared.trees.CForm.TheFolds.{map-CForm, map-CTerm}
use Rattle.core_terms.specs.declared.trees.Range.{Range}
use Rattle.core_terms.specs.Sizes.{form_size, term_size, form_nodes, term_nodes}
use Rattle.core_terms.specs.Weights.{Weights, weigh_term, weigh_form, term_weights, form_weight, range_weight}
use Rattle.obligations.specs.declared.branches.Variable.{Variable}
use Rattle.obligations.specs.declared.branches.Obligation.{Obligation}
use Rattle.obligations.specs.Load.{form_load, width}
use Rattle.obligations.specs.Plain.{height_of, ranges_of}
use Rattle.obligations.specs.Scopes.{next_param}
use Rattle.obligations.specs.Variables.{has_step, part_has, term_has, form_has}
use Rattle.obligations.specs.Obligations.{is_lower, is_before, are_in_order, AreVariables, AreOwn, variable_weight}
use Rattle.obligations.specs.Obligations.{weight_of}
use Rattle.obligations.specs.Obligations.{is_sound_range, is_range, IsObligation, WeightSettles}
use Rattle.obligations.proofs.LoadWeights.{load_below_weight}
use Rattle.obligations.proofs.NeedLaws.{need-settles, width-within}
use Rattle.obligations.proofs.OrderLaws.{all-get, each-all, own-place}

-- Counts of what passes a test.
abbrev count : (Variable → Bool) → List Variable → ℕ
count p vs = length (filter p vs)

kept-same : (a b : Bool) (v : Variable) (xs ys : List Variable) → a ≡ b → length xs ≡ length ys →
    length (cond a (v ∷ xs) xs) ≡ length (cond b (v ∷ ys) ys)
kept-same true true v xs ys e h = ap suc h
kept-same true false v xs ys e h = cc
kept-same false true v xs ys e h = cc
kept-same false false v xs ys e h = h

count-same : (p q : Variable → Bool) → ((v : Variable) → p v ≡ q v) → (vs : List Variable) → count p vs ≡ count q vs
count-same p q h [] = refl
count-same p q h (v ∷ vs) = kept-same (p v) (q v) v (filter p vs) (filter q vs) (h v) (count-same p q h vs)

kept-either : (a b : Bool) (v : Variable) (xs ys zs : List Variable) → length xs ≤ length ys + length zs →
    length (cond (a || b) (v ∷ xs) xs) ≤ length (cond a (v ∷ ys) ys) + length (cond b (v ∷ zs) zs)
kept-either true true v xs ys zs h = omega (arith, h)
kept-either true false v xs ys zs h = omega (arith, h)
kept-either false true v xs ys zs h = omega (arith, h)
kept-either false false v xs ys zs h = h

count-either : (p q : Variable → Bool) (vs : List Variable) → count (λ v. p v || q v) vs ≤ count p vs + count q vs
count-either p q [] = omega arith
count-either p q (v ∷ vs) =
    kept-either (p v) (q v) v (filter (λ w. p w || q w) vs) (filter p vs) (filter q vs) (count-either p q vs)

count-none : (vs : List Variable) → count (λ v. false) vs ≡ 0
count-none [] = refl
count-none (v ∷ vs) = count-none vs

kept-whole : (b : Bool) (v : Variable) (xs vs : List Variable) → b ≡ true → length xs ≡ length vs →
    length (cond b (v ∷ xs) xs) ≡ suc (length vs)
kept-whole true v xs vs e h = ap suc h
kept-whole false v xs vs e h = cc

count-all : (p : Variable → Bool) (vs : List Variable) → list_all p vs ≡ true → count p vs ≡ length vs
count-all p [] h = refl
count-all p (v ∷ vs) h =
    let s = and_parts (p v) (list_all p vs) h in kept-whole (p v) v (filter p vs) vs s.0 (count-all p vs s.1)

-- of variables in order, at most one has a name
module _ (q : Bool) (m : ℕ) where
  abbrev is : Variable → Bool
  is v = cond q v.param (not v.param) && nat_eq m v.number

  apart : (p r : Bool) (k l : ℕ) → is_lower p k r l ≡ true → (cond q p (not p) && nat_eq m k) ≡ true →
      (cond q r (not r) && nat_eq m l) ≡ false
  apart p r k l e f = parted q p r k l e f
    where
      parted : (q p r : Bool) (k l : ℕ) → is_lower p k r l ≡ true → (cond q p (not p) && nat_eq m k) ≡ true →
          (cond q r (not r) && nat_eq m l) ≡ false
      parted true true true k l e f = grind (arith, nat_tests)
      parted true true false k l e f = refl
      parted true false r k l e f = absurd (cc)
      parted false true r k l e f = absurd (cc)
      parted false false true k l e f = refl
      parted false false false k l e f = grind (arith, nat_tests)

  none-later : (v : Variable) (vs : List Variable) → list_all (is_before v) vs ≡ true → is v ≡ true → count is vs ≡ 0
  none-later v [] o e = refl
  none-later v (w ∷ vs) o e =
      let s = and_parts (is_before v w) (list_all (is_before v) vs) o in
      ap (λ b. length (cond b (w ∷ filter is vs) (filter is vs)))
      (apart v.param w.param v.number w.number s.0 e)
      ∙ none-later v vs s.1 e

  one-here : (b : Bool) (v : Variable) (xs : List Variable) → length xs ≤ 1 → (b ≡ true → length xs ≡ 0) →
      length (cond b (v ∷ xs) xs) ≤ 1
  one-here true v xs h k = let z = k refl in omega (arith, z)
  one-here false v xs h k = h

  count-one : (vs : List Variable) → are_in_order vs ≡ true → count is vs ≤ 1
  count-one [] o = omega arith
  count-one (v ∷ vs) o =
      let s = and_parts (list_all (is_before v) vs) (are_in_order vs) o in
      one-here (is v) v (filter is vs) (count-one vs s.1) (λ e. none-later v vs s.0 e)

-- Variables in order that occur in a formula are no more than its nodes.
module _ (vs : List Variable) (order : are_in_order vs ≡ true) where
  abbrev in-form : CForm → Variable → Bool
  in-form f v = form_has v.param v.number f

  abbrev in-term : CTerm → Variable → Bool
  in-term t v = term_has v.param v.number t

  abbrev FormFew : CForm → Type 0
  FormFew f = count (in-form f) vs ≤ form_nodes f

  abbrev TermFew : CTerm → Type 0
  TermFew t = count (in-term t) vs ≤ term_nodes t

  abbrev FewForm : Type 0
  FewForm = (f : CForm) × FormFew f

  abbrev FewTerm : Type 0
  FewTerm = (t : CTerm) × TermFew t

  rolled_form : (x : CForm-F CForm CTerm) →
      count (λ v. part_has (map-CForm CForm CTerm Bool Bool (form_has v.param v.number) (term_has v.param v.number)
      x))
      vs ≤ form_size (map-CForm CForm CTerm ℕ ℕ form_nodes term_nodes x) → FormFew (roll-CForm x)
  rolled_form x h =
      let a = count-same (in-form (roll-CForm x)) _
      (λ v. fold-roll-CForm Bool Bool part_has (has_step v.param v.number) x) vs in
      let b = fold-roll-CForm ℕ ℕ form_size term_size x in
      omega (arith, a, b, h)

  rolled_term : (x : CTerm-F CForm CTerm) →
      count (λ v. has_step v.param v.number
      (map-CTerm CForm CTerm Bool Bool (form_has v.param v.number) (term_has v.param v.number) x)) vs
      ≤ term_size (map-CTerm CForm CTerm ℕ ℕ form_nodes term_nodes x) → TermFew (roll-CTerm x)
  rolled_term x h =
      let a = count-same (in-term (roll-CTerm x)) _
      (λ v. fold-roll-CTerm Bool Bool part_has (has_step v.param v.number) x) vs in
      let b = fold-roll-CTerm ℕ ℕ form_size term_size x in
      omega (arith, a, b, h)

  form_layer : (y : CForm-F FewForm FewTerm) →
      FormFew (roll-CForm (map-CForm FewForm FewTerm CForm CTerm (λ e. e.0) (λ e. e.0) y))
  form_layer CForm-F.Top = rolled_form CForm-F.Top (let z = count-none vs in omega (arith, z))
  form_layer CForm-F.Bottom = rolled_form CForm-F.Bottom (let z = count-none vs in omega (arith, z))
  form_layer (CForm-F.AtLeast t) = rolled_form (CForm-F.AtLeast t.0) (let h = t.1 in omega (arith, h))
  form_layer (CForm-F.Zero t) = rolled_form (CForm-F.Zero t.0) (let h = t.1 in omega (arith, h))
  form_layer (CForm-F.Not f) = rolled_form (CForm-F.Not f.0) (let h = f.1 in omega (arith, h))
  form_layer (CForm-F.And f g) =
      rolled_form (CForm-F.And f.0 g.0) (let h = f.1 in let k = g.1 in
      let e = count-either (in-form f.0) (in-form g.0) vs in omega (arith, h, k, e))
  form_layer (CForm-F.Or f g) =
      rolled_form (CForm-F.Or f.0 g.0) (let h = f.1 in let k = g.1 in
      let e = count-either (in-form f.0) (in-form g.0) vs in omega (arith, h, k, e))

  term_layer : (y : CTerm-F FewForm FewTerm) →
      TermFew (roll-CTerm (map-CTerm FewForm FewTerm CForm CTerm (λ e. e.0) (λ e. e.0) y))
  term_layer (CTerm-F.Const c) = rolled_term (CTerm-F.Const c) (let z = count-none vs in omega (arith, z))
  term_layer (CTerm-F.Slot m) = rolled_term (CTerm-F.Slot m) (count-one false m vs order)
  term_layer (CTerm-F.Param m) = rolled_term (CTerm-F.Param m) (count-one true m vs order)
  term_layer (CTerm-F.Add a b) =
      rolled_term (CTerm-F.Add a.0 b.0) (let h = a.1 in let k = b.1 in
      let e = count-either (in-term a.0) (in-term b.0) vs in omega (arith, h, k, e))
  term_layer (CTerm-F.Sub a b) =
      rolled_term (CTerm-F.Sub a.0 b.0) (let h = a.1 in let k = b.1 in
      let e = count-either (in-term a.0) (in-term b.0) vs in omega (arith, h, k, e))
  term_layer (CTerm-F.Scale k a) = rolled_term (CTerm-F.Scale k a.0) (let h = a.1 in omega (arith, h))
  term_layer (CTerm-F.Div a k) = rolled_term (CTerm-F.Div a.0 k) (let h = a.1 in omega (arith, h))
  term_layer (CTerm-F.Mod a k) = rolled_term (CTerm-F.Mod a.0 k) (let h = a.1 in omega (arith, h))
  term_layer (CTerm-F.Ite c a b) =
      rolled_term (CTerm-F.Ite c.0 a.0 b.0) (let h = c.1 in let k = a.1 in let l = b.1 in
      let d = count-either (in-form c.0) (λ v. in-term a.0 v || in-term b.0 v) vs in
      let e = count-either (in-term a.0) (in-term b.0) vs in omega (arith, h, k, l, d, e))

  few-occur : (f : CForm) → FormFew f
  few-occur f =
      ind-CForm FormFew TermFew (λ x y e. subst (λ z. FormFew (roll-CForm z)) e (form_layer y))
      (λ x y e. subst (λ z. TermFew (roll-CTerm z)) e (term_layer y)) f

  pub few-variables : (f : CForm) → list_all (λ (v : Variable). form_has v.param v.number f) vs ≡ true →
      length vs ≤ form_nodes f
  few-variables f h = let e = count-all (in-form f) vs h in let k = few-occur f in omega (arith, e, k)

-- What occurs weighs no more than the formula.
module _ (slots params : ℕ → ℕ) (param : Bool) (n : ℕ) where
  abbrev own : ℕ
  own = cond param params slots n

  abbrev FormWeighs : CForm → Type 0
  FormWeighs f = form_has param n f ≡ true → own ≤ form_weight slots params f

  abbrev TermWeighs : CTerm → Type 0
  TermWeighs t = term_has param n t ≡ true → own ≤ (term_weights slots params t).most

  abbrev WeighsForm : Type 0
  WeighsForm = (f : CForm) × FormWeighs f

  abbrev WeighsTerm : Type 0
  WeighsTerm = (t : CTerm) × TermWeighs t

  weighed_form : (x : CForm-F CForm CTerm) →
      (part_has (map-CForm CForm CTerm Bool Bool (form_has param n) (term_has param n) x) ≡ true →
      own ≤ weigh_form (map-CForm CForm CTerm ℕ Weights (form_weight slots params) (term_weights slots params) x)) →
      FormWeighs (roll-CForm x)
  weighed_form x h e =
      subst (λ m. own ≤ m) (sym (fold-roll-CForm ℕ Weights weigh_form (weigh_term slots params) x))
      (h (sym (fold-roll-CForm Bool Bool part_has (has_step param n) x) ∙ e))

  weighed_term : (x : CTerm-F CForm CTerm) →
      (has_step param n (map-CTerm CForm CTerm Bool Bool (form_has param n) (term_has param n) x) ≡ true →
      own ≤ (weigh_term slots params
      (map-CTerm CForm CTerm ℕ Weights (form_weight slots params) (term_weights slots params) x)).most) →
      TermWeighs (roll-CTerm x)
  weighed_term x h e =
      subst (λ (w : Weights). own ≤ w.most) (sym (fold-roll-CTerm ℕ Weights weigh_form (weigh_term slots params) x))
      (h (sym (fold-roll-CTerm Bool Bool part_has (has_step param n) x) ∙ e))

  or_cases : (a b : Bool) → (a || b) ≡ true → (a ≡ true) ⊎ (b ≡ true)
  or_cases true b e = inl refl
  or_cases false b e = inr e

  either-weighs : (a b : Bool) (k l : ℕ) → (a ≡ true → own ≤ k) → (b ≡ true → own ≤ l) → (a || b) ≡ true →
      own ≤ max k l
  either-weighs a b k l h j e = elim (or_cases a b e) [
    | inl q ↦ let s = h q in omega (arith, s)
    | inr q ↦ let s = j q in omega (arith, s)
  ]

  above : (k l : ℕ) → own ≤ k → own ≤ max l k
  above k l h = omega (arith, h)

  named-slot : (p : Bool) (m : ℕ) → (not p && nat_eq m n) ≡ true → cond p params slots n ≤ max (slots m) 0
  named-slot true m e = absurd (cc)
  named-slot false m e = let s = ap slots (eqb-true m n e) in omega (arith, s)

  named-param : (p : Bool) (m : ℕ) → (p && nat_eq m n) ≡ true → cond p params slots n ≤ max (params m) 0
  named-param true m e = let s = ap params (eqb-true m n e) in omega (arith, s)
  named-param false m e = absurd (cc)

  weighs_form_layer : (y : CForm-F WeighsForm WeighsTerm) →
      FormWeighs (roll-CForm (map-CForm WeighsForm WeighsTerm CForm CTerm (λ e. e.0) (λ e. e.0) y))
  weighs_form_layer CForm-F.Top = weighed_form CForm-F.Top (λ e. absurd (cc))
  weighs_form_layer CForm-F.Bottom = weighed_form CForm-F.Bottom (λ e. absurd (cc))
  weighs_form_layer (CForm-F.AtLeast t) = weighed_form (CForm-F.AtLeast t.0) t.1
  weighs_form_layer (CForm-F.Zero t) = weighed_form (CForm-F.Zero t.0) t.1
  weighs_form_layer (CForm-F.Not f) = weighed_form (CForm-F.Not f.0) f.1
  weighs_form_layer (CForm-F.And f g) = weighed_form (CForm-F.And f.0 g.0) (either-weighs _ _ _ _ f.1 g.1)
  weighs_form_layer (CForm-F.Or f g) = weighed_form (CForm-F.Or f.0 g.0) (either-weighs _ _ _ _ f.1 g.1)

  weighs_term_layer : (y : CTerm-F WeighsForm WeighsTerm) →
      TermWeighs (roll-CTerm (map-CTerm WeighsForm WeighsTerm CForm CTerm (λ e. e.0) (λ e. e.0) y))
  weighs_term_layer (CTerm-F.Const c) = weighed_term (CTerm-F.Const c) (λ e. absurd (cc))
  weighs_term_layer (CTerm-F.Slot m) = weighed_term (CTerm-F.Slot m) (named-slot param m)
  weighs_term_layer (CTerm-F.Param m) = weighed_term (CTerm-F.Param m) (named-param param m)
  weighs_term_layer (CTerm-F.Add a b) =
      weighed_term (CTerm-F.Add a.0 b.0) (λ e. above _ _ (either-weighs _ _ _ _ a.1 b.1 e))
  weighs_term_layer (CTerm-F.Sub a b) =
      weighed_term (CTerm-F.Sub a.0 b.0) (λ e. above _ _ (either-weighs _ _ _ _ a.1 b.1 e))
  weighs_term_layer (CTerm-F.Scale k a) = weighed_term (CTerm-F.Scale k a.0) (λ e. above _ _ (a.1 e))
  weighs_term_layer (CTerm-F.Div a k) =
      weighed_term (CTerm-F.Div a.0 k) (λ e. above _ _ (above _ _ (a.1 e)))
  weighs_term_layer (CTerm-F.Mod a k) =
      weighed_term (CTerm-F.Mod a.0 k) (λ e. above _ _ (above _ _ (a.1 e)))
  weighs_term_layer (CTerm-F.Ite c a b) =
      weighed_term (CTerm-F.Ite c.0 a.0 b.0)
      (λ e. above _ _ (either-weighs _ _ _ _ c.1 (either-weighs _ _ _ _ a.1 b.1) e))

  has-weighs : (f : CForm) → FormWeighs f
  has-weighs f =
      ind-CForm FormWeighs TermWeighs (λ x y e. subst (λ z. FormWeighs (roll-CForm z)) e (weighs_form_layer y))
      (λ x y e. subst (λ z. TermWeighs (roll-CTerm z)) e (weighs_term_layer y)) f

-- What an obligation's limits say.
le-is : (a b : ℕ) → nat_le a b ≡ true → a ≤ b
le-is a b h = grind arith

some-weight : (r : Option Range) → 1 ≤ range_weight r
some-weight None = omega arith
some-weight (Some r) = omega arith

module _ (o : Obligation) (is : IsObligation o) where
  pub obligation-height : height_of o ≤ 960
  obligation-height = le-is _ _ (and_parts (nat_le (height_of o) 960) _ is.limits).0

  pub obligation-size : form_nodes o.form ≤ 65536
  obligation-size =
      le-is _ _ (and_parts (nat_le (form_nodes o.form) 65536) _
      (and_parts (nat_le (height_of o) 960) _ is.limits).1).0

  pub obligation-weight : weight_of o ≤ 2 ^ 62
  obligation-weight =
      le-is _ _ (and_parts (nat_le (form_nodes o.form) 65536) _
      (and_parts (nat_le (height_of o) 960) _ is.limits).1).1

  pub obligation-count : length o.variables ≤ 65536
  obligation-count =
      let few = few-variables o.variables is.order o.form is.occurring in
      let small = obligation-size in omega (arith, few, small)

  pub obligation-variables : AreVariables o.variables
  obligation-variables = let few = obligation-count in record { count = omega (arith, few); order = is.order }

  pub obligation-own : next_param o.variables ≤ 2 ^ 31 → AreOwn o.variables
  obligation-own numbered = let few = obligation-count in record {
    variables = obligation-variables;
    few = omega (arith, few);
    numbered = numbered;
  }

  pub obligation-load : form_load o.form ≤ 2 ^ 62
  obligation-load =
      let load = load_below_weight (variable_weight o.variables false) (variable_weight o.variables true)
      (λ n. some-weight _) (λ n. some-weight _) o.form in
      let weight = obligation-weight in omega (arith, load, weight)

  pub obligation-narrow : (width o.form).no ≤ 2 ^ 62
  obligation-narrow = let w = width-within o.form in let l = obligation-load in omega (arith, w, l)

  own-weight : (i : ℕ) (v : Variable) → slice_get o.variables i ≡ Some v → range_weight (Some v.range) ≤ 2 ^ 62
  own-weight i v e =
      let has = all-get (λ (w : Variable). form_has w.param w.number o.form) o.variables i v e is.occurring in
      let weighs = has-weighs (variable_weight o.variables false) (variable_weight o.variables true) v.param v.number
      o.form has in
      let place = own-place o.variables i v is.order e in
      let same : variable_weight o.variables v.param v.number ≡ range_weight (Some v.range) =
      ap (λ k. range_weight (option_map (λ (w : Variable). w.range) (slice_get o.variables k))) place
      ∙ ap (λ x. range_weight (option_map (λ (w : Variable). w.range) x)) e in
      let picks = picked v.param v.number in
      let weight = obligation-weight in
      omega (arith, weighs, same, picks, weight)
    where
      picked : (p : Bool) (n : ℕ) → cond p (variable_weight o.variables true) (variable_weight o.variables false) n
          ≡ variable_weight o.variables p n
      picked true n = refl
      picked false n = refl

  le-true : (a b : ℕ) → a ≤ b → nat_le a b ≡ true
  le-true a b h = grind arith

  pub obligation-sound : list_all is_sound_range (ranges_of o.variables) ≡ true
  obligation-sound = each-range o.variables (each-all (λ (v : Variable). is_sound_range v.range) o.variables
      (λ i v e. let w = own-weight i v e in
      let r = all-get (λ (x : Variable). is_range x.range) o.variables i v e is.ranges in
      ap (λ z. z && (nat_le (unsigned_abs v.range.lo) (2 ^ 62) && nat_le (unsigned_abs v.range.hi) (2 ^ 62))) r
      ∙ ap (λ z. z && nat_le (unsigned_abs v.range.hi) (2 ^ 62))
      (le-true (unsigned_abs v.range.lo) (2 ^ 62) (omega (arith, w)))
      ∙ le-true (unsigned_abs v.range.hi) (2 ^ 62) (omega (arith, w))))
    where
      each-range : (vs : List Variable) → list_all (λ (v : Variable). is_sound_range v.range) vs ≡ true →
          list_all is_sound_range (ranges_of vs) ≡ true
      each-range [] h = refl
      each-range (v ∷ vs) h =
          let s = and_parts (is_sound_range v.range) (list_all (λ (v : Variable). is_sound_range v.range) vs) h in
          ap (λ z. z && list_all is_sound_range (ranges_of vs)) s.0 ∙ each-range vs s.1

-- a weight that suffices for settling
pub weight-settles : WeightSettles
weight-settles slots params s p f =
    let light = load_below_weight slots params s p f in
    let n = need-settles f in
    omega (arith, light, n)
