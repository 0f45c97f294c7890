-- What `make` gives is an obligation, and how great an obligation's numbers are.
use Rattle.std.proofs.Common.{◌≡◌, ℕ, zero, suc, nat_eq, nat_le, ◌+◌, ◌^◌, ◌<◌, ◌≤◌, max, ℤ, ◌≤ℤ◌, Bool, true, false}
use Rattle.std.proofs.Common.{cond, not, ◌&&◌, ◌||◌, ◌⊎◌, inl, inr, Some, List, [], ◌∷◌, ◌++◌, length, slice_get}
use Rattle.std.proofs.Common.{eq-eqb, All, arith, refl, sym, ap, ◌∙◌, subst}
use Rattle.std.specs.List.{filter, list_all, list_any}
use Rattle.std.specs.Option.{option_map}
use Rattle.std.specs.Int.RustNames.{int_le}
use Rattle.std.proofs.lemmas.Bool.{eqb-true, and_parts}
use Rattle.std.proofs.lemmas.Int.{ints}
use Rattle.std.proofs.lemmas.Option.{slice_get-map}
use Rattle.std.proofs.lemmas.List.{length-map}
use Rattle.std.proofs.lemmas.List.Folds.{list_all-append, list_any-append}
use Rattle.core_terms.specs.declared.trees.CTerm.{CTerm, roll-CTerm, fold-roll-CTerm}
use Rattle.core_terms.specs.declared.trees.CForm.{CForm, roll-CForm, ind-CForm, fold-roll-CForm}
use Rattle.core_terms.specs.declared.trees.CForm.TheOpen.{CTerm-F, CForm-F}
use Rattle.core_terms.specs.declared.trees.CForm.TheFolds.{map-CForm, map-CTerm}
use Rattle.core_terms.specs.declared.trees.Range.{Range}
use Rattle.core_terms.specs.declared.programs.CSlot.{CSlot}
use Rattle.core_terms.specs.Sizes.{form_nodes}
use Rattle.core_terms.specs.Places.{slots_step, params_step, greatest_part, term_slots, form_slots, term_params}
use Rattle.core_terms.specs.Places.{form_params}
use Rattle.core_terms.specs.Weights.{Weights, weigh_term, weigh_form, form_weight, range_weight}
use Rattle.core_terms.specs.Weights.{place_weight, slot_weight}
use Rattle.core_terms.proofs.TreeFolds.{Steps}
use Rattle.obligations.specs.declared.branches.Variable.{Variable}
use Rattle.obligations.specs.declared.branches.Obligation.{Obligation}
use Rattle.obligations.specs.LinearForms.{is_named, place_of}
use Rattle.obligations.specs.Plain.{height_of}
use Rattle.obligations.specs.Variables.{has_step, part_has, term_has, form_has, numbered, occurring, variables_of}
use Rattle.obligations.specs.Variables.{obligation_of, slot_ranges}
use Rattle.obligations.specs.Obligations.{variable_weight, weight_of, is_within_limits, is_range, IsObligation}
use Rattle.obligations.proofs.FrameLaws.{or_right, is_here, form_same}
use Rattle.obligations.proofs.VariableLaws.{is-variable}
use Rattle.obligations.proofs.OrderLaws.{filter-all, filter-passes, variables-order}

-- Laws of truth values, by cases.
or_cases : (a b : Bool) → (a || b) ≡ true → (a ≡ true) ⊎ (b ≡ true)
or_cases true b e = inl refl
or_cases false b e = inr e

-- What occurs has a place below the greatest.
module _ (n : ℕ) where
  record FormBelow (f : CForm) : Type 0 where
    slot : form_has false n f ≡ true → n < form_slots f
    param : form_has true n f ≡ true → n < form_params f

  record TermBelow (t : CTerm) : Type 0 where
    slot : term_has false n t ≡ true → n < term_slots t
    param : term_has true n t ≡ true → n < term_params t

  abbrev BelowForm : Type 0
  BelowForm = (f : CForm) × FormBelow f

  abbrev BelowTerm : Type 0
  BelowTerm = (t : CTerm) × TermBelow t

  below_form : (x : CForm-F CForm CTerm) →
      (part_has (map-CForm CForm CTerm Bool Bool (form_has false n) (term_has false n) x) ≡ true →
      n < greatest_part (map-CForm CForm CTerm ℕ ℕ form_slots term_slots x)) →
      (part_has (map-CForm CForm CTerm Bool Bool (form_has true n) (term_has true n) x) ≡ true →
      n < greatest_part (map-CForm CForm CTerm ℕ ℕ form_params term_params x)) → FormBelow (roll-CForm x)
  below_form x h k = record {
    slot =
        λ e. subst (λ m. n < m) (sym (fold-roll-CForm ℕ ℕ greatest_part slots_step x))
        (h (sym (fold-roll-CForm Bool Bool part_has (has_step false n) x) ∙ e));
    param =
        λ e. subst (λ m. n < m) (sym (fold-roll-CForm ℕ ℕ greatest_part params_step x))
        (k (sym (fold-roll-CForm Bool Bool part_has (has_step true n) x) ∙ e));
  }

  below_term : (x : CTerm-F CForm CTerm) →
      (has_step false n (map-CTerm CForm CTerm Bool Bool (form_has false n) (term_has false n) x) ≡ true →
      n < slots_step (map-CTerm CForm CTerm ℕ ℕ form_slots term_slots x)) →
      (has_step true n (map-CTerm CForm CTerm Bool Bool (form_has true n) (term_has true n) x) ≡ true →
      n < params_step (map-CTerm CForm CTerm ℕ ℕ form_params term_params x)) → TermBelow (roll-CTerm x)
  below_term x h k = record {
    slot =
        λ e. subst (λ m. n < m) (sym (fold-roll-CTerm ℕ ℕ greatest_part slots_step x))
        (h (sym (fold-roll-CTerm Bool Bool part_has (has_step false n) x) ∙ e));
    param =
        λ e. subst (λ m. n < m) (sym (fold-roll-CTerm ℕ ℕ greatest_part params_step x))
        (k (sym (fold-roll-CTerm Bool Bool part_has (has_step true n) x) ∙ e));
  }

  either-below : (a b : Bool) (k l : ℕ) → (a ≡ true → n < k) → (b ≡ true → n < l) → (a || b) ≡ true → n < max k l
  either-below a b k l h j e = elim (or_cases a b e) [
    | inl q ↦ let s = h q in omega (arith, s)
    | inr q ↦ let s = j q in omega (arith, s)
  ]

  named-below : (m : ℕ) → nat_eq m n ≡ true → n < m + 1
  named-below m e = let s = eqb-true m n e in omega (arith, s)

  form_layer : (y : CForm-F BelowForm BelowTerm) →
      FormBelow (roll-CForm (map-CForm BelowForm BelowTerm CForm CTerm (λ e. e.0) (λ e. e.0) y))
  form_layer CForm-F.Top = below_form CForm-F.Top (λ e. absurd (cc)) (λ e. absurd (cc))
  form_layer CForm-F.Bottom = below_form CForm-F.Bottom (λ e. absurd (cc)) (λ e. absurd (cc))
  form_layer (CForm-F.AtLeast t) = below_form (CForm-F.AtLeast t.0) t.1.slot t.1.param
  form_layer (CForm-F.Zero t) = below_form (CForm-F.Zero t.0) t.1.slot t.1.param
  form_layer (CForm-F.Not f) = below_form (CForm-F.Not f.0) f.1.slot f.1.param
  form_layer (CForm-F.And f g) =
      below_form (CForm-F.And f.0 g.0) (either-below _ _ _ _ f.1.slot g.1.slot)
      (either-below _ _ _ _ f.1.param g.1.param)
  form_layer (CForm-F.Or f g) =
      below_form (CForm-F.Or f.0 g.0) (either-below _ _ _ _ f.1.slot g.1.slot)
      (either-below _ _ _ _ f.1.param g.1.param)

  term_layer : (y : CTerm-F BelowForm BelowTerm) →
      TermBelow (roll-CTerm (map-CTerm BelowForm BelowTerm CForm CTerm (λ e. e.0) (λ e. e.0) y))
  term_layer (CTerm-F.Const c) = below_term (CTerm-F.Const c) (λ e. absurd (cc)) (λ e. absurd (cc))
  term_layer (CTerm-F.Slot m) = below_term (CTerm-F.Slot m) (named-below m) (λ e. absurd (cc))
  term_layer (CTerm-F.Param m) = below_term (CTerm-F.Param m) (λ e. absurd (cc)) (named-below m)
  term_layer (CTerm-F.Add a b) =
      below_term (CTerm-F.Add a.0 b.0) (either-below _ _ _ _ a.1.slot b.1.slot)
      (either-below _ _ _ _ a.1.param b.1.param)
  term_layer (CTerm-F.Sub a b) =
      below_term (CTerm-F.Sub a.0 b.0) (either-below _ _ _ _ a.1.slot b.1.slot)
      (either-below _ _ _ _ a.1.param b.1.param)
  term_layer (CTerm-F.Scale k a) = below_term (CTerm-F.Scale k a.0) a.1.slot a.1.param
  term_layer (CTerm-F.Div a k) = below_term (CTerm-F.Div a.0 k) a.1.slot a.1.param
  term_layer (CTerm-F.Mod a k) = below_term (CTerm-F.Mod a.0 k) a.1.slot a.1.param
  term_layer (CTerm-F.Ite c a b) =
      below_term (CTerm-F.Ite c.0 a.0 b.0)
      (either-below _ _ _ _ c.1.slot (either-below _ _ _ _ a.1.slot b.1.slot))
      (either-below _ _ _ _ c.1.param (either-below _ _ _ _ a.1.param b.1.param))

  form-below : (f : CForm) → FormBelow f
  form-below f =
      ind-CForm FormBelow TermBelow (λ x y e. subst (λ z. FormBelow (roll-CForm z)) e (form_layer y))
      (λ x y e. subst (λ z. TermBelow (roll-CTerm z)) e (term_layer y)) f

-- A formula's weight is that of what occurs in it.
module _ (slots params others numbers : ℕ → ℕ) where
  abbrev Same : Bool → ℕ → Type 0
  Same param n = cond param params slots n ≡ cond param numbers others n

  abbrev weight_steps : (ℕ → ℕ) → (ℕ → ℕ) → Steps ℕ Weights
  weight_steps on_slots on_params = record { form = weigh_form; term = weigh_term on_slots on_params }

  weights_agree : (x : CTerm-F ℕ Weights) → ((param : Bool) (n : ℕ) → is_here param n x ≡ true → Same param n) →
      weigh_term slots params x ≡ weigh_term others numbers x
  weights_agree (CTerm-F.Const c) all = refl
  weights_agree (CTerm-F.Slot n) all =
      ap (λ m. weigh_term (λ k. m) params (CTerm-F.Slot n)) (all false n (eq-eqb n n refl))
  weights_agree (CTerm-F.Param n) all =
      ap (λ m. weigh_term slots (λ k. m) (CTerm-F.Param n)) (all true n (eq-eqb n n refl))
  weights_agree (CTerm-F.Add a b) all = refl
  weights_agree (CTerm-F.Sub a b) all = refl
  weights_agree (CTerm-F.Scale k a) all = refl
  weights_agree (CTerm-F.Div a k) all = refl
  weights_agree (CTerm-F.Mod a k) all = refl
  weights_agree (CTerm-F.Ite c a b) all = refl

  weight-same : (f : CForm) → ((param : Bool) (n : ℕ) → form_has param n f ≡ true → Same param n) →
      form_weight slots params f ≡ form_weight others numbers f
  weight-same f all =
      form_same (weight_steps slots params) (weight_steps others numbers) Same (λ x. refl) weights_agree f all

-- Look-ups.
abbrev AllAre : (Variable → Type 0) → List Variable → Type 0
AllAre S [] = Unit {0}
AllAre S (v ∷ vs) = S v × AllAre S vs

kept-are : (S : Variable → Type 0) (b : Bool) (v : Variable) (vs : List Variable) → S v → AllAre S vs →
    AllAre S (cond b (v ∷ vs) vs)
kept-are S true v vs s h = (s, h)
kept-are S false v vs s h = h

filter-are : (S : Variable → Type 0) (q : Variable → Bool) (vs : List Variable) → AllAre S vs → AllAre S (filter q vs)
filter-are S q [] h = tt
filter-are S q (v ∷ vs) h = kept-are S (q v) v (filter q vs) h.0 (filter-are S q vs h.1)

append-are : (S : Variable → Type 0) (vs ws : List Variable) → AllAre S vs → AllAre S ws → AllAre S (vs ++ ws)
append-are S [] ws h k = k
append-are S (v ∷ vs) ws h k = (h.0, append-are S vs ws h.1 k)

numbered-are : (S : Variable → Type 0) (param : Bool) (k : ℕ) (rs : List Range) →
    ((i : ℕ) (r : Range) → slice_get rs i ≡ Some r → S (record { param = param; number = k + i; range = r })) →
    AllAre S (numbered param k rs)
numbered-are S param k [] h = tt
numbered-are S param k (r ∷ rs) h =
    let first : k + 0 ≡ k = omega arith in
    let next : (i : ℕ) → k + suc i ≡ suc k + i = λ i. omega arith in (
      subst (λ m. S (record { param = param; number = m; range = r })) first (h 0 r refl),
      numbered-are S param (suc k) rs
          (λ i s e. subst (λ m. S (record { param = param; number = m; range = s })) (next i) (h (suc i) s e)),
    )

record Found (S : Variable → Type 0) (vs : List Variable) (param : Bool) (n : ℕ) : Type 0 where
  variable : Variable
  there : slice_get vs (place_of vs param n) ≡ Some variable
  named : is_named variable param n ≡ true
  sound : S variable
  below : place_of vs param n < length vs

found-head : (S : Variable → Type 0) (v : Variable) (vs : List Variable) (param : Bool) (n : ℕ) (b : Bool) →
    is_named v param n ≡ b → S v → (list_any (λ w. is_named w param n) vs ≡ true → Found S vs param n) →
    (b || list_any (λ w. is_named w param n) vs) ≡ true → Found S (v ∷ vs) param n
found-head S v vs param n true e s rest h =
    let p = ap (λ b. cond b zero (suc (place_of vs param n))) e in
    record {
      variable = v;
      there = ap (λ b. slice_get (v ∷ vs) (cond b zero (suc (place_of vs param n)))) e;
      named = e;
      sound = s;
      below = omega (arith, p);
    }
found-head S v vs param n false e s rest h =
    let found = rest h in
    let p = ap (λ b. cond b zero (suc (place_of vs param n))) e in
    let q = found.below in
    record {
      variable = found.variable;
      there = ap (λ b. slice_get (v ∷ vs) (cond b zero (suc (place_of vs param n)))) e ∙ found.there;
      named = found.named;
      sound = found.sound;
      below = omega (arith, p, q);
    }

found : (S : Variable → Type 0) (vs : List Variable) (param : Bool) (n : ℕ) → AllAre S vs →
    list_any (λ v. is_named v param n) vs ≡ true → Found S vs param n
found S [] param n s e = absurd (cc)
found S (v ∷ vs) param n s e =
    found-head S v vs param n (is_named v param n) refl s.0 (found S vs param n s.1) e

same-name : (p q : Bool) (m n : ℕ) → (cond p q (not q) && nat_eq m n) ≡ true → (p ≡ q) × (m ≡ n)
same-name true true m n e = (refl, eqb-true m n e)
same-name true false m n e = absurd (cc)
same-name false true m n e = absurd (cc)
same-name false false m n e = (refl, eqb-true m n e)

-- The variables of a formula.
module _ (f : CForm) (slots params : List Range) (in_slots : form_slots f ≤ length slots)
    (in_params : form_params f ≤ length params) where
  abbrev vs : List Variable
  vs = variables_of f slots params

  abbrev first : List Variable
  first = occurring f (numbered false 0 slots)

  abbrev second : List Variable
  second = occurring f (numbered true 0 params)

  any-variable : (param : Bool) (n : ℕ) → form_has param n f ≡ true → list_any (λ v. is_named v param n) vs ≡ true
  any-variable false n e =
      let below = (form-below n f).slot e in
      list_any-append (λ v. is_named v false n) first second
      ∙ ap (λ z. z || list_any (λ v. is_named v false n) second)
      (is-variable f false n e slots 0 n (omega arith) (omega (arith, below, in_slots)))
  any-variable true n e =
      let below = (form-below n f).param e in
      list_any-append (λ v. is_named v true n) first second
      ∙ or_right (list_any (λ v. is_named v true n) first) _
      (is-variable f true n e params 0 n (omega arith) (omega (arith, below, in_params)))

  -- a variable has the range that its number has
  abbrev Ranged : Variable → Type 0
  Ranged v = slice_get (cond v.param params slots) v.number ≡ Some v.range

  all-ranged : AllAre Ranged vs
  all-ranged =
      let start : (i : ℕ) → 0 + i ≡ i = λ i. omega arith in
      append-are Ranged first second
      (filter-are Ranged (λ v. form_has v.param v.number f) (numbered false 0 slots)
      (numbered-are Ranged false 0 slots (λ i r e. ap (slice_get slots) (start i) ∙ e)))
      (filter-are Ranged (λ v. form_has v.param v.number f) (numbered true 0 params)
      (numbered-are Ranged true 0 params (λ i r e. ap (slice_get params) (start i) ∙ e)))

  found-variable : (param : Bool) (n : ℕ) → form_has param n f ≡ true → Found Ranged vs param n
  found-variable param n e = found Ranged vs param n all-ranged (any-variable param n e)

  weighs-as-range : (param : Bool) (n : ℕ) → form_has param n f ≡ true →
      variable_weight vs param n ≡ place_weight (cond param params slots) n
  weighs-as-range param n e =
      let v = found-variable param n e in
      let name = same-name v.variable.param param v.variable.number n v.named in
      ap (λ o. range_weight (option_map (λ (v : Variable). v.range) o)) v.there
      ∙ ap range_weight (sym v.sound)
      ∙ ap (λ p. range_weight (slice_get (cond p params slots) v.variable.number)) name.0
      ∙ ap (λ m. range_weight (slice_get (cond param params slots) m)) name.1

  weighs-same : (param : Bool) (n : ℕ) → form_has param n f ≡ true →
      cond param (variable_weight vs true) (variable_weight vs false) n
      ≡ cond param (place_weight params) (place_weight slots) n
  weighs-same true n e = weighs-as-range true n e
  weighs-same false n e = weighs-as-range false n e

  pub weight-of-made :
      weight_of (obligation_of f slots params) ≡ form_weight (place_weight slots) (place_weight params) f
  weight-of-made =
      weight-same (variable_weight vs false) (variable_weight vs true) (place_weight slots) (place_weight params) f
      weighs-same

-- Ranges whose low ends are not above their high ends.
range-test : (a b : ℤ) → a ≤ℤ b → int_le a b ≡ true
range-test a b h = grind (arith, ints)

slots-ranges : (ss : List CSlot) → All (λ (s : CSlot). s.range.lo ≤ℤ s.range.hi) ss →
    list_all is_range (slot_ranges ss) ≡ true
slots-ranges [] all = refl
slots-ranges (s ∷ ss) all =
    ap (λ z. z && list_all is_range (slot_ranges ss)) (range-test s.range.lo s.range.hi (all 0 s (omega arith)))
    ∙ slots-ranges ss (λ k d h. all (suc k) d (omega (arith, h)))

params-ranges : (rs : List Range) → All (λ (r : Range). r.lo ≤ℤ r.hi) rs → list_all is_range rs ≡ true
params-ranges [] all = refl
params-ranges (r ∷ rs) all =
    ap (λ z. z && list_all is_range rs) (range-test r.lo r.hi (all 0 r (omega arith)))
    ∙ params-ranges rs (λ k d h. all (suc k) d (omega (arith, h)))

numbered-ranges : (param : Bool) (k : ℕ) (rs : List Range) → list_all is_range rs ≡ true →
    list_all (λ (v : Variable). is_range v.range) (numbered param k rs) ≡ true
numbered-ranges param k [] h = refl
numbered-ranges param k (r ∷ rs) h =
    let s = and_parts (is_range r) (list_all is_range rs) h in
    ap (λ z. z && list_all (λ (v : Variable). is_range v.range) (numbered param (suc k) rs)) s.0
    ∙ numbered-ranges param (suc k) rs s.1

variables-ranges : (f : CForm) (slots params : List Range) → list_all is_range slots ≡ true →
    list_all is_range params ≡ true →
    list_all (λ (v : Variable). is_range v.range) (variables_of f slots params) ≡ true
variables-ranges f slots params h k =
    let ranged : Variable → Bool = λ v. is_range v.range in
    let has : Variable → Bool = λ v. form_has v.param v.number f in
    list_all-append ranged (occurring f (numbered false 0 slots)) (occurring f (numbered true 0 params))
    ∙ ap (λ z. z && list_all ranged (occurring f (numbered true 0 params)))
    (filter-all ranged has (numbered false 0 slots) (numbered-ranges false 0 slots h))
    ∙ filter-all ranged has (numbered true 0 params) (numbered-ranges true 0 params k)

variables-occur : (f : CForm) (slots params : List Range) →
    list_all (λ (v : Variable). form_has v.param v.number f) (variables_of f slots params) ≡ true
variables-occur f slots params =
    let has : Variable → Bool = λ v. form_has v.param v.number f in
    list_all-append has (occurring f (numbered false 0 slots)) (occurring f (numbered true 0 params))
    ∙ ap (λ z. z && list_all has (occurring f (numbered true 0 params))) (filter-passes has (numbered false 0 slots))
    ∙ filter-passes has (numbered true 0 params)

-- an obligation by its parts, as the code makes it
pub obligation-is : (o : Obligation) (f : CForm) (slots rs xs params : List Range) → o.form ≡ f →
    o.variables ≡ variables_of f xs params → xs ≡ rs → rs ≡ slots → o ≡ obligation_of f slots params
obligation-is o f slots rs xs params p q e h =
    ap (λ g. record { form = g; variables = o.variables }) p
    ∙ ap (λ vs. record { form = f; variables = vs })
    (q ∙ ap (λ ys. variables_of f ys params) (e ∙ h))

-- What `make` gives, and refuses.
module _ (f : CForm) (ss : List CSlot) (params : List Range) (in_slots : form_slots f ≤ length ss)
    (in_params : form_params f ≤ length params) where
  abbrev made : Obligation
  made = obligation_of f (slot_ranges ss) params

  slots-long : form_slots f ≤ length (slot_ranges ss)
  slots-long = let e = length-map ss (λ (s : CSlot). s.range) in omega (arith, e, in_slots)

  slots-weigh : (param : Bool) (n : ℕ) → form_has param n f ≡ true →
      cond param (place_weight params) (place_weight (slot_ranges ss)) n
      ≡ cond param (place_weight params) (slot_weight ss) n
  slots-weigh true n e = refl
  slots-weigh false n e = ap range_weight (slice_get-map (λ (s : CSlot). s.range) ss n)

  made-weight : weight_of made ≡ form_weight (slot_weight ss) (place_weight params) f
  made-weight =
      weight-of-made f (slot_ranges ss) params slots-long in_params
      ∙ weight-same (place_weight (slot_ranges ss)) (place_weight params) (slot_weight ss) (place_weight params) f
      slots-weigh

  abbrev small : Bool
  small = nat_le (form_nodes f) 65536 && nat_le (form_weight (slot_weight ss) (place_weight params) f) (2 ^ 62)

  small-same : (nat_le (form_nodes f) 65536 && nat_le (weight_of made) (2 ^ 62)) ≡ small
  small-same = ap (λ w. nat_le (form_nodes f) 65536 && nat_le w (2 ^ 62)) made-weight

  and_false : (a b : Bool) → b ≡ false → (a && b) ≡ false
  and_false true b e = e
  and_false false b e = refl

  pub refused-for-size : (b : Bool) → b ≡ small → b ≡ false → is_within_limits made ≡ false
  refused-for-size b e h = and_false (nat_le (height_of made) 960) _ (small-same ∙ sym e ∙ h)

  pub refused-for-height : (o : Obligation) (b : Bool) → o ≡ made → b ≡ nat_le (height_of o) 960 → b ≡ false →
      is_within_limits made ≡ false
  refused-for-height o b q e h =
      ap (λ z. z && (nat_le (form_nodes f) 65536 && nat_le (weight_of made) (2 ^ 62)))
      (sym (e ∙ ap (λ x. nat_le (height_of x) 960) q) ∙ h)

  pub is-obligation : (o : Obligation) (b d : Bool) → o ≡ made → b ≡ small → b ≡ true →
      d ≡ nat_le (height_of o) 960 → d ≡ true → All (λ (s : CSlot). s.range.lo ≤ℤ s.range.hi) ss →
      All (λ (r : Range). r.lo ≤ℤ r.hi) params → IsObligation o
  is-obligation o b d q e h g k all each = subst IsObligation (sym q) (record {
    limits =
        ap (λ z. z && (nat_le (form_nodes f) 65536 && nat_le (weight_of made) (2 ^ 62)))
        (sym (g ∙ ap (λ x. nat_le (height_of x) 960) q) ∙ k)
        ∙ small-same ∙ sym e ∙ h;
    order = variables-order f (slot_ranges ss) params;
    occurring = variables-occur f (slot_ranges ss) params;
    complete = λ param n e. (found-variable f (slot_ranges ss) params slots-long in_params param n e).below;
    ranges = variables-ranges f (slot_ranges ss) params (slots-ranges ss all) (params-ranges params each);
  })
