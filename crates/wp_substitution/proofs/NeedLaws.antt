-- What a statement needs holds exactly where its step is defined.
use Rattle.std.proofs.Common.{◌≡◌, ℕ, ℤ, pos, zero, suc, nat_eq, ◌-ℤ◌, List, [], ◌∷◌, ◌++◌, map, Bool, true, false}
use Rattle.std.proofs.Common.{cond, not, ◌&&◌, ◌||◌, Option, Some, None, slice_get, refl, sym, ap, ◌∙◌}
use Rattle.std.specs.List.{list_all}
use Rattle.std.specs.Option.{option_map}
use Rattle.std.proofs.lemmas.List.Folds.{list_all-append, list_all-map}
use Rattle.std.specs.Int.RustNames.{int_le}
use Rattle.meaning_states.specs.State.{State, Ranges, int_eq, in_range}
use Rattle.meaning_states.specs.Step.{Write, is_inside, agrees, all_agree, is_defined}
use Rattle.core_terms.specs.declared.trees.CTerm.{CTerm}
use Rattle.core_terms.specs.declared.trees.CTerm.TheVariants.{Const}
use Rattle.core_terms.specs.declared.trees.CForm.{CForm}
use Rattle.core_terms.specs.declared.programs.CSlot.{CSlot}
use Rattle.core_terms.specs.declared.programs.CWrite.{CWrite}
use Rattle.core_terms.specs.declared.programs.CStmt.{CStmt}
use Rattle.core_terms.specs.Values.{term_value, form_value}
use Rattle.core_terms.specs.Steps.{slot_ranges, outside_writes, inside_writes, core_writes}
use Rattle.core_terms.specs.Folding.{difference_term, at_least_form, zero_form, not_form, and_form}
use Rattle.core_terms.proofs.PartLaws.{value-Const, value-Top, value-Bottom}
use Rattle.core_terms.proofs.FoldingLaws.{value-difference_term, value-at_least_form, value-zero_form, value-not_form}
use Rattle.core_terms.proofs.FoldingLaws.{value-and_form, value-or_form}
use Rattle.wp_substitution.specs.Preconditions.{and_all, all_of, inside_form, write_form, pair_form, writes_to}
use Rattle.wp_substitution.specs.Preconditions.{pair_forms, needs, defined_form}
use Rattle.core_terms.proofs.IntTests.{least_tests, zero_tests}

regroup : (a b c : Bool) → ((a && b) && c) ≡ (a && (b && c))
regroup true b c = refl
regroup false b c = refl

with_true : (a : Bool) → a ≡ (a && true)
with_true true = refl
with_true false = refl

-- the range of a slot, as a step takes it
range_of_slot : (slots : List CSlot) (n : ℕ) →
    option_map (λ s. (s.range.lo, s.range.hi)) (slice_get slots n) ≡ slice_get (slot_ranges slots) n
range_of_slot [] n = refl
range_of_slot (s ∷ slots) zero = refl
range_of_slot (s ∷ slots) (suc n) = range_of_slot slots n

-- a test of all items, of which one may be left out
kept_all : {X : Type 0} (test : X → Bool) (b : Bool) (x : X) (xs : List X) →
    list_all test (cond b (x ∷ xs) xs) ≡ cond b (test x && list_all test xs) (list_all test xs)
kept_all test true x xs = refl
kept_all test false x xs = refl

-- and of which one may stand in front
front_all : {X : Type 0} (test : X → Bool) (b : Bool) (x : X) (xs : List X) →
    list_all test (cond b (x ∷ []) [] ++ xs) ≡ cond b (test x && list_all test xs) (list_all test xs)
front_all test true x xs = refl
front_all test false x xs = refl

pair_bools : (b h k i c : Bool) →
    cond b ((not (h && k) || i) && (not h || c)) (not h || c) ≡ (not h || cond k ((not b || i) && c) c)
pair_bools true true true i c = refl
pair_bools true true false i c = refl
pair_bools true false true i c = refl
pair_bools true false false i c = refl
pair_bools false true true i c = refl
pair_bools false true false i c = refl
pair_bools false false true i c = refl
pair_bools false false false i c = refl

or_true : (b : Bool) → true ≡ (b || true)
or_true true = refl
or_true false = refl

-- a write that is made in front agrees with the others
front_agrees : (h : Bool) (w : Write) (ws : List Write) →
    ((not h || list_all (agrees w) ws) && all_agree ws) ≡ all_agree (cond h (w ∷ []) [] ++ ws)
front_agrees true w ws = refl
front_agrees false w ws = refl

front_inside : (rs : Ranges) (h : Bool) (w : Write) (ws : List Write) →
    ((not h || is_inside rs w) && list_all (is_inside rs) ws) ≡ list_all (is_inside rs) (cond h (w ∷ []) [] ++ ws)
front_inside rs true w ws = refl
front_inside rs false w ws = refl

front_outside : (rs : Ranges) (h : Bool) (ws : List Write) →
    (not h && list_all (is_inside rs) ws) ≡ list_all (is_inside rs) (cond h ((None, pos 0) ∷ []) [] ++ ws)
front_outside rs true ws = refl
front_outside rs false ws = refl

-- a write outside agrees with all
outside_agrees : (z : ℤ) (ws : List Write) → list_all (agrees (None, z)) ws ≡ true
outside_agrees z [] = refl
outside_agrees z (w ∷ ws) = outside_agrees z ws

front_apart : (h : Bool) (ws : List Write) → all_agree (cond h ((None, pos 0) ∷ []) [] ++ ws) ≡ all_agree ws
front_apart true ws = ap (λ b. b && all_agree ws) (outside_agrees (pos 0) ws)
front_apart false ws = refl

front_joined : (h : Bool) (x : Write) (ws vs : List Write) →
    (cond h (x ∷ []) [] ++ ws) ++ vs ≡ cond h (x ∷ []) [] ++ (ws ++ vs)
front_joined true x ws vs = refl
front_joined false x ws vs = refl

module _ (s p : List ℤ) where
  value-and_all : (f : CForm) (fs : List CForm) →
      form_value s p (and_all f fs) ≡ (form_value s p f && list_all (λ g. form_value s p g) fs)
  value-and_all f [] = with_true (form_value s p f)
  value-and_all f (g ∷ gs) =
      value-and_all (and_form f g) gs ∙ ap (λ b. b && list_all (λ g. form_value s p g) gs) (value-and_form s p f g)
      ∙ regroup (form_value s p f) (form_value s p g) (list_all (λ g. form_value s p g) gs)

  -- all formulas of a list hold where each does
  pub value-all_of : (fs : List CForm) → form_value s p (all_of fs) ≡ list_all (λ g. form_value s p g) fs
  value-all_of [] = value-Top s p
  value-all_of (f ∷ fs) = value-and_all f fs

module _ (s : State) where
  abbrev V : CForm → Bool
  V f = form_value s [] f

  abbrev T : CTerm → ℤ
  T t = term_value s [] t

  inside_value : (value : CTerm) (o : Option CSlot) →
      V (inside_form value o) ≡ in_range (option_map (λ s. (s.range.lo, s.range.hi)) o) (T value)
  inside_value value None = value-Bottom s []
  inside_value value (Some x) =
      value-and_form s [] (at_least_form (difference_term value (Const x.range.lo)))
      (at_least_form (difference_term (Const x.range.hi) value))
      ∙ ap (λ b. b && V (at_least_form (difference_term (Const x.range.hi) value)))
      (value-at_least_form s [] (difference_term value (Const x.range.lo))
      ∙ ap (λ z. int_le (pos 0) z) (value-difference_term s [] value (Const x.range.lo)
      ∙ ap (λ z. T value -ℤ z) (value-Const s [] x.range.lo))
      ∙ least_tests x.range.lo (T value))
      ∙ ap (λ b. int_le x.range.lo (T value) && b)
      (value-at_least_form s [] (difference_term (Const x.range.hi) value)
      ∙ ap (λ z. int_le (pos 0) z) (value-difference_term s [] (Const x.range.hi) value
      ∙ ap (λ z. z -ℤ T value) (value-Const s [] x.range.hi))
      ∙ least_tests (T value) x.range.hi)

  write_value : (slots : List CSlot) (w : CWrite) →
      V (write_form slots w) ≡ (not (V w.when) || is_inside (slot_ranges slots) (Some w.slot, T w.value))
  write_value slots w =
      value-or_form s [] (not_form w.when) (inside_form w.value (slice_get slots w.slot))
      ∙ ap (λ b. b || V (inside_form w.value (slice_get slots w.slot))) (value-not_form s [] w.when)
      ∙ ap (λ b. not (V w.when) || b)
      (inside_value w.value (slice_get slots w.slot) ∙ ap (λ o. in_range o (T w.value)) (range_of_slot slots w.slot))

  pair_value : (v w : CWrite) → V (pair_form v w) ≡ (not (V v.when && V w.when) || int_eq (T v.value) (T w.value))
  pair_value v w =
      value-or_form s [] (not_form (and_form v.when w.when)) (zero_form (difference_term v.value w.value))
      ∙ ap (λ b. b || V (zero_form (difference_term v.value w.value)))
      (value-not_form s [] (and_form v.when w.when) ∙ ap not (value-and_form s [] v.when w.when))
      ∙ ap (λ b. not (V v.when && V w.when) || b)
      (value-zero_form s [] (difference_term v.value w.value)
      ∙ ap (λ z. int_eq z (pos 0)) (value-difference_term s [] v.value w.value)
      ∙ zero_tests (T v.value) (T w.value))

  outside_all : (rs : Ranges) (fs : List CForm) →
      list_all (λ f. V (not_form f)) fs ≡ list_all (is_inside rs) (outside_writes s fs)
  outside_all rs [] = refl
  outside_all rs (f ∷ fs) =
      ap (λ b. b && list_all (λ f. V (not_form f)) fs) (value-not_form s [] f)
      ∙ ap (λ b. not (V f) && b) (outside_all rs fs) ∙ front_outside rs (V f) (outside_writes s fs)

  inside_all : (slots : List CSlot) (ws : List CWrite) →
      list_all (λ w. V (write_form slots w)) ws ≡ list_all (is_inside (slot_ranges slots)) (inside_writes s ws)
  inside_all slots [] = refl
  inside_all slots (w ∷ ws) =
      let made : Write = (Some w.slot, T w.value) in
      ap (λ b. b && list_all (λ w. V (write_form slots w)) ws) (write_value slots w)
      ∙ ap (λ b. (not (V w.when) || is_inside (slot_ranges slots) made) && b) (inside_all slots ws)
      ∙ front_inside (slot_ranges slots) (V w.when) made (inside_writes s ws)

  -- a write agrees with the later ones where the formulas of the pairs hold
  one_agrees : (w : CWrite) (ws : List CWrite) → list_all (λ v. V (pair_form w v)) (writes_to w.slot ws) ≡
      (not (V w.when) || list_all (agrees (Some w.slot, T w.value)) (inside_writes s ws))
  one_agrees w [] = or_true (not (V w.when))
  one_agrees w (v ∷ ws) =
      let made : Write = (Some w.slot, T w.value) in
      let later : Write = (Some v.slot, T v.value) in
      let b = nat_eq w.slot v.slot in
      let i = int_eq (T w.value) (T v.value) in
      let h = V w.when in
      let k = V v.when in
      let c = list_all (agrees made) (inside_writes s ws) in
      kept_all (λ v. V (pair_form w v)) b v (writes_to w.slot ws)
      ∙ ap (λ x. cond b (x && list_all (λ v. V (pair_form w v)) (writes_to w.slot ws))
      (list_all (λ v. V (pair_form w v)) (writes_to w.slot ws))) (pair_value w v)
      ∙ ap (λ x. cond b ((not (h && k) || i) && x) x) (one_agrees w ws)
      ∙ pair_bools b h k i c
      ∙ ap (λ x. not h || x) (sym (front_all (agrees made) k later (inside_writes s ws)))

  all_pairs : (ws : List CWrite) → list_all (λ f. V f) (pair_forms ws) ≡ all_agree (inside_writes s ws)
  all_pairs [] = refl
  all_pairs (w ∷ ws) =
      list_all-append (λ f. V f) (map (pair_form w) (writes_to w.slot ws)) (pair_forms ws)
      ∙ ap (λ b. b && list_all (λ f. V f) (pair_forms ws))
      (list_all-map (λ f. V f) (pair_form w) (writes_to w.slot ws) ∙ one_agrees w ws)
      ∙ ap (λ b. (not (V w.when) || list_all (agrees (Some w.slot, T w.value)) (inside_writes s ws)) && b)
      (all_pairs ws)
      ∙ front_agrees (V w.when) (Some w.slot, T w.value) (inside_writes s ws)

  outside_apart : (fs : List CForm) (ws : List Write) → all_agree (outside_writes s fs ++ ws) ≡ all_agree ws
  outside_apart [] ws = refl
  outside_apart (f ∷ fs) ws =
      ap all_agree (front_joined (V f) (None, pos 0) (outside_writes s fs) ws)
      ∙ front_apart (V f) (outside_writes s fs ++ ws) ∙ outside_apart fs ws

  -- at no parameters the formula holds exactly where the step is defined
  pub defined_here : (slots : List CSlot) (c : CStmt) →
      form_value s [] (defined_form slots c) ≡ is_defined (slot_ranges slots) (core_writes s c)
  defined_here slots c =
      let rs = slot_ranges slots in
      let outside = outside_writes s c.outside in
      let inside = inside_writes s c.writes in
      value-all_of s [] (needs slots c)
      ∙ list_all-append (λ f. V f) (map not_form c.outside ++ map (write_form slots) c.writes) (pair_forms c.writes)
      ∙ ap (λ b. b && list_all (λ f. V f) (pair_forms c.writes))
      (list_all-append (λ f. V f) (map not_form c.outside) (map (write_form slots) c.writes)
      ∙ ap (λ b. b && list_all (λ f. V f) (map (write_form slots) c.writes))
      (list_all-map (λ f. V f) not_form c.outside ∙ outside_all rs c.outside)
      ∙ ap (λ b. list_all (is_inside rs) outside && b)
      (list_all-map (λ f. V f) (write_form slots) c.writes ∙ inside_all slots c.writes)
      ∙ sym (list_all-append (is_inside rs) outside inside))
      ∙ ap (λ b. list_all (is_inside rs) (outside ++ inside) && b)
      (all_pairs c.writes ∙ sym (outside_apart c.outside inside))
