-- What the added variables stand for stays known along the plain tree.
use Rattle.std.proofs.Common.{◌≡◌, ℕ, zero, suc, ◌+◌, ◌*◌, ◌≤◌, ◌<◌, ◌^◌, nat_le, ℤ, pos, negsuc, neg_ℤ, ◌-ℤ◌}
use Rattle.std.proofs.Common.{◌+ℤ◌, ◌≤ℤ◌, Bool, true, false, ◌&&◌, Some, List, [], ◌∷◌, ◌++◌, take}
use Rattle.std.proofs.Common.{map, length, slice_get, IsTrue, arith, refl, sym, ap, subst, ◌∙◌}
use Rattle.std.specs.List.{list_all}
use Rattle.std.specs.Option.{option_map}
use Rattle.std.specs.Int.RustNames.{int_le, unsigned_abs}
use Rattle.std.proofs.lemmas.Int.{ints}
use Rattle.std.proofs.lemmas.Bool.{and_parts}
use Rattle.std.proofs.lemmas.List.Folds.{list_all-append}
use Rattle.core_terms.specs.declared.trees.CForm.{CForm}
use Rattle.core_terms.specs.declared.trees.Range.{Range}
use Rattle.core_terms.specs.Weights.{range_weight}
use Rattle.meaning_states.proofs.DivisionTheorems.{divisor_is_positive}
use Rattle.obligations.specs.declared.branches.Branch.{Branch}
use Rattle.obligations.specs.declared.branches.Fact.{Fact}
use Rattle.obligations.specs.declared.branches.Line.{Line}
use Rattle.obligations.specs.declared.branches.Obligation.{Obligation}
use Rattle.obligations.specs.declared.branches.Replaced.{Replaced}
use Rattle.obligations.specs.declared.branches.Variable.{Variable}
use Rattle.obligations.specs.LinearForms.{place_of, linear, negated}
use Rattle.obligations.specs.Obligations.{is_sound_range, variable_weight, IsObligation}
use Rattle.obligations.specs.Opening.{at_most, at_least, first_branch, ranges_only}
use Rattle.obligations.specs.Plain.{ranges_of, first_cut, with_high, with_low, waiting_only}
use Rattle.obligations.specs.Quotients.{without_quotient, with_quotient, low_fact, high_fact, one_more, fact_with}
use Rattle.obligations.specs.Quotients.{raised}
use Rattle.obligations.specs.Reach.{is_within}
use Rattle.obligations.specs.Scopes.{next_param, scope, scope_of, with_next}
use Rattle.obligations.specs.Settling.{settled, added, outcome}
use Rattle.obligations.proofs.FrameLaws.{place-grows}
use Rattle.obligations.proofs.NumberLaws.{obligation-weight, obligation-sound}
use Rattle.obligations.proofs.ScopeLaws.{length-next, scope-length}
use Rattle.obligations.proofs.TakenNames.{place-next, replaced-named}
use Rattle.obligations.proofs.TreeLaws.{linear-long}
use Rattle.search_tree.specs.Searching.{IsTaken, AreTaken, Fixes}
use Rattle.search_tree.specs.Weighing.{weight_in, Weighs, factors_weight, line_weight, is_range_within}
use Rattle.search_tree.specs.Weighing.{are_ranges_within, form_dividends, term_dividends, are_dividends_small}
use Rattle.search_tree.specs.Weighing.{is_weight}
use Rattle.search_tree.proofs.CutLaws.{good-cut}
use Rattle.search_tree.proofs.DividendLaws.{small-out, settled-small, refused-small, without-small, dividends-within}
use Rattle.search_tree.proofs.LineWeights.{line-within, some-weight}

le-is : (a b : ℕ) → nat_le a b ≡ true → a ≤ b
le-is a b h = grind arith

le-true : (a b : ℕ) → a ≤ b → nat_le a b ≡ true
le-true a b h = grind arith

all-last : {A : Type 0} (t : A → Bool) (xs : List A) (x : A) → list_all t xs ≡ true → t x ≡ true →
    list_all t (xs ++ x ∷ []) ≡ true
all-last t xs x p q =
    list_all-append t xs (x ∷ []) ∙ ap (λ z. z && list_all t (x ∷ [])) p ∙ ap (λ z. z && true) q

append-none : {A : Type 0} (xs : List A) → xs ++ [] ≡ xs
append-none [] = refl
append-none (x ∷ xs) = ap (λ z. x ∷ z) (append-none xs)

append-more : {A : Type 0} (xs ys zs : List A) → (xs ++ ys) ++ zs ≡ xs ++ (ys ++ zs)
append-more [] ys zs = refl
append-more (x ∷ xs) ys zs = ap (λ z. x ∷ z) (append-more xs ys zs)

get-more : {A : Type 0} (xs ys : List A) (i : ℕ) (x : A) → slice_get xs i ≡ Some x → slice_get (xs ++ ys) i ≡ Some x
get-more [] ys i x e = cc
get-more (y ∷ xs) ys zero x e = e
get-more (y ∷ xs) ys (suc i) x e = get-more xs ys i x e

take-more : {A : Type 0} (xs ys : List A) (i : ℕ) (x : A) → slice_get xs i ≡ Some x → take i (xs ++ ys) ≡ take i xs
take-more [] ys i x e = cc
take-more (y ∷ xs) ys zero x e = refl
take-more (y ∷ xs) ys (suc i) x e = ap (λ z. y ∷ z) (take-more xs ys i x e)

-- Facts that are added.
taken-more : (ws : List ℕ) (vs : List Variable) (n : ℕ) (facts more : List Fact) → AreTaken ws vs n facts →
    AreTaken ws vs n (facts ++ more)
taken-more ws vs zero facts more t = tt
taken-more ws vs (suc n) facts more t =
    let x = t.1 in (
      taken-more ws vs n facts more t.0,
      record {
        place = x.place;
        line = x.line;
        divisor = x.divisor;
        long = x.long;
        positive = x.positive;
        unnamed = ap (list_all (λ (f : Fact). is_within (length (scope vs n)) f.factors))
            (take-more facts more x.place (fact_with x.line (neg_ℤ x.divisor)) x.low) ∙ x.unnamed;
        low = get-more facts more x.place (fact_with x.line (neg_ℤ x.divisor)) x.low;
        high = get-more facts more (suc x.place)
            (fact_with (raised (negated (scope vs n) x.line) (x.divisor -ℤ pos 1)) x.divisor) x.high;
        weight = x.weight;
      },
    )

-- Weights that are added.
weight-front : (ws more : List ℕ) (n : ℕ) → n < length ws → weight_in (ws ++ more) n ≡ weight_in ws n
weight-front [] more n h = absurd (omega arith)
weight-front (w ∷ ws) more zero h = refl
weight-front (w ∷ ws) more (suc n) h = weight-front ws more n (omega (arith, h))

weight-last : (ws : List ℕ) (w n : ℕ) → n ≡ length ws → weight_in (ws ++ w ∷ []) n ≡ w
weight-last [] w n e = ap (weight_in (w ∷ [])) e
weight-last (x ∷ ws) w zero e = absurd (omega (arith, e))
weight-last (x ∷ ws) w (suc n) e = weight-last ws w n (omega (arith, e))

factors-front : (ws more : List ℕ) (n : ℕ) (zs : List ℤ) → n + length zs ≤ length ws →
    factors_weight (ws ++ more) n zs ≡ factors_weight ws n zs
factors-front ws more n [] h = refl
factors-front ws more n (z ∷ zs) h =
    ap (λ w. unsigned_abs z * w + factors_weight (ws ++ more) (suc n) zs)
    (weight-front ws more n (omega (arith, h)))
    ∙ ap (λ w. unsigned_abs z * weight_in ws n + w) (factors-front ws more (suc n) zs (omega (arith, h)))

ranges-front : (ws more : List ℕ) (n : ℕ) (rs : List Range) → n + length rs ≤ length ws →
    are_ranges_within ws n rs ≡ true → are_ranges_within (ws ++ more) n rs ≡ true
ranges-front ws more n [] h e = refl
ranges-front ws more n (r ∷ rs) h e =
    let a = and_parts (is_range_within (weight_in ws n) r) (are_ranges_within ws (suc n) rs) e in
    ap (λ t. t && are_ranges_within (ws ++ more) (suc n) rs)
    (ap (λ w. is_range_within w r) (weight-front ws more n (omega (arith, h))) ∙ a.0)
    ∙ ranges-front ws more (suc n) rs (omega (arith, h)) a.1

taken-heavier : (ws more : List ℕ) (vs : List Variable) (n : ℕ) (facts : List Fact) → length vs + n ≤ length ws →
    AreTaken ws vs n facts → AreTaken (ws ++ more) vs n facts
taken-heavier ws more vs zero facts h t = tt
taken-heavier ws more vs (suc n) facts h t =
    let x = t.1 in let l = scope-length vs n in let long = x.long in let w = x.weight in
    let a = factors-front ws more 0 x.line.factors (omega (arith, h, l, long)) in
    let b = ap (λ k. unsigned_abs x.divisor * k) (weight-front ws more (length (scope vs n)) (omega (arith, h, l))) in (
      taken-heavier ws more vs n facts (omega (arith, h)) t.0,
      record {
        place = x.place;
        line = x.line;
        divisor = x.divisor;
        long = x.long;
        positive = x.positive;
        unnamed = x.unnamed;
        low = x.low;
        high = x.high;
        weight = omega (arith, a, b, w);
      },
    )

-- A side of a waiting formula.
pub fixes-side : (vs : List Variable) (rs : List Range) (f g : CForm) (b : Branch) →
    ((weight : Bool → ℕ → ℕ) → form_dividends weight g ≤ form_dividends weight f) →
    Fixes vs rs (waiting_only b (f ∷ b.waiting)) → Fixes vs rs (settled (scope_of vs b) g b)
fixes-side vs rs f g b less x = record {
  weights = x.weights;
  weighed = record {
    long = x.weighed.long;
    limits = x.weighed.limits;
    ranges = x.weighed.ranges;
    waiting = λ weight w.
        let s = and_parts (are_dividends_small weight f) (list_all (are_dividends_small weight) b.waiting)
        (x.weighed.waiting weight w) in
        let k = small-out weight f s.0 in let l = less weight in
        settled-small weight (scope_of vs b) g b (omega (arith, k, l)) s.1;
  };
  taken = taken-more x.weights vs b.added b.facts (outcome (scope_of vs b) g).yes.facts x.taken;
}

-- A half of a range.
between : (w : ℕ) (lo z hi : ℤ) → lo ≤ℤ z → z ≤ℤ hi → unsigned_abs lo ≤ w → unsigned_abs hi ≤ w → unsigned_abs z ≤ w
between w lo (pos a) (pos b) p q h k = omega (arith, ints, q, k)
between w lo (pos a) (negsuc b) p q h k = absurd (omega (arith, ints, q))
between w (pos a) (negsuc c) hi p q h k = absurd (omega (arith, ints, p))
between w (negsuc a) (negsuc c) hi p q h k = omega (arith, ints, p, h)

range-within : (w : ℕ) (lo hi : ℤ) → unsigned_abs lo ≤ w → unsigned_abs hi ≤ w →
    is_range_within w (record { lo = lo; hi = hi }) ≡ true
range-within w lo hi h k =
    ap (λ t. t && nat_le (unsigned_abs hi) w) (le-true (unsigned_abs lo) w h) ∙ le-true (unsigned_abs hi) w k

ends-within : (w : ℕ) (r : Range) → is_range_within w r ≡ true → (unsigned_abs r.lo ≤ w) × (unsigned_abs r.hi ≤ w)
ends-within w r e =
    let a = and_parts (nat_le (unsigned_abs r.lo) w) (nat_le (unsigned_abs r.hi) w) e in
    (le-is (unsigned_abs r.lo) w a.0, le-is (unsigned_abs r.hi) w a.1)

high-within : (ws : List ℕ) (n : ℕ) (rs : List Range) (i : ℕ) (r : Range) (at : ℤ) → slice_get rs i ≡ Some r →
    r.lo ≤ℤ at → at ≤ℤ r.hi → are_ranges_within ws n rs ≡ true → are_ranges_within ws n (with_high rs i at) ≡ true
high-within ws n [] i r at e p q h = refl
high-within ws n (x ∷ rs) zero r at e p q h =
    let s : x ≡ r = cc in
    let a = and_parts (is_range_within (weight_in ws n) x) (are_ranges_within ws (suc n) rs) h in
    let b = ends-within (weight_in ws n) r (ap (is_range_within (weight_in ws n)) (sym s) ∙ a.0) in
    ap (λ (z : Range). is_range_within (weight_in ws n) (record { lo = z.lo; hi = at }) && are_ranges_within ws
    (suc n) rs) s
    ∙ ap (λ t. t && are_ranges_within ws (suc n) rs)
    (range-within (weight_in ws n) r.lo at b.0 (between (weight_in ws n) r.lo at r.hi p q b.0 b.1)) ∙ a.1
high-within ws n (x ∷ rs) (suc i) r at e p q h =
    let a = and_parts (is_range_within (weight_in ws n) x) (are_ranges_within ws (suc n) rs) h in
    ap (λ t. t && are_ranges_within ws (suc n) (with_high rs i at)) a.0
    ∙ high-within ws (suc n) rs i r at e p q a.1

low-within : (ws : List ℕ) (n : ℕ) (rs : List Range) (i : ℕ) (r : Range) (at : ℤ) → slice_get rs i ≡ Some r →
    r.lo ≤ℤ at → at ≤ℤ r.hi → are_ranges_within ws n rs ≡ true → are_ranges_within ws n (with_low rs i at) ≡ true
low-within ws n [] i r at e p q h = refl
low-within ws n (x ∷ rs) zero r at e p q h =
    let s : x ≡ r = cc in
    let a = and_parts (is_range_within (weight_in ws n) x) (are_ranges_within ws (suc n) rs) h in
    let b = ends-within (weight_in ws n) r (ap (is_range_within (weight_in ws n)) (sym s) ∙ a.0) in
    ap (λ (z : Range). is_range_within (weight_in ws n) (record { lo = at; hi = z.hi }) && are_ranges_within ws
    (suc n) rs) s
    ∙ ap (λ t. t && are_ranges_within ws (suc n) rs)
    (range-within (weight_in ws n) at r.hi (between (weight_in ws n) r.lo at r.hi p q b.0 b.1) b.1) ∙ a.1
low-within ws n (x ∷ rs) (suc i) r at e p q h =
    let a = and_parts (is_range_within (weight_in ws n) x) (are_ranges_within ws (suc n) rs) h in
    ap (λ t. t && are_ranges_within ws (suc n) (with_low rs i at)) a.0
    ∙ low-within ws (suc n) rs i r at e p q a.1

half-fixes : (vs : List Variable) (rs qs : List Range) (b : Branch) (f : Fact) → b.waiting ≡ [] →
    ((ws : List ℕ) → are_ranges_within ws 0 rs ≡ true → are_ranges_within ws 0 qs ≡ true) → Fixes vs rs b →
    Fixes vs qs (added b f)
half-fixes vs rs qs b f w within x = record {
  weights = x.weights;
  weighed = record {
    long = x.weighed.long;
    limits = x.weighed.limits;
    ranges = within x.weights x.weighed.ranges;
    waiting = λ weight k. ap (λ z. list_all (are_dividends_small weight) (z ++ [])) w;
  };
  taken = taken-more x.weights vs b.added b.facts (f ∷ []) x.taken;
}

pub fixes-low : (vs : List Variable) (rs : List Range) (b : Branch) (place : ℕ) (at : ℤ) →
    list_all is_sound_range rs ≡ true → b.waiting ≡ [] → first_cut 0 rs ≡ Some (record { place = place; at = at }) →
    Fixes vs rs b → Fixes vs (with_high rs place at) (added b (at_most place at))
fixes-low vs rs b place at sound w e x =
    let g = good-cut rs place at sound e in
    let low : g.range.lo ≤ℤ at = let q = g.is in let m = g.middle.low in omega (arith, ints, q, m) in
    let high : at ≤ℤ g.range.hi = let q = g.is in let m = g.middle.high in omega (arith, ints, q, m) in
    half-fixes vs rs (with_high rs place at) b (at_most place at) w
    (λ ws h. high-within ws 0 rs place g.range at g.there low high h) x

pub fixes-high : (vs : List Variable) (rs : List Range) (b : Branch) (place : ℕ) (at : ℤ) →
    list_all is_sound_range rs ≡ true → b.waiting ≡ [] → first_cut 0 rs ≡ Some (record { place = place; at = at }) →
    Fixes vs rs b → Fixes vs (with_low rs place (at +ℤ pos 1)) (added b (at_least place (at +ℤ pos 1)))
fixes-high vs rs b place at sound w e x =
    let g = good-cut rs place at sound e in
    let low : g.range.lo ≤ℤ (at +ℤ pos 1) = let q = g.is in let m = g.middle.low in omega (arith, ints, q, m) in
    let high : (at +ℤ pos 1) ≤ℤ g.range.hi = let q = g.is in let m = g.middle.high in omega (arith, ints, q, m) in
    half-fixes vs rs (with_low rs place (at +ℤ pos 1)) b (at_least place (at +ℤ pos 1)) w
    (λ ws h. low-within ws 0 rs place g.range (at +ℤ pos 1) g.there low high h) x

-- A quotient that is taken.
get-last : {A : Type 0} (xs : List A) (x : A) (ys : List A) → slice_get (xs ++ x ∷ ys) (length xs) ≡ Some x
get-last [] x ys = refl
get-last (z ∷ xs) x ys = get-last xs x ys

get-after : {A : Type 0} (xs : List A) (x y : A) (ys : List A) →
    slice_get (xs ++ x ∷ y ∷ ys) (suc (length xs)) ≡ Some y
get-after [] x y ys = refl
get-after (z ∷ xs) x y ys = get-after xs x y ys

take-front : {A : Type 0} (xs ys : List A) → take (length xs) (xs ++ ys) ≡ xs
take-front [] ys = refl
take-front (x ∷ xs) ys = ap (λ z. x ∷ z) (take-front xs ys)

int-positive : (d : ℤ) → IsTrue (int_le (pos 1) d) → pos 1 ≤ℤ d
int-positive d h = grind (arith, ints)

abs-positive : (d : ℤ) → pos 1 ≤ℤ d → 1 ≤ unsigned_abs d
abs-positive (pos n) h = omega (arith, ints, h)
abs-positive (negsuc n) h = absurd (omega (arith, ints, h))

module _ (vs : List Variable) (rs : List Range) (f : CForm) (r : Replaced) (b : Branch)
    (is : without_quotient (next_param (scope_of vs b)) f ≡ Some r) (long : length rs ≡ length vs)
    (closed : list_all (λ (f : Fact). is_within (length (scope_of vs b)) f.factors) b.facts ≡ true)
    (fixes : Fixes vs rs (waiting_only b (f ∷ b.waiting))) where
  abbrev us : List Variable
  us = scope_of vs b

  abbrev line : Line
  line = linear us r.taken.of

  abbrev low : Fact
  low = low_fact us r.taken

  abbrev high : Fact
  high = high_fact us r.taken

  abbrev base : Branch
  base = added (added (one_more b) low) high

  abbrev more : List Fact
  more = (outcome (with_next us) r.form).yes.facts

  abbrev ws : List ℕ
  ws = fixes.weights

  abbrev size : ℕ
  size = unsigned_abs r.taken.divisor

  positive : pos 1 ≤ℤ r.taken.divisor
  positive =
      let named = replaced-named us f r is in
      int-positive r.taken.divisor
      (subst (λ d. IsTrue (int_le (pos 1) d)) (sym named.divides) (divisor_is_positive named.by))

  abbrev chosen : ℕ
  chosen = (some-weight size (abs-positive r.taken.divisor positive) (line_weight ws line)).0

  abbrev longer : List ℕ
  longer = ws ++ chosen ∷ []

  -- a weight of all variables is one of those before
  earlier : (weight : Bool → ℕ → ℕ) → Weighs (with_next us) longer weight → Weighs us ws weight
  earlier weight w param n h =
      let l = length-next us in let s = fixes.weighed.long in
      let p = place-grows us _ param n h in
      w param n (omega (arith, p, h, l)) ∙ ap (weight_in longer) p
      ∙ weight-front ws (chosen ∷ []) (place_of us param n) (omega (arith, h, s))

  own-weight : (weight : Bool → ℕ → ℕ) → Weighs (with_next us) longer weight → weight true (next_param us) ≡ chosen
  own-weight weight w =
      let p = place-next us in let l = length-next us in
      w true (next_param us) (omega (arith, p, l)) ∙ ap (weight_in longer) p
      ∙ weight-last ws chosen (length us) (sym fixes.weighed.long)

  abbrev plain-weight : Bool → ℕ → ℕ
  plain-weight param n = weight_in ws (place_of us param n)

  of-small : (weight : Bool → ℕ → ℕ) → Weighs us ws weight →
      (term_dividends weight r.taken.of).own ≤ 2 ^ 62
  of-small weight w =
      let s = and_parts (are_dividends_small weight f) (list_all (are_dividends_small weight) b.waiting)
      (fixes.weighed.waiting weight w) in
      let k = small-out weight f s.0 in
      let l = (without-small weight (next_param us) f r is).of in omega (arith, k, l)

  line-small : line_weight ws line ≤ 2 ^ 62
  line-small =
      let a = line-within us ws plain-weight (λ param n h. refl) r.taken.of in
      let b = of-small plain-weight (λ param n h. refl) in omega (arith, a, b)

  base-waiting : base.waiting ≡ b.waiting
  base-waiting = append-none (b.waiting ++ []) ∙ append-none b.waiting

  waiting-small : (weight : Bool → ℕ → ℕ) → Weighs (with_next us) longer weight →
      list_all (are_dividends_small weight) (with_quotient us r b).waiting ≡ true
  waiting-small weight w =
      let v = earlier weight w in
      let s = and_parts (are_dividends_small weight f) (list_all (are_dividends_small weight) b.waiting)
      (fixes.weighed.waiting weight v) in
      let k = small-out weight f s.0 in
      let suits = (some-weight size (abs-positive r.taken.divisor positive) (line_weight ws line)).1 in
      let own = own-weight weight w in
      let l = line-within us ws weight v r.taken.of in
      let small = suits.small in let most = suits.most in
      let same = ap (λ n. size * n) own in
      let form = (without-small weight (next_param us) f r is).form (record {
        own = omega (arith, own, small, l);
        times = omega (arith, same, most, l);
      }) in
      settled-small weight (with_next us) r.form base (omega (arith, form, k))
      (ap (list_all (are_dividends_small weight)) base-waiting ∙ s.1)

  all-facts : (with_quotient us r b).facts ≡ b.facts ++ low ∷ high ∷ more
  all-facts = append-more (b.facts ++ low ∷ []) (high ∷ []) more ∙ append-more b.facts (low ∷ []) (high ∷ more)

  new-taken : IsTaken longer us (b.facts ++ low ∷ high ∷ more)
  new-taken =
      let suits = (some-weight size (abs-positive r.taken.divisor positive) (line_weight ws line)).1 in
      let least = suits.least in let s = fixes.weighed.long in let l = linear-long us r.taken.of in
      let a = factors-front ws (chosen ∷ []) 0 line.factors (omega (arith, l, s)) in
      let w = ap (λ n. size * n) (weight-last ws chosen (length us) (sym fixes.weighed.long)) in
      record {
        place = length b.facts;
        line = line;
        divisor = r.taken.divisor;
        long = l;
        positive = positive;
        unnamed = ap (list_all (λ (f : Fact). is_within (length us) f.factors))
            (take-front b.facts (low ∷ high ∷ more)) ∙ closed;
        low = get-last b.facts low (high ∷ more);
        high = get-after b.facts low high more;
        weight = omega (arith, least, a, w);
      }

  pub fixes-quot : Fixes vs rs (with_quotient us r b)
  fixes-quot =
      let s = fixes.weighed.long in let n = length-next us in let c = scope-length vs b.added in
      let suits = (some-weight size (abs-positive r.taken.divisor positive) (line_weight ws line)).1 in
      let some = suits.some in let small = suits.small in let light = line-small in
      record {
        weights = longer;
        weighed = record {
          long = length-last ws chosen ∙ ap suc s ∙ sym n;
          limits = all-last is_weight ws chosen fixes.weighed.limits
              (ap (λ t. t && nat_le chosen (2 ^ 62)) (le-true 1 chosen some)
              ∙ le-true chosen (2 ^ 62) (omega (arith, small, light)));
          ranges = ranges-front ws (chosen ∷ []) 0 rs (omega (arith, s, c, long)) fixes.weighed.ranges;
          waiting = waiting-small;
        };
        taken = subst (AreTaken longer vs (suc b.added)) (sym all-facts) (
          taken-heavier ws (chosen ∷ []) vs b.added (b.facts ++ low ∷ high ∷ more) (omega (arith, s, c))
              (taken-more ws vs b.added b.facts (low ∷ high ∷ more) fixes.taken),
          new-taken,
        );
      }
    where
      length-last : (xs : List ℕ) (x : ℕ) → length (xs ++ x ∷ []) ≡ suc (length xs)
      length-last [] x = refl
      length-last (y ∷ xs) x = ap suc (length-last xs x)

-- The first branch.
abbrev own_weights : List Variable → List ℕ
own_weights vs = map (λ (v : Variable). range_weight (Some v.range)) vs

module _ (o : Obligation) (m : IsObligation o) where
  length-own : (vs : List Variable) → length (own_weights vs) ≡ length vs
  length-own [] = refl
  length-own (v ∷ vs) = ap suc (length-own vs)

  own-limits : (vs : List Variable) → list_all is_sound_range (ranges_of vs) ≡ true →
      list_all is_weight (own_weights vs) ≡ true
  own-limits [] h = refl
  own-limits (v ∷ vs) h =
      let a = and_parts (is_sound_range v.range) (list_all is_sound_range (ranges_of vs)) h in
      let b = and_parts (int_le v.range.lo v.range.hi)
      (nat_le (unsigned_abs v.range.lo) (2 ^ 62) && nat_le (unsigned_abs v.range.hi) (2 ^ 62)) a.0 in
      let c = and_parts (nat_le (unsigned_abs v.range.lo) (2 ^ 62)) (nat_le (unsigned_abs v.range.hi) (2 ^ 62)) b.1 in
      let lo = le-is (unsigned_abs v.range.lo) (2 ^ 62) c.0 in
      let hi = le-is (unsigned_abs v.range.hi) (2 ^ 62) c.1 in
      let w : ℕ = range_weight (Some v.range) in
      ap (λ t. (t && nat_le w (2 ^ 62)) && list_all is_weight (own_weights vs)) (le-true 1 w (omega arith))
      ∙ ap (λ t. t && list_all is_weight (own_weights vs)) (le-true w (2 ^ 62) (omega (arith, lo, hi)))
      ∙ own-limits vs a.1

  own-ranges : (all : List ℕ) (n : ℕ) (vs : List Variable) →
      ((p : ℕ) → p < length vs → weight_in all (n + p) ≡ weight_in (own_weights vs) p) →
      are_ranges_within all n (ranges_of vs) ≡ true
  own-ranges all n [] h = refl
  own-ranges all n (v ∷ vs) h =
      let z : n + 0 ≡ n = omega arith in
      let e = sym (ap (weight_in all) z) ∙ h 0 (omega arith) in
      ap (λ t. t && are_ranges_within all (suc n) (ranges_of vs))
      (ap (λ w. is_range_within w v.range) e ∙ range-within (range_weight (Some v.range)) v.range.lo v.range.hi
      (omega arith) (omega arith))
      ∙ own-ranges all (suc n) vs (λ p k. let y : suc n + p ≡ n + suc p = omega arith in
      ap (weight_in all) y ∙ h (suc p) (omega (arith, k)))

  own-weighs : (vs : List Variable) (p : ℕ) → p < length vs →
      weight_in (own_weights vs) p ≡ range_weight (option_map (λ (v : Variable). v.range) (slice_get vs p))
  own-weighs [] p h = absurd (omega arith)
  own-weighs (v ∷ vs) zero h = refl
  own-weighs (v ∷ vs) (suc p) h = own-weighs vs p (omega (arith, h))

  root-small : (weight : Bool → ℕ → ℕ) → Weighs o.variables (own_weights o.variables) weight →
      form_dividends weight o.form ≤ 2 ^ 62
  root-small weight w =
      let d = dividends-within weight (variable_weight o.variables false) (variable_weight o.variables true)
      (λ param n. place_of o.variables param n < length o.variables)
      (λ n h. named false n h) (λ n h. named true n h) o.form m.complete in
      let k = obligation-weight o m in omega (arith, d, k)
    where
      named : (param : Bool) (n : ℕ) → place_of o.variables param n < length o.variables →
          weight param n ≤ variable_weight o.variables param n
      named param n h =
          let a = w param n h in let b = own-weighs o.variables (place_of o.variables param n) h in omega (arith, a, b)

  pub root-fixes : Fixes o.variables (ranges_of o.variables) (first_branch o)
  root-fixes = record {
    weights = own_weights o.variables;
    weighed = record {
      long = length-own o.variables;
      limits = own-limits o.variables (obligation-sound o m);
      ranges = own-ranges (own_weights o.variables) 0 o.variables
          (λ p h. ap (weight_in (own_weights o.variables)) (zero-plus p));
      waiting = λ weight w. refused-small weight o.variables o.form (ranges_only o.variables) (root-small weight w)
          refl;
    };
    taken = tt;
  }
    where
      zero-plus : (n : ℕ) → 0 + n ≡ n
      zero-plus n = omega arith
