-- At a leaf with every variable fixed and no fact out of reach, all facts hold.
use Rattle.std.proofs.Common.{◌≡◌, ℕ, zero, suc, ◌+◌, ◌*◌, ◌≤◌, ◌<◌, ◌^◌, nat_eq, nat_le, ℤ, pos, negsuc, neg_ℤ, ◌+ℤ◌}
use Rattle.std.proofs.Common.{◌*ℤ◌, ◌≤ℤ◌, Bool, true, false, cond, not, ◌&&◌, ◌||◌, inl, inr, Option, Some, None}
use Rattle.std.proofs.Common.{List, [], ◌∷◌, length, map, slice_get, mul-le-mul, le_refl, arith, refl, sym, ap, subst}
use Rattle.std.proofs.Common.{◌∙◌}
use Rattle.std.specs.List.{list_all, list_any}
use Rattle.std.specs.Int.RustNames.{int_le, unsigned_abs}
use Rattle.std.proofs.lemmas.Int.{ints}
use Rattle.std.proofs.lemmas.Bool.{and_parts}
use Rattle.obligations.specs.declared.branches.Fact.{Fact}
use Rattle.core_terms.specs.declared.trees.Range.{Range}
use Rattle.core_terms.specs.Values.{number_at}
use Rattle.meaning_states.specs.State.{int_eq}
use Rattle.obligations.specs.LinearForms.{sum_of, fact_holds}
use Rattle.obligations.specs.Opening.{at_least, at_most}
use Rattle.obligations.specs.declared.branches.Bound.{Bound}
use Rattle.obligations.specs.Reach.{is_exact, are_exact, is_within, is_bound_of, tighter, bound_at, tightest, Total}
use Rattle.obligations.specs.Reach.{total_with, total_of, is_refuted_by, bounds_refute, clash, is_out_of_reach}
use Rattle.obligations.specs.Reach.{some_out_of_reach}
use Rattle.obligations.specs.Plain.{first_cut, middle}
use Rattle.search_tree.specs.Searching.{Has, AreBounded, widths, is_slender}
use Rattle.obligations.specs.Obligations.{is_sound_range}
use Rattle.linear_prover.specs.Chains.{is_plain_factor}
use Rattle.linear_prover.proofs.SumLaws.{bound-is}

le-is : (a b : ℕ) → nat_le a b ≡ true → a ≤ b
le-is a b h = grind arith

le-true : (a b : ℕ) → a ≤ b → nat_le a b ≡ true
le-true a b h = grind arith

eq-refl : (a : ℕ) → nat_eq a a ≡ true
eq-refl a = grind arith

int-eq-refl : (a : ℤ) → int_eq a a ≡ true
int-eq-refl a = grind (arith, ints)

int-le-is : (a b : ℤ) → int_le a b ≡ true → a ≤ℤ b
int-le-is a b h = grind (arith, ints)

int-gt-is : (a b : ℤ) → int_le a b ≡ false → b ≤ℤ a
int-gt-is a b h = grind (arith, ints)

int-le-true : (a b : ℤ) → a ≤ℤ b → int_le a b ≡ true
int-le-true a b h = grind (arith, ints)

-- a bound of the list is no tighter than the tightest
pub record Reached (facts : List Fact) (n v : ℕ) (side c : ℤ) : Type 0 where
  pub bound : Bound
  pub is : tightest n v side facts ≡ Some bound
  pub tight : bound.constant ≤ℤ c

own-bound : (n v : ℕ) (side : ℤ) (g : Fact) → g.factors ≡ (v, side) ∷ [] → bound_at n v side g ≡ Some
    (record { place = n; constant = g.constant })
own-bound n v side g e =
    ap (λ z. cond (is_bound_of v side z) (Some (record { place = n; constant = g.constant })) None) e
    ∙ ap (λ t. cond (t && int_eq side side) (Some (record { place = n; constant = g.constant })) None) (eq-refl v) ∙
    ap (λ t. cond t (Some (record { place = n; constant = g.constant })) None) (int-eq-refl side)

first-reached : (n v : ℕ) (side : ℤ) (g : Fact) (facts : List Fact) → g.factors ≡ (v, side) ∷ [] → Reached (g ∷ facts)
    n v side g.constant
first-reached n v side g facts e = rest (tightest (suc n) v side facts) refl
  where
    b : Bound
    b = record { place = n; constant = g.constant }

    chosen : (c : Bound) (t : Bool) → int_le g.constant c.constant ≡ t → (cond t b c).constant ≤ℤ g.constant
    chosen c true q = omega (arith, ints)
    chosen c false q = int-gt-is g.constant c.constant q

    rest : (o : Option Bound) → tightest (suc n) v side facts ≡ o → Reached (g ∷ facts) n v side g.constant
    rest None q = record {
      bound = b;
      is = ap (λ z. tighter z (tightest (suc n) v side facts))
          (own-bound n v side g e) ∙ ap (tighter (Some b)) q;
      tight = omega (arith, ints);
    }
    rest (Some c) q = record {
      bound = cond (int_le g.constant c.constant) b c;
      is = ap
          (λ z. tighter z (tightest (suc n) v side facts)) (own-bound n v side g e) ∙ ap (tighter (Some b)) q;
      tight =
          chosen c (int_le g.constant c.constant) refl;
    }

more-reached : (n v : ℕ) (side c : ℤ) (g : Fact) (facts : List Fact) → Reached facts (suc n) v side c → Reached
    (g ∷ facts) n v side c
more-reached n v side c g facts r = own (is_bound_of v side g.factors) refl
  where
    b : Bound
    b = record { place = n; constant = g.constant }

    chosen : (t : Bool) → int_le g.constant r.bound.constant ≡ t → r.bound.constant ≤ℤ c → (cond t b r.bound).constant
        ≤ℤ c
    chosen true q h = let k = int-le-is g.constant r.bound.constant q in omega (arith, ints, k, h)
    chosen false q h = h

    own : (t : Bool) → is_bound_of v side g.factors ≡ t → Reached (g ∷ facts) n v side c
    own true q = record {
      bound = cond (int_le g.constant r.bound.constant) b r.bound;
      is = ap (λ t. tighter (cond t (Some b) None) (tightest (suc n) v side facts)) q ∙ ap (tighter (Some b)) r.is;
      tight = chosen (int_le g.constant r.bound.constant) refl r.tight;
    }
    own false q = record {
      bound = r.bound;
      is = ap (λ t. tighter (cond t (Some b) None)
          (tightest (suc n) v side facts)) q ∙ r.is;
      tight = r.tight;
    }

pub reached : (facts : List Fact) (n v : ℕ) (side c : ℤ) (g : Fact) → Has facts g → g.factors ≡ (v, side) ∷ [] →
    g.constant ≡ c → Reached facts n v side c
reached [] n v side c g h e q = absurd h
reached (f ∷ facts) n v side c g (inl s) e q = subst (Reached (f ∷ facts) n v side)
    (ap (λ (x : Fact). x.constant) s ∙ q) (first-reached n v side f facts (ap (λ (x : Fact). x.factors) s ∙ e))
reached (f ∷ facts) n v side c g (inr h) e q = more-reached n v side c f facts
    (reached facts (suc n) v side c g h e q)

none-out : (facts all : List Fact) (n : ℕ) (f : Fact) → list_any (is_out_of_reach all) facts ≡ false → slice_get facts
    n ≡ Some f → bounds_refute all f ≡ false
none-out [] all n f u e = cc
none-out (g ∷ facts) all zero f u e = let s : g ≡ f = cc in subst (λ z. bounds_refute all z ≡ false) s
    (first (bounds_refute all g) (list_any (clash g) all) (list_any (is_out_of_reach all) facts) u)
  where
    first : (a b c : Bool) → ((a || b) || c) ≡ false → a ≡ false
    first true b c h = cc
    first false b c h = refl
none-out (g ∷ facts) all (suc n) f u e = none-out facts all n f
    (second (is_out_of_reach all g) (list_any (is_out_of_reach all) facts) u) e
  where
    second : (a b : Bool) → (a || b) ≡ false → b ≡ false
    second true b h = cc
    second false b h = h

-- what a slender fact's numbers are
abbrev pub Slight : Fact → Type 0
Slight f =
    (list_all is_plain_factor f.factors ≡ true) × (widths f.factors ≤ 2 ^ 63) × (unsigned_abs f.constant ≤ 2 ^ 64)

pub slender-at : (facts : List Fact) (n : ℕ) (f : Fact) → list_all is_slender facts ≡ true →
    slice_get facts n ≡ Some f →
    Slight f
slender-at [] n f s e = cc
slender-at (g ∷ facts) zero f s e =
    let q : g ≡ f = cc in
    let a = and_parts (is_slender g) (list_all is_slender facts) s in
    let b = and_parts (list_all is_plain_factor g.factors)
    (nat_le (widths g.factors) (2 ^ 63) && nat_le (unsigned_abs g.constant) (2 ^ 64)) a.0 in
    let c = and_parts (nat_le (widths g.factors) (2 ^ 63)) (nat_le (unsigned_abs g.constant) (2 ^ 64)) b.1 in
    subst Slight q (b.0, le-is (widths g.factors) (2 ^ 63) c.0, le-is (unsigned_abs g.constant) (2 ^ 64) c.1)
slender-at (g ∷ facts) (suc n) f s e = slender-at facts n f (and_parts (is_slender g) (list_all is_slender facts) s).1
    e

-- both bounds of a variable are its value
pub record Fixed (facts : List Fact) (v : ℕ) (z : ℤ) : Type 0 where
  pub low : Bound
  pub lows : tightest 0 v (pos 1) facts ≡ Some low
  pub low-is : low.constant ≡ neg_ℤ z
  pub high : Bound
  pub highs : tightest 0 v (negsuc 0) facts ≡ Some high
  pub high-is : high.constant ≡ z
  pub small : unsigned_abs z ≤ 2 ^ 62

pub fixed : (facts : List Fact) (v : ℕ) (z : ℤ) → some_out_of_reach facts ≡ false → list_all is_slender facts ≡ true →
    Has facts (at_least v z) → Has facts (at_most v z) → unsigned_abs z ≤ 2 ^ 62 → Fixed facts v z
fixed facts v z u s h k small =
    let low = reached facts 0 v (pos 1) (neg_ℤ z) (at_least v z) h refl refl in
    let high = reached facts 0 v (negsuc 0) z (at_most v z) k refl refl in
    let l = bound-is facts 0 v (pos 1) low.bound low.is in
    let g = bound-is facts 0 v (negsuc 0) high.bound high.is in
    let ls = (slender-at facts l.place l.fact s l.there).2 in
    let gs = (slender-at facts g.place g.fact s g.there).2 in
    let lc = l.constant in let gc = g.constant in
    let lc' = ap unsigned_abs lc in let gc' = ap unsigned_abs gc in
    let total : total_of facts l.fact.factors ≡ Some (record {
      value = pos 1 *ℤ high.bound.constant +ℤ pos 0;
      load = 1 * unsigned_abs high.bound.constant + 0;
      light =
          true;
    }) =
    ap (total_of facts) l.factors ∙ ap (λ o. total_with (pos 1) o
    (Some (record { value = pos 0; load = 0; light = true }))) high.is in
    let safe : is_refuted_by l.fact.constant (Some (record {
      value = pos 1 *ℤ high.bound.constant +ℤ pos 0;
      load = 1 *
          unsigned_abs high.bound.constant + 0;
      light = true;
    })) ≡ false =
    ap (is_refuted_by l.fact.constant) (sym total) ∙ none-out facts facts l.place l.fact u l.there in
    let room : nat_le (unsigned_abs l.fact.constant + (1 * unsigned_abs high.bound.constant + 0)) (2 ^ 126) ≡ true =
    le-true _ (2 ^ 126) (omega (arith, ls, gs, gc')) in
    let least : (pos 0) ≤ℤ (l.fact.constant +ℤ (pos 1 *ℤ high.bound.constant +ℤ pos 0)) =
    int-le-is (pos 0) _ (not-not (int_le (pos 0) (l.fact.constant +ℤ (pos 1 *ℤ high.bound.constant +ℤ pos 0)))
    (ap (λ t. t && not (int_le (pos 0) (l.fact.constant +ℤ (pos 1 *ℤ high.bound.constant +ℤ pos 0)))) (sym room) ∙
    safe)) in
    let lt = low.tight in let gt = high.tight in
    record {
      low = low.bound;
      lows = low.is;
      low-is = omega (arith, ints, least, lt, gt, lc);
      high = high.bound;
      highs = high.is;
      high-is = omega (arith, ints, least, lt, gt, lc);
      small = small;
    }
  where
    not-not : (t : Bool) → not t ≡ false → t ≡ true
    not-not true h = refl
    not-not false h = cc

-- The total of a fact's factors is their value.
pub record TotalIs (facts : List Fact) (fs : List (ℕ × ℤ)) (values : List ℤ) : Type 0 where
  pub total : Total
  pub is : total_of facts fs ≡ Some total
  pub value : total.value ≡ sum_of values fs
  pub load : total.load ≤ widths fs * 2 ^ 62
  pub light : total.light ≡ true

neg-times : (n : ℕ) (z : ℤ) → pos (suc n) *ℤ neg_ℤ z ≡ negsuc n *ℤ z
neg-times n (pos zero) = omega (arith, ints)
neg-times n (pos (suc m)) = omega (arith, ints)
neg-times n (negsuc m) = omega (arith, ints)

abs-neg : (z : ℤ) → unsigned_abs (neg_ℤ z) ≡ unsigned_abs z
abs-neg (pos zero) = refl
abs-neg (pos (suc n)) = refl
abs-neg (negsuc n) = refl

total-step : (facts : List Fact) (fs : List (ℕ × ℤ)) (values : List ℤ) (v : ℕ) (a : ℤ) → Fixed facts v
    (number_at values v) → TotalIs facts fs values → unsigned_abs a ≤ 2 ^ 62 → TotalIs facts ((v, a) ∷ fs) values
total-step facts fs values v (pos n) x r h =
    let size : unsigned_abs x.high.constant ≡ unsigned_abs (number_at values v) = ap unsigned_abs x.high-is in
    let small = x.small in let load = r.load in
    let part : n * unsigned_abs x.high.constant ≤ n * 2 ^ 62 = mul-le-mul (le_refl n) (omega (arith, size, small)) in
    record {
      total = record {
        value = pos n *ℤ x.high.constant +ℤ r.total.value;
        load = n * unsigned_abs x.high.constant +
            r.total.load;
        light = nat_le n (2 ^ 62) && r.total.light;
      };
      is = ap (λ o. total_with (pos n) o (total_of facts fs)) x.highs ∙ ap (total_with (pos n) (Some x.high)) r.is;
      value = ap (λ w. pos n *ℤ w +ℤ r.total.value) x.high-is ∙ ap (λ w. pos n *ℤ number_at values v +ℤ w) r.value;
      load = omega (arith, part, load);
      light = ap (λ t. t && r.total.light) (le-true n (2 ^ 62) h) ∙ r.light;
    }
total-step facts fs values v (negsuc n) x r h =
    let size : unsigned_abs x.low.constant ≡ unsigned_abs (number_at values v) = ap unsigned_abs x.low-is ∙ abs-neg
    (number_at values v) in
    let small = x.small in let load = r.load in
    let part : suc n * unsigned_abs x.low.constant ≤ suc n * 2 ^ 62 = mul-le-mul (le_refl (suc n))
    (omega (arith, size, small)) in
    record {
      total = record {
        value = pos (suc n) *ℤ x.low.constant +ℤ r.total.value;
        load = suc n * unsigned_abs
            x.low.constant + r.total.load;
        light = nat_le (suc n) (2 ^ 62) && r.total.light;
      };
      is = ap (λ o. total_with (negsuc n) o (total_of facts fs)) x.lows ∙ ap (total_with (negsuc n) (Some x.low))
          r.is;
      value = ap (λ w. pos (suc n) *ℤ w +ℤ r.total.value) x.low-is ∙ ap (λ w. w +ℤ r.total.value)
          (neg-times n (number_at values v)) ∙ ap (λ w. negsuc n *ℤ number_at values v +ℤ w) r.value;
      load = omega (arith, part, load);
      light = ap (λ t. t && r.total.light) (le-true (suc n) (2 ^ 62) h) ∙ r.light;
    }

pub total-is : (facts : List Fact) (fs : List (ℕ × ℤ)) (count : ℕ) (values : List ℤ) →
    ((v : ℕ) → v < count → Fixed facts v (number_at values v)) → is_within count fs ≡ true →
    list_all is_plain_factor fs ≡ true →
    TotalIs facts fs values
total-is facts [] count values fix w h = record {
  total = record { value = pos 0; load = 0; light = true };
  is = refl;
  value = refl;
  load = omega arith;
  light = refl;
}
total-is facts (f ∷ fs) count values fix w h =
    let within = and_parts (nat_le (suc f.0) count) (is_within count fs) w in
    let inside = le-is (suc f.0) count within.0 in
    let plain = and_parts (is_plain_factor f) (list_all is_plain_factor fs) h in
    total-step facts fs values f.0 f.1 (fix f.0 (omega (arith, inside)))
    (total-is facts fs count values fix within.1 plain.1) (le-is (unsigned_abs f.1) (2 ^ 62) plain.0)

-- a fact that is not refuted by fixed bounds holds
fact-met : (facts : List Fact) (f : Fact) (values : List ℤ) → TotalIs facts f.factors values → widths f.factors ≤ 2 ^
    63 → unsigned_abs f.constant ≤ 2 ^ 64 → bounds_refute facts f ≡ false → fact_holds values f ≡ true
fact-met facts f values t w c safe =
    let load = t.load in
    let most : widths f.factors * 2 ^ 62 ≤ 2 ^ 63 * 2 ^ 62 = mul-le-mul w (le_refl (2 ^ 62)) in
    let room : nat_le (unsigned_abs f.constant + t.total.load) (2 ^ 126) ≡ true = le-true _ (2 ^ 126)
    (omega (arith, load, most, c)) in
    let known : is_refuted_by f.constant (Some t.total) ≡ false = ap (is_refuted_by f.constant) (sym t.is) ∙ safe in
    let least : not (int_le (pos 0) (f.constant +ℤ t.total.value)) ≡ false =
    sym (ap (λ b. (b && nat_le (unsigned_abs f.constant + t.total.load) (2 ^ 126)) && not
    (int_le (pos 0) (f.constant +ℤ t.total.value))) t.light
    ∙ ap (λ b. b && not (int_le (pos 0) (f.constant +ℤ t.total.value))) room) ∙ known in
    ap (int_le (pos 0)) (turn (sum_of values f.factors) f.constant ∙ ap (λ z. f.constant +ℤ z) (sym t.value)) ∙
    not-not (int_le (pos 0) (f.constant +ℤ t.total.value)) least
  where
    not-not : (t : Bool) → not t ≡ false → t ≡ true
    not-not true h = refl
    not-not false h = cc

    turn : (a b : ℤ) → a +ℤ b ≡ b +ℤ a
    turn a b = omega (arith, ints)

all-from : {A : Type 0} (t : A → Bool) (xs : List A) → ((i : ℕ) (x : A) → slice_get xs i ≡ Some x → t x ≡ true) →
    list_all t xs ≡ true
all-from t [] h = refl
all-from t (x ∷ xs) h = ap (λ z. z && list_all t xs) (h 0 x refl) ∙ all-from t xs (λ i y e. h (suc i) y e)

pub all-there : {A : Type 0} (t : A → Bool) (xs : List A) (n : ℕ) (x : A) → list_all t xs ≡ true →
    slice_get xs n ≡ Some x → t x ≡ true
all-there t [] n x a e = cc
all-there t (y ∷ ys) zero x a e = let s : y ≡ x = cc in ap t (sym s) ∙ (and_parts (t y) (list_all t ys) a).0
all-there t (y ∷ ys) (suc n) x a e = all-there t ys n x (and_parts (t y) (list_all t ys) a).1 e

-- a variable of one value
record Single (facts : List Fact) (rs : List Range) (n v : ℕ) : Type 0 where
  value : ℤ
  is : number_at (map (λ (r : Range). r.lo) rs) v ≡ value
  low : Has facts (at_least (n + v) value)
  high : Has facts (at_most (n + v) value)
  small : unsigned_abs value ≤ 2 ^ 62

closed-cut : (r : Range) (rs : List Range) (m : ℕ) → r.lo ≤ℤ r.hi → (t : Bool) → int_le r.hi r.lo ≡ t → cond t
    (first_cut (suc m) rs) (Some (record { place = m; at = middle r })) ≡ None → (r.hi ≡ r.lo) ×
    (first_cut (suc m) rs ≡ None)
closed-cut r rs m l true q d = (let a = int-le-is r.hi r.lo q in omega (arith, ints, a, l), d)
closed-cut r rs m l false q d = cc

-- a range of one value, where none is to be split
pub one-value : (r : Range) (rs : List Range) (m : ℕ) → list_all is_sound_range (r ∷ rs) ≡ true →
    first_cut m (r ∷ rs) ≡ None → (r.hi ≡ r.lo) × (first_cut (suc m) rs ≡ None)
one-value r rs m s e =
    let sounds = and_parts (is_sound_range r) (list_all is_sound_range rs) s in
    let ends = and_parts (int_le r.lo r.hi) (nat_le (unsigned_abs r.lo) (2 ^ 62) && nat_le (unsigned_abs r.hi)
    (2 ^ 62)) sounds.0 in
    closed-cut r rs m (int-le-is r.lo r.hi ends.0) (int_le r.hi r.lo) refl e

single-at : (facts : List Fact) (r : Range) (rs : List Range) (n v : ℕ) → Has facts (at_least n r.lo) → Has facts
    (at_most n r.hi) → r.hi ≡ r.lo → unsigned_abs r.lo ≤ 2 ^ 62 → v < suc (length rs) →
    ((w : ℕ) → w < length rs → Single facts rs (suc n) w) → Single facts (r ∷ rs) n v
single-at facts r rs n zero low high same small h ih =
    let z : n ≡ n + 0 = omega arith in
    record {
      value = r.lo;
      is = refl;
      low = subst (λ j. Has facts (at_least j r.lo)) z low;
      high = subst
          (λ j. Has facts (at_most j r.lo)) z (subst (λ k. Has facts (at_most n k)) same high);
      small = small;
    }
single-at facts r rs n (suc v) low high same small h ih =
    let k = ih v (omega (arith, h)) in
    let z : suc n + v ≡ n + suc v = omega arith in
    record {
      value = k.value;
      is = k.is;
      low = subst (λ j. Has facts (at_least j k.value)) z k.low;
      high = subst
          (λ j. Has facts (at_most j k.value)) z k.high;
      small = k.small;
    }

single : (facts : List Fact) (rs : List Range) (n m v : ℕ) → AreBounded n rs facts → list_all is_sound_range rs ≡ true
    → first_cut m rs ≡ None → v < length rs → Single facts rs n v
single facts [] n m v b s e h = absurd (omega arith)
single facts (r ∷ rs) n m v b s e h =
    let sounds = and_parts (is_sound_range r) (list_all is_sound_range rs) s in
    let ends = and_parts (int_le r.lo r.hi) (nat_le (unsigned_abs r.lo) (2 ^ 62) && nat_le (unsigned_abs r.hi)
    (2 ^ 62)) sounds.0 in
    let sizes = and_parts (nat_le (unsigned_abs r.lo) (2 ^ 62)) (nat_le (unsigned_abs r.hi) (2 ^ 62)) ends.1 in
    let done = closed-cut r rs m (int-le-is r.lo r.hi ends.0) (int_le r.hi r.lo) refl e in
    single-at facts r rs n v b.0 b.1 done.0 (le-is (unsigned_abs r.lo) (2 ^ 62) sizes.0) h
    (λ w k. single facts rs (suc n) (suc m) w b.2 sounds.1 done.1 k)

-- with every range of one value and no fact out of reach, both bounds of each variable are its value
pub ends-fixed : (facts : List Fact) (rs : List Range) → list_all is_slender facts ≡ true →
    list_all is_sound_range rs ≡ true → AreBounded 0 rs facts → some_out_of_reach facts ≡ false →
    first_cut 0 rs ≡ None → (v : ℕ) → v < length rs → Fixed facts v (number_at (map (λ (r : Range). r.lo) rs) v)
ends-fixed facts rs slender sound bounded reach e v h =
    let k = single facts rs 0 0 v bounded sound e h in
    subst (Fixed facts v) (sym k.is)
    (fixed facts v k.value reach slender (subst (λ j. Has facts (at_least j k.value)) (zero-plus v) k.low)
    (subst (λ j. Has facts (at_most j k.value)) (zero-plus v) k.high) k.small)
  where
    zero-plus : (n : ℕ) → 0 + n ≡ n
    zero-plus n = omega arith

-- then all facts hold at the ranges' ends
pub leaf-facts : (facts : List Fact) (rs : List Range) → are_exact (length rs) facts ≡ true → list_all is_slender
    facts ≡ true → list_all is_sound_range rs ≡ true → AreBounded 0 rs facts → some_out_of_reach facts ≡ false →
    first_cut 0 rs ≡ None →
    list_all (fact_holds (map (λ (r : Range). r.lo) rs)) facts ≡ true
leaf-facts facts rs exact slender sound bounded reach e = all-from (fact_holds values) facts (λ i f q.
    let s = slender-at facts i f slender q in
    let x = and_parts (is_exact 0 f.factors) (is_within (length rs) f.factors)
    (all-there (λ (f : Fact). is_exact 0 f.factors && is_within (length rs) f.factors) facts i f exact q) in
    fact-met facts f values (total-is facts f.factors (length rs) values
    (ends-fixed facts rs slender sound bounded reach e) x.1 s.0) s.1 s.2
    (none-out facts facts i f reach q))
  where
    values : List ℤ
    values = map (λ (r : Range). r.lo) rs
