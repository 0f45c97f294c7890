-- A cut lessens what is to be cut.
use Rattle.std.proofs.Common.{◌≡◌, ℕ, zero, suc, ◌+◌, ◌-◌, ◌*◌, ◌/◌, ◌≤◌, ◌<◌, ◌^◌, nat_le, ℤ, pos, negsuc, ◌+ℤ◌}
use Rattle.std.proofs.Common.{◌-ℤ◌, ◌<ℤ◌, ◌≤ℤ◌, Bool, true, false, cond, ◌&&◌, Some, List, [], ◌∷◌, length, slice_get}
use Rattle.std.proofs.Common.{arith, refl, sym, ap, subst, ◌∙◌}
use Rattle.std.specs.Prelude.{int_div}
use Rattle.std.specs.List.{list_all}
use Rattle.std.proofs.Math.Nat.{pow-succ'}
use Rattle.std.proofs.lemmas.Int.{ints}
use Rattle.std.proofs.lemmas.Bool.{and_parts}
use Rattle.std.specs.Int.RustNames.{int_le, unsigned_abs}
use Rattle.core_terms.specs.declared.trees.Range.{Range}
use Rattle.obligations.specs.Plain.{Cut, middle, first_cut, with_high, with_low, range_size, least_power, cuts_of}
use Rattle.obligations.specs.Obligations.{is_sound_range}

le-is : (a b : ℕ) → nat_le a b ≡ true → a ≤ b
le-is a b h = grind arith

gt-is : (a b : ℕ) → nat_le a b ≡ false → b < a
gt-is a b h = grind arith

le-true : (a b : ℕ) → a ≤ b → nat_le a b ≡ true
le-true a b h = grind arith

int-le-is : (a b : ℤ) → int_le a b ≡ true → a ≤ℤ b
int-le-is a b h = grind (arith, ints)

int-gt-is : (a b : ℤ) → int_le a b ≡ false → b <ℤ a
int-gt-is a b h = grind (arith, ints)

int-le-true : (a b : ℤ) → a ≤ℤ b → int_le a b ≡ true
int-le-true a b h = grind (arith, ints)

-- The least power.
power-least : (n e s : ℕ) → e ≤ least_power n e s
unfolding least_power
power-least zero e s = omega arith
power-least (suc n) e s = by_test (nat_le s (2 ^ e)) (power-least n (suc e) s)
  where
    by_test : (t : Bool) → suc e ≤ least_power n (suc e) s → e ≤ cond t e (least_power n (suc e) s)
    by_test true h = omega arith
    by_test false h = omega (arith, h)

power-here : (n e s : ℕ) → s ≤ 2 ^ e → least_power n e s ≡ e
unfolding least_power
power-here zero e s h = refl
power-here (suc n) e s h = ap (λ t. cond t e (least_power n (suc e) s)) (le-true s (2 ^ e) h)

power-next : (n e s : ℕ) → 2 ^ e < s → least_power (suc n) e s ≡ least_power n (suc e) s
unfolding least_power
power-next n e s h = ap (λ t. cond t e (least_power n (suc e) s)) (over (nat_le s (2 ^ e)) refl)
  where
    over : (t : Bool) → nat_le s (2 ^ e) ≡ t → nat_le s (2 ^ e) ≡ false
    over true q = absurd (let k = le-is s (2 ^ e) q in omega (arith, k, h))
    over false q = q

-- at least half as many values ask for one power less
power-halves : (n e s h : ℕ) → 2 * h ≤ s + 1 → suc (least_power n e h) ≤ least_power n (suc e) s
unfolding least_power
power-halves zero e s h p = omega arith
power-halves (suc n) e s h p = by_test (nat_le s (2 ^ suc e)) refl (nat_le h (2 ^ e)) refl
    (power-halves n (suc e) s h p)
  where
    double : 2 ^ suc e ≡ 2 * 2 ^ e
    double = pow-succ' 2 e

    by_test : (t : Bool) → nat_le s (2 ^ suc e) ≡ t → (u : Bool) → nat_le h (2 ^ e) ≡ u → suc
        (least_power n (suc e) h) ≤ least_power n (suc (suc e)) s → suc (least_power (suc n) e h) ≤ least_power
        (suc n) (suc e) s
    by_test true q true r ih =
        let a = power-here (suc n) (suc e) s (le-is s (2 ^ suc e) q) in let b = power-here (suc n) e h
        (le-is h (2 ^ e) r) in omega (arith, a, b)
    by_test true q false r ih = absurd (let a = le-is s (2 ^ suc e) q in let b = gt-is h (2 ^ e) r in let d = double
        in omega (arith, a, b, d, p))
    by_test false q true r ih =
        let a = power-next n (suc e) s (gt-is s (2 ^ suc e) q) in let b = power-here (suc n) e h (le-is h (2 ^ e) r)
        in let c = power-least n (suc (suc e)) s in omega (arith, a, b, c)
    by_test false q false r ih =
        let a = power-next n (suc e) s (gt-is s (2 ^ suc e) q) in let b = power-next n e h (gt-is h (2 ^ e) r) in
        omega (arith, a, b, ih)

power-more : (n e s : ℕ) → s ≤ 2 ^ (e + n) → least_power (suc n) e s ≤ least_power n e s
unfolding least_power
power-more zero e s h = let a = power-here 1 e s (subst (λ k. s ≤ 2 ^ k) (plus-zero e) h) in omega (arith, a)
  where
    plus-zero : (e : ℕ) → e + 0 ≡ e
    plus-zero e = omega arith
power-more (suc n) e s h = by_test (nat_le s (2 ^ e)) refl (λ q. power-more n (suc e) s q)
  where
    moved : (a b : ℕ) → a + suc b ≡ suc a + b
    moved a b = omega arith

    by_test : (t : Bool) → nat_le s (2 ^ e) ≡ t → (s ≤ 2 ^ (suc e + n) → least_power (suc n) (suc e) s ≤ least_power n
        (suc e) s) → least_power (suc (suc n)) e s ≤ least_power (suc n) e s
    by_test true q ih = let a = power-here (suc (suc n)) e s (le-is s (2 ^ e) q) in let b = power-here (suc n) e s
        (le-is s (2 ^ e) q) in omega (arith, a, b)
    by_test false q ih =
        let a = power-next (suc n) e s (gt-is s (2 ^ e) q) in let b = power-next n e s (gt-is s (2 ^ e) q) in
        let c = ih (subst (λ k. s ≤ 2 ^ k) (moved e n) h) in omega (arith, a, b, c)

pub halved : (s h : ℕ) → 2 ≤ s → s ≤ 2 ^ 63 + 1 → 2 * h ≤ s + 1 → suc (least_power 64 0 h) ≤ least_power 64 0 s
halved s h two limit p =
    let a = power-next 63 0 s (omega arith) in
    let b = power-halves 63 0 s h p in
    let c = power-more 63 0 h (omega (arith, limit, p)) in
    omega (arith, a, b, c)

-- The first cut.
pub record CutAt (n : ℕ) (rs : List Range) (c : Cut) : Type 0 where
  pub index : ℕ
  pub place : c.place ≡ n + index
  pub inside : index < length rs
  pub range : Range
  pub there : slice_get rs index ≡ Some range
  pub opened : range.lo <ℤ range.hi
  pub at : c.at ≡ middle range

pub cut-at : (n : ℕ) (rs : List Range) (c : Cut) → first_cut n rs ≡ Some c → CutAt n rs c
cut-at n [] c e = cc
cut-at n (r ∷ rs) c e = by_test (int_le r.hi r.lo) refl e (cut-at (suc n) rs c)
  where
    by_test : (t : Bool) → int_le r.hi r.lo ≡ t → cond t (first_cut (suc n) rs)
        (Some (record { place = n; at = middle r })) ≡ Some c → (first_cut (suc n) rs ≡ Some c → CutAt (suc n) rs c) →
        CutAt n (r ∷ rs) c
    by_test true q d f =
        let k = f d in let p = k.place in let i = k.inside in
        record {
          index = suc k.index;
          place = omega (arith, p);
          inside = omega (arith, i);
          range = k.range;
          there =
              k.there;
          opened = k.opened;
          at = k.at;
        }
    by_test false q d f =
        let same : record { place = n; at = middle r } ≡ c = cc in
        record {
          index = 0;
          place = ap (λ (x : Cut). x.place) (sym same) ∙ omega arith;
          inside = omega arith;
          range =
              r;
          there = refl;
          opened = int-gt-is r.hi r.lo q;
          at = ap (λ (x : Cut). x.at) (sym same);
        }

cuts-high : (rs : List Range) (i : ℕ) (r : Range) (k : ℤ) → slice_get rs i ≡ Some r → suc
    (least_power 64 0 (range_size (record { lo = r.lo; hi = k }))) ≤ least_power 64 0 (range_size r) → suc
    (cuts_of (with_high rs i k)) ≤ cuts_of rs
cuts-high [] i r k e h = cc
cuts-high (x ∷ rs) zero r k e h =
    let s : x ≡ r = cc in
    subst (λ z. suc (least_power 64 0 (range_size (record { lo = z.lo; hi = k })) + cuts_of rs) ≤ least_power 64 0
    (range_size z) + cuts_of rs) (sym s) (omega (arith, h))
cuts-high (x ∷ rs) (suc i) r k e h = let ih = cuts-high rs i r k e h in omega (arith, ih)

cuts-low : (rs : List Range) (i : ℕ) (r : Range) (k : ℤ) → slice_get rs i ≡ Some r → suc
    (least_power 64 0 (range_size (record { lo = k; hi = r.hi }))) ≤ least_power 64 0 (range_size r) → suc
    (cuts_of (with_low rs i k)) ≤ cuts_of rs
cuts-low [] i r k e h = cc
cuts-low (x ∷ rs) zero r k e h =
    let s : x ≡ r = cc in
    subst (λ z. suc (least_power 64 0 (range_size (record { lo = k; hi = z.hi })) + cuts_of rs) ≤ least_power 64 0
    (range_size z) + cuts_of rs) (sym s) (omega (arith, h))
cuts-low (x ∷ rs) (suc i) r k e h = let ih = cuts-low rs i r k e h in omega (arith, ih)

-- The two halves of a range.
pub record MiddleIs (r : Range) : Type 0 where
  pub low : r.lo ≤ℤ middle r
  pub high : middle r <ℤ r.hi
  pub first : 2 * range_size (record { lo = r.lo; hi = middle r }) ≤ range_size r + 1
  pub second : 2 * range_size (record { lo = middle r +ℤ pos 1; hi = r.hi }) ≤ range_size r + 1
  pub whole : range_size (record { lo = r.lo; hi = middle r }) + range_size
      (record { lo = middle r +ℤ pos 1; hi = r.hi }) ≡ range_size r
  pub two : 2 ≤ range_size r

-- a range from lo to lo + d has d + 1 values
size-is : (lo hi : ℤ) (d : ℕ) → hi ≡ lo +ℤ pos d → range_size (record { lo = lo; hi = hi }) ≡ d + 1
size-is lo hi d e =
    let t : int_le lo hi ≡ true = int-le-true lo hi (omega (arith, ints, e)) in
    let w : hi -ℤ lo ≡ pos d = omega (arith, ints, e) in
    ap (λ b. cond b (unsigned_abs (hi -ℤ lo) + 1) 0) t ∙ ap (λ z. unsigned_abs z + 1) w

width : (lo hi : ℤ) → lo <ℤ hi → (d : ℕ) × (hi ≡ lo +ℤ pos (suc d))
width lo hi h = by_sign (hi -ℤ lo) refl
  where
    by_sign : (z : ℤ) → hi -ℤ lo ≡ z → (d : ℕ) × (hi ≡ lo +ℤ pos (suc d))
    by_sign (pos zero) e = absurd (omega (arith, ints, e, h))
    by_sign (pos (suc d)) e = (d, omega (arith, ints, e))
    by_sign (negsuc d) e = absurd (omega (arith, ints, e, h))

half-of : (d : ℕ) → (h : ℕ) × (int_div (pos (suc d)) (pos 2) ≡ pos h) × (2 * h ≤ suc d) × (suc d ≤ 2 * h + 1)
half-of d = (suc d / 2, refl, omega arith, omega arith)

pub middle-is : (r : Range) → r.lo <ℤ r.hi → MiddleIs r
middle-is r h =
    let w = width r.lo r.hi h in
    let d : ℕ = w.0 in
    let k = half-of d in
    let m : ℕ = k.0 in
    let k2 = k.2 in let k3 = k.3 in let w1 = w.1 in
    let gap : r.hi -ℤ r.lo ≡ pos (suc d) = omega (arith, ints, w1) in
    let mid : middle r ≡ r.lo +ℤ pos m = ap (λ z. r.lo +ℤ int_div z (pos 2)) gap ∙ ap (λ z. r.lo +ℤ z) k.1 in
    let rest : (n : ℕ) × (suc d ≡ m + suc n) = (d - m, omega (arith, k2, k3)) in
    let r1 = rest.1 in
    let one = size-is r.lo (middle r) m mid in
    let two = size-is (middle r +ℤ pos 1) r.hi rest.0 (omega (arith, ints, mid, w1, r1)) in
    let all = size-is r.lo r.hi (suc d) w1 in
    record {
      low = omega (arith, ints, mid);
      high = omega (arith, ints, mid, w1, k2);
      first = omega (arith, one, all, k2);
      second = omega (arith, two, all, r1, k3);
      whole = omega (arith, one, two, all, r1);
      two = omega (arith, all);
    }

sound-limit : (r : Range) → is_sound_range r ≡ true → range_size r ≤ 2 ^ 63 + 1
sound-limit r s =
    let a = and_parts (int_le r.lo r.hi) (nat_le (unsigned_abs r.lo) (2 ^ 62) && nat_le (unsigned_abs r.hi) (2 ^ 62))
    s in
    let b = and_parts (nat_le (unsigned_abs r.lo) (2 ^ 62)) (nat_le (unsigned_abs r.hi) (2 ^ 62)) a.1 in
    let c = le-is (unsigned_abs r.lo) (2 ^ 62) b.0 in let d = le-is (unsigned_abs r.hi) (2 ^ 62) b.1 in
    ap-le (int_le r.lo r.hi) (abs-minus r.hi r.lo) c d
  where
    abs-minus : (a b : ℤ) → unsigned_abs (a -ℤ b) ≤ unsigned_abs a + unsigned_abs b
    abs-minus (pos a) (pos b) = omega (arith, ints)
    abs-minus (pos a) (negsuc b) = omega (arith, ints)
    abs-minus (negsuc a) (pos b) = omega (arith, ints)
    abs-minus (negsuc a) (negsuc b) = omega (arith, ints)

    ap-le : (t : Bool) → unsigned_abs (r.hi -ℤ r.lo) ≤ unsigned_abs r.hi + unsigned_abs r.lo → unsigned_abs r.lo ≤ 2 ^
        62 → unsigned_abs r.hi ≤ 2 ^ 62 → cond t (unsigned_abs (r.hi -ℤ r.lo) + 1) 0 ≤ 2 ^ 63 + 1
    ap-le true p q s = omega (arith, p, q, s)
    ap-le false p q s = omega arith

all-there : {A : Type 0} (t : A → Bool) (xs : List A) (n : ℕ) (x : A) → list_all t xs ≡ true → slice_get xs n ≡ Some x
    → t x ≡ true
all-there t [] n x a e = cc
all-there t (y ∷ ys) zero x a e = let s : y ≡ x = cc in ap t (sym s) ∙ (and_parts (t y) (list_all t ys) a).0
all-there t (y ∷ ys) (suc n) x a e = all-there t ys n x (and_parts (t y) (list_all t ys) a).1 e

-- a cut of sound ranges
pub record GoodCut (rs : List Range) (place : ℕ) (at : ℤ) : Type 0 where
  pub inside : place < length rs
  pub range : Range
  pub there : slice_get rs place ≡ Some range
  pub is : at ≡ middle range
  pub middle : MiddleIs range
  pub sound : is_sound_range range ≡ true
  pub low : suc (cuts_of (with_high rs place at)) ≤ cuts_of rs
  pub high : suc (cuts_of (with_low rs place (at +ℤ pos 1))) ≤ cuts_of rs

pub good-cut : (rs : List Range) (place : ℕ) (at : ℤ) → list_all is_sound_range rs ≡ true → first_cut 0 rs ≡ Some
    (record { place = place; at = at }) → GoodCut rs place at
good-cut rs place at s e =
    let k = cut-at 0 rs (record { place = place; at = at }) e in
    let p : place ≡ k.index = k.place ∙ omega arith in
    let there : slice_get rs place ≡ Some k.range = ap (slice_get rs) p ∙ k.there in
    let sound = all-there is_sound_range rs place k.range s there in
    let m = middle-is k.range k.opened in
    let limit = sound-limit k.range sound in
    let at' : at ≡ middle k.range = k.at in
    let first = m.first in let second = m.second in let two = m.two in
    let i = k.inside in
    record {
      inside = omega (arith, p, i);
      range = k.range;
      there = there;
      is = at';
      middle = m;
      sound = sound;
      low = cuts-high rs place k.range at there (subst (λ z. suc
          (least_power 64 0 (range_size (record { lo = k.range.lo; hi = z }))) ≤ least_power 64 0
          (range_size k.range)) (sym at') (halved (range_size k.range) _ two limit first));
      high = cuts-low rs place k.range (at +ℤ pos 1) there (subst
          (λ z. suc (least_power 64 0 (range_size (record { lo = z +ℤ pos 1; hi = k.range.hi }))) ≤ least_power 64 0
          (range_size k.range)) (sym at') (halved (range_size k.range) _ two limit second));
    }
