-- The chains of facts that are out of reach.
use Rattle.std.proofs.Common.{◌≡◌, ℕ, zero, suc, ◌+◌, ◌*◌, ◌≤◌, ◌<◌, ◌^◌, max, nat_eq, nat_le, ℤ, pos, negsuc, ◌+ℤ◌}
use Rattle.std.proofs.Common.{◌*ℤ◌, Bool, true, false, cond, not, ◌&&◌, ◌||◌, Option, Some, None, List, [], ◌∷◌, ◌++◌}
use Rattle.std.proofs.Common.{length, slice_get, get_or, arith, refl, sym, ap, subst, ◌∙◌}
use Rattle.std.specs.List.{list_all, list_any}
use Rattle.std.specs.Int.RustNames.{int_le, unsigned_abs}
use Rattle.std.proofs.lemmas.Int.{ints}
use Rattle.std.proofs.lemmas.Bool.{and_parts}
use Rattle.obligations.specs.declared.branches.Fact.{Fact}
use Rattle.obligations.specs.declared.branches.Bound.{Bound}
use Rattle.obligations.specs.declared.certificates.Node.{Node}
use Rattle.meaning_states.specs.State.{int_eq}
use Rattle.obligations.specs.Certificates.{units}
use Rattle.obligations.specs.Reach.{is_exact, is_within, are_exact, tightest, side_for, Total, total_with, total_of}
use Rattle.obligations.specs.Reach.{is_refuted_by, bounds_refute, pair_for, bound_pairs, are_opposite, divisor_of}
use Rattle.obligations.specs.Reach.{is_moderate_fact, is_some_factor, is_moderate, clash, is_out_of_reach}
use Rattle.obligations.specs.Reach.{some_out_of_reach}
use Rattle.linear_prover.specs.Chains.{Closes, IsShort, ClosesShortly, is_plain_number, is_plain_pair, is_plain_factor}
use Rattle.linear_prover.specs.Chains.{is_plain_node}
use Rattle.linear_prover.specs.declared.bounds.Bounds.{Bounds}
use Rattle.linear_prover.specs.declared.clash.Pair.{Pair}
use Rattle.linear_prover.specs.Tables.{IsAt, BoundsTell, is_refuted_in, pairs_in}
use Rattle.linear_prover.specs.Clashes.{IsPartner, IsClash, clash_chain}
use Rattle.linear_prover.proofs.TotalLaws.{total-is, pairs-are}
use Rattle.std.proofs.lemmas.Option.{slice_get_within, get_or_from_slice_get}
use Rattle.linear_prover.proofs.SumLaws.{bounds-close}
use Rattle.linear_prover.proofs.OppositeLaws.{exact-divisor}
use Rattle.linear_prover.proofs.DivisionLaws.{divides, opposite-sum, moderate-factor}
use Rattle.linear_prover.proofs.ClashLaws.{clash-chain-closes}

le-is : (a b : ℕ) → nat_le a b ≡ true → a ≤ b
le-is a b h = grind arith

le-true : (a b : ℕ) → a ≤ b → nat_le a b ≡ true
le-true a b h = grind arith

pub all-at : {A : Type 0} (t : A → Bool) (xs : List A) (n : ℕ) (x : A) → list_all t xs ≡ true → slice_get xs n ≡ Some x
    → t x ≡ true
all-at t [] n x a e = cc
all-at t (y ∷ ys) zero x a e = let s : y ≡ x = cc in ap t (sym s) ∙ (and_parts (t y) (list_all t ys) a).0
all-at t (y ∷ ys) (suc n) x a e = all-at t ys n x (and_parts (t y) (list_all t ys) a).1 e

pub exact-at : (count : ℕ) (facts : List Fact) (n : ℕ) (f : Fact) → are_exact count facts ≡ true → slice_get facts n ≡
    Some f →
    (is_exact 0 f.factors ≡ true) × (is_within count f.factors ≡ true)
exact-at count facts n f a e =
    and_parts (is_exact 0 f.factors) (is_within count f.factors)
    (all-at (λ (f : Fact). is_exact 0 f.factors && is_within count f.factors) facts n f a e)

-- factors are no more than the places that are left
exact-length : (count n : ℕ) (fs : List (ℕ × ℤ)) → n ≤ count → is_exact n fs ≡ true → is_within count fs ≡ true → n +
    length fs ≤ count
exact-length count n [] h e w = omega arith
exact-length count n (f ∷ fs) h e w =
    let a = and_parts (nat_le n f.0 && not (int_eq f.1 (pos 0))) (is_exact (suc f.0) fs) e in
    let b = and_parts (nat_le n f.0) (not (int_eq f.1 (pos 0))) a.0 in
    let c = le-is n f.0 b.0 in
    let d = and_parts (nat_le (suc f.0) count) (is_within count fs) w in
    let i = le-is (suc f.0) count d.0 in
    let ih = exact-length count (suc f.0) fs i a.1 d.1 in
    omega (arith, c, ih)

-- no more pairs than factors
pairs-length : (facts : List Fact) (fs : List (ℕ × ℤ)) → length (bound_pairs facts fs) ≤ length fs
pairs-length facts [] = omega arith
pairs-length facts (f ∷ fs) = one (tightest 0 f.0 (side_for f.1) facts) (pairs-length facts fs)
  where
    one : (o : Option Bound) → length (bound_pairs facts fs) ≤ length fs → length
        (pair_for f.1 o ++ bound_pairs facts fs) ≤ suc (length fs)
    one None ih = omega (arith, ih)
    one (Some b) ih = omega (arith, ih)

-- the factors of a refuted fact are plain
light-plain : (facts : List Fact) (fs : List (ℕ × ℤ)) (t : Total) → total_of facts fs ≡ Some t → t.light ≡ true →
    list_all is_plain_factor fs ≡ true
light-plain facts [] t e l = refl
light-plain facts (f ∷ fs) t e l = found (tightest 0 f.0 (side_for f.1) facts) (total_of facts fs) refl e
    (λ u r k. light-plain facts fs u r k)
  where
    found : (o : Option Bound) (s : Option Total) → total_of facts fs ≡ s → total_with f.1 o s ≡ Some t →
        ((u : Total) → total_of facts fs ≡ Some u → u.light ≡ true → list_all is_plain_factor fs ≡ true) → list_all
        is_plain_factor (f ∷ fs) ≡ true
    found None s r q ih = cc
    found (Some x) None r q ih = cc
    found (Some x) (Some u) r q ih =
        let same : record {
          value = pos (unsigned_abs f.1) *ℤ x.constant +ℤ u.value;
          load = unsigned_abs f.1 *
              unsigned_abs x.constant + u.load;
          light = nat_le (unsigned_abs f.1) (2 ^ 62) && u.light;
        } ≡ t = cc in
        let lights = and_parts (nat_le (unsigned_abs f.1) (2 ^ 62)) u.light (ap (λ (z : Total). z.light) same ∙ l) in
        ap (λ t. t && list_all is_plain_factor fs) lights.0 ∙ ih u r lights.1

pub refuted-plain : (facts : List Fact) (f : Fact) → bounds_refute facts f ≡ true → list_all is_plain_factor f.factors ≡
    true
refuted-plain facts f e = by_total (total_of facts f.factors) refl e
  where
    by_total : (o : Option Total) → total_of facts f.factors ≡ o → is_refuted_by f.constant o ≡ true → list_all
        is_plain_factor f.factors ≡ true
    by_total None q h = cc
    by_total (Some t) q h =
        let parts = and_parts (t.light && nat_le (unsigned_abs f.constant + t.load) (2 ^ 126))
        (not (int_le (pos 0) (f.constant +ℤ t.value))) h in
        light-plain facts f.factors t q (and_parts t.light (nat_le (unsigned_abs f.constant + t.load) (2 ^ 126))
        parts.0).0

pairs-plain : (facts : List Fact) (fs : List (ℕ × ℤ)) → list_all is_plain_factor fs ≡ true → list_all is_plain_pair
    (bound_pairs facts fs) ≡ true
pairs-plain facts [] e = refl
pairs-plain facts (f ∷ fs) e =
    let a = and_parts (is_plain_factor f) (list_all is_plain_factor fs) e in
    one (tightest 0 f.0 (side_for f.1) facts) a.0 (pairs-plain facts fs a.1)
  where
    one : (o : Option Bound) → is_plain_factor f ≡ true → list_all is_plain_pair (bound_pairs facts fs) ≡ true →
        list_all is_plain_pair (pair_for f.1 o ++ bound_pairs facts fs) ≡ true
    one None h ih = ih
    one (Some b) h ih = ap (λ t. t && list_all is_plain_pair (bound_pairs facts fs)) h ∙ ih

pub refuted-chain : (count : ℕ) (facts : List Fact) (i : ℕ) (f : Fact) → slice_get facts i ≡ Some f → are_exact count
    facts ≡ true → bounds_refute facts f ≡ true →
    ClosesShortly count facts (Node.Sum ((pos 1, suc i) ∷ bound_pairs facts f.factors) ∷ [])
refuted-chain count facts i f there exact refuted =
    let x = exact-at count facts i f exact there in
    let long = exact-length count 0 f.factors (omega arith) x.0 x.1 in
    let few = pairs-length facts f.factors in
    record {
      closes = bounds-close count facts i f there x.0 x.1 refuted;
      short = record {
        rounds = omega arith;
        cheap = omega (arith, long, few);
        plain = ap (λ t. (t && true)) (ap (λ t. t) (pairs-plain facts f.factors (refuted-plain facts f refuted)));
      };
    }

-- two facts that clash
pub clashed-chain : (count : ℕ) (facts : List Fact) (i j : ℕ) (f g : Fact) → slice_get facts i ≡ Some f → slice_get
    facts j ≡ Some g → are_exact count facts ≡ true →
    clash f g ≡ true → ClosesShortly count facts (clash_chain (length facts) (pos (divisor_of f.factors)) i j)
clashed-chain count facts i j f g one two exact h =
    let a = and_parts ((are_opposite f.factors g.factors && is_some_factor f.factors) &&
    ((is_moderate_fact f && is_moderate_fact g) && nat_le (divisor_of f.factors) (2 ^ 62))) _ h in
    let b = and_parts (are_opposite f.factors g.factors && is_some_factor f.factors)
    ((is_moderate_fact f && is_moderate_fact g) && nat_le (divisor_of f.factors) (2 ^ 62)) a.0 in
    let c = and_parts (are_opposite f.factors g.factors) (is_some_factor f.factors) b.0 in
    let d = and_parts (is_moderate_fact f && is_moderate_fact g) (nat_le (divisor_of f.factors) (2 ^ 62)) b.1 in
    let m = and_parts (is_moderate_fact f) (is_moderate_fact g) d.0 in
    let mf = and_parts (is_moderate f.constant) (list_all (λ (x : ℕ × ℤ). is_moderate x.1) f.factors) m.0 in
    let mg = and_parts (is_moderate g.constant) (list_all (λ (x : ℕ × ℤ). is_moderate x.1) g.factors) m.1 in
    let xf = exact-at count facts i f exact one in
    let xg = exact-at count facts j g exact two in
    record {
      closes = clash-chain-closes count facts i j (divisor_of f.factors) f g (exact-divisor 0 f.factors xf.0 c.1) one
          two xf.0 xg.0
          (λ p. moderate-factor f.factors p mf.1) (λ p. moderate-factor g.factors p mg.1)
          (le-is (unsigned_abs f.constant) (2 ^ 124) mf.0) (le-is (unsigned_abs g.constant) (2 ^ 124) mg.0)
          (divides f.factors) (λ p. opposite-sum f.factors g.factors p c.0) a.1;
      short = record {
        rounds = omega arith;
        cheap = omega arith;
        plain = ap (λ t. (t && true) && ((t && true) && true)) d.1;
      };
    }

-- a fact is out of reach by its bounds or by a clash
either-out : (all facts : List Fact) → list_any (is_out_of_reach all) facts ≡
    (list_any (bounds_refute all) facts || list_any (λ f. list_any (clash f) all) facts)
either-out all [] = refl
either-out all (f ∷ facts) = ap (λ b. (bounds_refute all f || list_any (clash f) all) || b) (either-out all facts) ∙
    mixed (bounds_refute all f) (list_any (clash f) all) (list_any (bounds_refute all) facts)
    (list_any (λ f. list_any (clash f) all) facts)
  where
    mixed : (a b c d : Bool) → ((a || b) || (c || d)) ≡ ((a || c) || (b || d))
    mixed true b c d = refl
    mixed false true true d = refl
    mixed false true false d = refl
    mixed false false true d = refl
    mixed false false false d = refl

or-true : (a b : Bool) → b ≡ true → (a || b) ≡ true
or-true true b e = refl
or-true false b e = e

pub reach-none : (facts : List Fact) → list_any (bounds_refute facts) facts ≡ false → list_any
    (λ f. list_any (clash f) facts) facts ≡ false → some_out_of_reach facts ≡ false
reach-none facts h k = either-out facts facts ∙ ap (λ b. b || list_any (λ f. list_any (clash f) facts) facts) h ∙ k

pub reach-bounds : (facts : List Fact) → list_any (bounds_refute facts) facts ≡ true → some_out_of_reach facts ≡ true
reach-bounds facts h = either-out facts facts ∙ ap (λ b. b || list_any (λ f. list_any (clash f) facts) facts) h

pub reach-clash : (facts : List Fact) → list_any (λ f. list_any (clash f) facts) facts ≡ true → some_out_of_reach facts
    ≡ true
reach-clash facts h = either-out facts facts ∙ or-true (list_any (bounds_refute facts) facts)
    (list_any (λ f. list_any (clash f) facts) facts) h

-- an item that passes a test is one of those that do
pub any-at : {A : Type 0} (t : A → Bool) (xs : List A) (n : ℕ) (x : A) → slice_get xs n ≡ Some x → t x ≡ true →
    list_any t xs ≡ true
any-at t [] n x e p = cc
any-at t (y ∷ ys) zero x e p = let s : y ≡ x = cc in ap (λ b. b || list_any t ys) (ap t s ∙ p)
any-at t (y ∷ ys) (suc n) x e p = or-true (t y) (list_any t ys) (any-at t ys n x e p)

-- what the code finds
pub found-is : (facts : List Fact) (n : ℕ) (f g : Fact) → slice_get facts n ≡ Some g → f ≡ get_or facts n f → f ≡ g
found-is facts n f g e h = h ∙ get_or_from_slice_get facts n g f e

refuted-same : (count : ℕ) (facts : List Fact) (bounds : Bounds) (f : Fact) → BoundsTell count facts bounds → is_within
    count
    f.factors ≡ true → is_refuted_in bounds f ≡ bounds_refute facts f
refuted-same count facts bounds f t w = ap (is_refuted_by f.constant)
    (total-is count facts bounds f.factors t.lows t.highs w)

pub refuted-none : (count : ℕ) (all facts : List Fact) (bounds : Bounds) → BoundsTell count all bounds → are_exact count
    facts ≡ true → list_any (is_refuted_in bounds) facts ≡ list_any (bounds_refute all) facts
refuted-none count all [] bounds t x = refl
refuted-none count all (f ∷ facts) bounds t x =
    let a = and_parts (is_exact 0 f.factors && is_within count f.factors) (are_exact count facts) x in
    let b = and_parts (is_exact 0 f.factors) (is_within count f.factors) a.0 in
    ap (λ b. b || list_any (is_refuted_in bounds) facts) (refuted-same count all bounds f t b.1) ∙ ap
    (λ b. bounds_refute all f || b) (refuted-none count all facts bounds t a.1)

pub refuted-at : (count : ℕ) (facts : List Fact) (bounds : Bounds) (n : ℕ) (f : Fact) → BoundsTell count facts bounds →
    are_exact count facts ≡ true →
    (r : IsAt (is_refuted_in bounds) facts n) → f ≡ get_or facts n f → (slice_get facts n ≡ Some f) ×
    (bounds_refute facts f ≡ true)
refuted-at count facts bounds n f t x r e =
    let same : r.item ≡ f = sym (found-is facts n f r.item r.there e) in
    let there : slice_get facts n ≡ Some f = r.there ∙ ap Some same in (
      there,
      sym (refuted-same count facts bounds f t (exact-at count facts n f x there).1) ∙ ap (is_refuted_in bounds)
          (sym same) ∙ r.passes,
    )

pub sum-chain : (count : ℕ) (facts : List Fact) (bounds : Bounds) (n m : ℕ) (f : Fact) (ps : List (ℤ × ℕ))
    (ns : List Node) → BoundsTell count facts bounds → are_exact count facts ≡ true →
    IsAt (is_refuted_in bounds) facts n → f ≡ get_or facts n f → m ≡ n + 1 → ps ≡ (pos 1, m) ∷ pairs_in bounds f.factors
    → ns ≡ Node.Sum ps ∷ [] → ClosesShortly count facts ns
sum-chain count facts bounds n m f ps ns t x r e k p q =
    let a = refuted-at count facts bounds n f t x r e in
    let next : m ≡ suc n = omega arith in
    let w = exact-at count facts n f x a.0 in
    subst (ClosesShortly count facts)
    (sym (q ∙ ap (λ z. Node.Sum z ∷ []) (p ∙ ap (λ z. (pos 1, z) ∷ pairs_in bounds f.factors) next ∙ ap
    (λ z. (pos 1, suc n) ∷ z) (pairs-are count facts bounds f.factors t.lows t.highs w.1))))
    (refuted-chain count facts n f a.0 x a.1)

pub all-exact : (count : ℕ) (facts : List Fact) → are_exact count facts ≡ true → list_all
    (λ (f : Fact). is_exact 0 f.factors) facts ≡ true
all-exact count [] e = refl
all-exact count (f ∷ facts) e =
    let a = and_parts (is_exact 0 f.factors && is_within count f.factors) (are_exact count facts) e in
    ap (λ t. t && list_all (λ (f : Fact). is_exact 0 f.factors) facts)
    (and_parts (is_exact 0 f.factors) (is_within count f.factors) a.0).0 ∙ all-exact count facts a.1

pub clash-inside : (facts : List Fact) (p : Pair) → IsClash facts p → (p.place < length facts) ×
    (p.partner.place < length facts)
clash-inside facts p c = (
  slice_get_within facts p.place c.fact c.first,
  slice_get_within facts p.partner.place
      c.second.other c.second.there,
)

pub pair-chain : (count : ℕ) (facts : List Fact) (p : Pair) (ns : List Node) → IsClash facts p → are_exact count facts ≡
    true → ns ≡ clash_chain (length facts) p.partner.divisor p.place p.partner.place → ClosesShortly count facts ns
pair-chain count facts p ns c x e =
    subst (ClosesShortly count facts) (sym (e ∙ ap (λ d. clash_chain (length facts) d p.place p.partner.place)
    c.second.divisor))
    (clashed-chain count facts p.place p.partner.place c.fact c.second.other c.first c.second.there x c.second.clash)

pub clash-any : (facts : List Fact) (p : Pair) → IsClash facts p → list_any (λ f. list_any (clash f) facts) facts ≡
    true
clash-any facts p c = any-at (λ f. list_any (clash f) facts) facts p.place c.fact c.first
    (any-at (clash c.fact) facts p.partner.place c.second.other c.second.there c.second.clash)

pub ruleset reach_laws = (reach-none, reach-bounds, reach-clash)

pub ruleset clash_laws = (all-exact, clash-inside, pair-chain, clash-any)
