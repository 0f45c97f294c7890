-- Totals of products, from their ends.
use Rattle.std.proofs.Common.{◌≡◌, ℕ, zero, suc, ◌+◌, ◌+ℤ◌, ◌*◌, ◌-◌, ◌<◌, ◌≤◌, ◌^◌, nat_le, ℤ, pos, negsuc, Bool, true}
use Rattle.std.proofs.Common.{false, not, ◌&&◌, Option, Some, None, List, [], ◌∷◌, ◌++◌, drop, length, get_or, arith}
use Rattle.std.proofs.Common.{refl, sym, ap, ◌∙◌}
use Rattle.std.proofs.Math.Seq.{drop-cons}
use Rattle.std.specs.List.{list_all, list_any}
use Rattle.std.specs.Int.RustNames.{int_le, unsigned_abs}
use Rattle.std.proofs.lemmas.Bool.{and_parts}
use Rattle.obligations.specs.declared.branches.Fact.{Fact}
use Rattle.obligations.specs.declared.branches.Bound.{Bound}
use Rattle.linear_prover.specs.declared.bounds.Bounds.{Bounds}
use Rattle.linear_prover.specs.declared.bounds.Sum.{Sum}
use Rattle.obligations.specs.Reach.{is_within, tightest, side_for, Total, total_with, total_of, is_refuted_by, pair_for}
use Rattle.obligations.specs.Reach.{bound_pairs}
use Rattle.linear_prover.specs.Tables.{is_lost, AreBounds, light_total, against, total_in, pairs_in}

le-is : (a b : ℕ) → nat_le a b ≡ true → a ≤ b
le-is a b h = grind arith

gt-is : (a b : ℕ) → nat_le a b ≡ false → b < a
gt-is a b h = grind arith

past : (a b : ℕ) → b < a → nat_le a b ≡ false
past a b h = grind arith

-- what is lost stays so
lost-with : (a : ℤ) (b : Option Bound) (t : Option Total) → is_lost t ≡ true → is_lost (total_with a b t) ≡ true
lost-with a None t h = refl
lost-with a (Some b) None h = refl
lost-with a (Some b) (Some t) h = by_parts (nat_le (unsigned_abs a) (2 ^ 62)) t.light (nat_le t.load (2 ^ 126)) refl h
  where
    more : ℕ
    more = unsigned_abs a * unsigned_abs b.constant + t.load

    by_parts : (m l s : Bool) → nat_le t.load (2 ^ 126) ≡ s → not (l && s) ≡ true → not
        ((m && l) && nat_le more (2 ^ 126)) ≡ true
    by_parts false l s e q = refl
    by_parts true false s e q = refl
    by_parts true true true e q = cc
    by_parts true true false e q = ap not (past more (2 ^ 126) (let k = gt-is t.load (2 ^ 126) e in omega (arith, k)))

pub lost-drop : (bounds : Bounds) (fs : List (ℕ × ℤ)) (n : ℕ) → is_lost (total_in bounds (drop n fs)) ≡ true → is_lost
    (total_in bounds fs) ≡ true
lost-drop bounds fs zero h = h
lost-drop bounds [] (suc n) h = h
lost-drop bounds (f ∷ fs) (suc n) h = lost-with f.1 (against bounds f.0 f.1) (total_in bounds fs)
    (lost-drop bounds fs n h)

pub sum-lost : (bounds : Bounds) (fs : List (ℕ × ℤ)) (left : ℕ) (d : ℕ × ℤ) (sum : Sum) → 0 < left → left ≤ length fs →
    total_in bounds (drop left fs) ≡ Some (light_total sum) →
    is_lost (total_with (get_or fs (left - 1) d).1 (against bounds (get_or fs (left - 1) d).0
    (get_or fs (left - 1) d).1) (Some (light_total sum))) ≡ true →
    is_lost (total_in bounds fs) ≡ true
sum-lost bounds fs left d sum h k e l =
    let one : suc (left - 1) ≡ left = omega arith in
    let f : ℕ × ℤ = get_or fs (left - 1) d in
    lost-drop bounds fs (left - 1)
    (ap (λ xs. is_lost (total_in bounds xs)) (drop-cons fs (left - 1) d (omega arith))
    ∙ ap (λ n. is_lost (total_with f.1 (against bounds f.0 f.1) (total_in bounds (drop n fs)))) one
    ∙ ap (λ t. is_lost (total_with f.1 (against bounds f.0 f.1) t)) e ∙ l)

pub lost-refutes : (c : ℤ) (t : Option Total) → is_lost t ≡ true → is_refuted_by c t ≡ false
lost-refutes c None h = refl
lost-refutes c (Some t) h = by_parts t.light (nat_le t.load (2 ^ 126)) refl h
  where
    by_parts : (l s : Bool) → nat_le t.load (2 ^ 126) ≡ s → not (l && s) ≡ true → is_refuted_by c
        (Some (record { value = t.value; load = t.load; light = l })) ≡ false
    by_parts false s e q = refl
    by_parts true true e q = cc
    by_parts true false e q = ap (λ b. b && not (int_le (pos 0) (c +ℤ t.value)))
        (past (unsigned_abs c + t.load) (2 ^ 126) (let k = gt-is t.load (2 ^ 126) e in omega (arith, k)))

-- The tables tell what the facts do.
against-is : (count : ℕ) (facts : List Fact) (bounds : Bounds) (v : ℕ) (a : ℤ) → AreBounds count (pos 1) facts
    bounds.lows →
    AreBounds count (negsuc 0) facts bounds.highs → v < count → against bounds v a ≡ tightest 0 v (side_for a) facts
against-is count facts bounds v (pos a) l h k = h.tells v k
against-is count facts bounds v (negsuc a) l h k = l.tells v k

pub total-is : (count : ℕ) (facts : List Fact) (bounds : Bounds) (fs : List (ℕ × ℤ)) → AreBounds count (pos 1) facts
    bounds.lows →
    AreBounds count (negsuc 0) facts bounds.highs → is_within count fs ≡ true → total_in bounds fs ≡ total_of facts fs
total-is count facts bounds [] l h w = refl
total-is count facts bounds (f ∷ fs) l h w =
    let parts = and_parts (nat_le (suc f.0) count) (is_within count fs) w in
    let inside = le-is (suc f.0) count parts.0 in
    ap (λ b. total_with f.1 b (total_in bounds fs)) (against-is count facts bounds f.0 f.1 l h (omega (arith, inside)))
    ∙ ap (total_with f.1 (tightest 0 f.0 (side_for f.1) facts)) (total-is count facts bounds fs l h parts.1)

pub pairs-are : (count : ℕ) (facts : List Fact) (bounds : Bounds) (fs : List (ℕ × ℤ)) → AreBounds count (pos 1) facts
    bounds.lows →
    AreBounds count (negsuc 0) facts bounds.highs → is_within count fs ≡ true → pairs_in bounds fs ≡ bound_pairs facts
    fs
pairs-are count facts bounds [] l h w = refl
pairs-are count facts bounds (f ∷ fs) l h w =
    let parts = and_parts (nat_le (suc f.0) count) (is_within count fs) w in
    let inside = le-is (suc f.0) count parts.0 in
    ap (λ b. pair_for f.1 b ++ pairs_in bounds fs) (against-is count facts bounds f.0 f.1 l h (omega (arith, inside)))
    ∙ ap (λ ps. pair_for f.1 (tightest 0 f.0 (side_for f.1) facts) ++ ps) (pairs-are count facts bounds fs l h parts.1)
