-- A fact that its bounds refute is refuted by one sum: itself, and each factor times its variable's tightest bound.
use Rattle.std.proofs.Common.{◌≡◌, ℕ, zero, suc, ◌+◌, ◌*◌, ◌≤◌, ◌<◌, ◌^◌, nat_eq, nat_le, ℤ, pos, negsuc, ◌+ℤ◌, ◌*ℤ◌}
use Rattle.std.proofs.Common.{Bool, true, false, cond, not, ◌&&◌, ◌||◌, ◌⊎◌, inl, inr, Option, Some, None, Ok, Err}
use Rattle.std.proofs.Common.{List, []}
use Rattle.std.proofs.Common.{◌∷◌, ◌++◌, length, slice_get, arith, refl, sym, ap, subst, ◌∙◌}
use Rattle.std.specs.List.{list_all, list_any}
use Rattle.std.specs.Int.RustNames.{int_le, unsigned_abs}
use Rattle.std.proofs.lemmas.Int.{ints, unsigned_abs-mul}
use Rattle.std.proofs.lemmas.Bool.{and_parts, not-true}
use lib.IntN.{*ℤ-zero}
use Rattle.obligations.specs.declared.branches.Fact.{Fact}
use Rattle.obligations.specs.declared.branches.Line.{Line}
use Rattle.case_tables.specs.declared.code_table.Code.{Code}
use Rattle.obligations.specs.from_core_terms.Values.{number_at}
use Rattle.meaning_states.specs.State.{int_eq}
use Rattle.obligations.specs.LinearForms.{add_at}
use Rattle.obligations.specs.Load.{in_limit}
use Rattle.certificate_rules.specs.Sums.{add_factors, with_constant, add_times, or_too_big, add_pair, sum_pairs}
use Rattle.certificate_rules.specs.Refutation.{fails, opens, made_sum}
use Rattle.obligations.proofs.LineLaws.{length-add_at}
use Rattle.obligations.specs.declared.branches.Bound.{Bound}
use Rattle.obligations.specs.Reach.{is_exact, is_within, is_bound_of, tighter, tightest, side_for, Total, total_with}
use Rattle.obligations.specs.Reach.{total_of, is_refuted_by, bounds_refute, pair_for, bound_pairs}
use Rattle.linear_prover.specs.Exact.{factor_in, is_once}
use Rattle.linear_prover.specs.Chains.{nulls, null_line, total_pairs}

pub eq-is : (a b : ℕ) → nat_eq a b ≡ true → a ≡ b
eq-is a b h = grind arith

eq-refl : (a : ℕ) → nat_eq a a ≡ true
eq-refl a = grind arith

eq-not : (a b : ℕ) → (a ≡ b → ⊥) → nat_eq a b ≡ false
eq-not a b h = grind arith

pub not-eq : (a b : ℕ) → nat_eq a b ≡ false → a ≡ b → ⊥
not-eq a b h = grind arith

pub le-is : (a b : ℕ) → nat_le a b ≡ true → a ≤ b
le-is a b h = grind arith

pub gt-is : (a b : ℕ) → nat_le a b ≡ false → b < a
gt-is a b h = grind arith

pub le-true : (a b : ℕ) → a ≤ b → nat_le a b ≡ true
le-true a b h = grind arith

pub int-eq-is : (a b : ℤ) → int_eq a b ≡ true → a ≡ b
int-eq-is a b h = grind (arith, ints)

pub int-eq-refl : (a : ℤ) → int_eq a a ≡ true
int-eq-refl a = grind (arith, ints)

pub abs-plus : (a b : ℤ) → unsigned_abs (a +ℤ b) ≤ unsigned_abs a + unsigned_abs b
abs-plus (pos a) (pos b) = omega (arith, ints)
abs-plus (pos a) (negsuc b) = omega (arith, ints)
abs-plus (negsuc a) (pos b) = omega (arith, ints)
abs-plus (negsuc a) (negsuc b) = omega (arith, ints)

pub small-is : (z : ℤ) → unsigned_abs z ≤ 2 ^ 126 → in_limit z ≡ true
small-is z h = le-true (unsigned_abs z) (2 ^ 126) h

small-zero : (z : ℤ) → z ≡ pos 0 → in_limit z ≡ true
small-zero z e = small-is z (let h : unsigned_abs z ≡ 0 = ap unsigned_abs e in omega (arith, h))

-- Numbers of a list that had one added.
pub number-past : (xs : List ℤ) (p : ℕ) → length xs ≤ p → number_at xs p ≡ pos 0
number-past [] p h = refl
number-past (x ∷ xs) zero h = absurd (omega arith)
number-past (x ∷ xs) (suc p) h = number-past xs p (omega arith)

pub add-there : (xs : List ℤ) (p : ℕ) (z : ℤ) → p < length xs → number_at (add_at xs p z) p ≡ number_at xs p +ℤ z
add-there [] p z h = absurd (omega arith)
add-there (x ∷ xs) zero z h = refl
add-there (x ∷ xs) (suc p) z h = add-there xs p z (omega arith)

pub add-else : (xs : List ℤ) (n p : ℕ) (z : ℤ) → (n ≡ p → ⊥) → number_at (add_at xs n z) p ≡ number_at xs p
add-else [] n p z h = refl
add-else (x ∷ xs) zero zero z h = absurd (h refl)
add-else (x ∷ xs) zero (suc p) z h = refl
add-else (x ∷ xs) (suc n) zero z h = refl
add-else (x ∷ xs) (suc n) (suc p) z h = add-else xs n p z (λ e. h (ap suc e))

pub nulls-at : (n p : ℕ) → number_at (nulls n) p ≡ pos 0
nulls-at zero p = refl
nulls-at (suc n) zero = refl
nulls-at (suc n) (suc p) = nulls-at n p

pub length-nulls : (n : ℕ) → length (nulls n) ≡ n
length-nulls zero = refl
length-nulls (suc n) = ap suc (length-nulls n)

-- a variable before the first place has no factor
pub factor-before : (n p : ℕ) (fs : List (ℕ × ℤ)) → is_exact n fs ≡ true → p < n → factor_in fs p ≡ pos 0
factor-before n p [] e h = refl
factor-before n p (f ∷ fs) e h =
    let a = and_parts (nat_le n f.0 && not (int_eq f.1 (pos 0))) (is_exact (suc f.0) fs) e in
    let b = and_parts (nat_le n f.0) (not (int_eq f.1 (pos 0))) a.0 in
    let c = le-is n f.0 b.0 in
    ap (λ t. cond t f.1 (factor_in fs p)) (eq-not f.0 p (λ k. omega (arith, k, c, h))) ∙ factor-before (suc f.0) p fs
    a.1 (omega (arith, c, h))

pub factor-here : (f : ℕ × ℤ) (fs : List (ℕ × ℤ)) → factor_in (f ∷ fs) f.0 ≡ f.1
factor-here f fs = ap (λ t. cond t f.1 (factor_in fs f.0)) (eq-refl f.0)

pub factor-else : (f : ℕ × ℤ) (fs : List (ℕ × ℤ)) (p : ℕ) → (f.0 ≡ p → ⊥) → factor_in (f ∷ fs) p ≡ factor_in fs p
factor-else f fs p h = ap (λ t. cond t f.1 (factor_in fs p)) (eq-not f.0 p h)

-- A multiple of a fact added to numbers, where all products and sums are small.
pub record Added (m : ℤ) (fs : List (ℕ × ℤ)) (sum : List ℤ) : Type 0 where
  pub out : List ℤ
  pub is : add_factors m fs sum ≡ Some out
  pub long : length out ≡ length sum
  pub at : (p : ℕ) → p < length sum → number_at out p ≡ number_at sum p +ℤ m *ℤ factor_in fs p

pub record Small (m : ℤ) (fs : List (ℕ × ℤ)) (sum : List ℤ) : Type 0 where
  pub product : (p : ℕ) → in_limit (m *ℤ factor_in fs p) ≡ true
  pub total : (p : ℕ) → in_limit (number_at sum p +ℤ m *ℤ factor_in fs p) ≡ true

abbrev Split : ℕ → ℕ → Type 0
Split a b = (a ≡ b) ⊎ (a ≡ b → ⊥)

split : (a b : ℕ) → Split a b
split a b = split_by (nat_eq a b) refl
  where
    split_by : (t : Bool) → nat_eq a b ≡ t → Split a b
    split_by true e = inl (eq-is a b e)
    split_by false e = inr (not-eq a b e)

-- a variable that isn't named has no factor
unnamed : (fs : List (ℕ × ℤ)) (p : ℕ) → list_any (λ (g : ℕ × ℤ). nat_eq g.0 p) fs ≡ false → factor_in fs p ≡ pos 0
unnamed [] p e = refl
unnamed (f ∷ fs) p e = by_parts (nat_eq f.0 p) (list_any (λ (g : ℕ × ℤ). nat_eq g.0 p) fs) e (unnamed fs p)
  where
    by_parts : (t u : Bool) → (t || u) ≡ false → (u ≡ false → factor_in fs p ≡ pos 0) → cond t f.1 (factor_in fs p) ≡
        pos 0
    by_parts true u h ih = cc
    by_parts false u h ih = ih h

-- factors in order name no variable twice
named-before : (n p : ℕ) (fs : List (ℕ × ℤ)) → is_exact n fs ≡ true → p < n → list_any (λ (g : ℕ × ℤ). nat_eq g.0 p)
    fs ≡ false
named-before n p [] e h = refl
named-before n p (f ∷ fs) e h =
    let a = and_parts (nat_le n f.0 && not (int_eq f.1 (pos 0))) (is_exact (suc f.0) fs) e in
    let b = and_parts (nat_le n f.0) (not (int_eq f.1 (pos 0))) a.0 in
    let c = le-is n f.0 b.0 in
    ap (λ t. t || list_any (λ (g : ℕ × ℤ). nat_eq g.0 p) fs) (eq-not f.0 p (λ k. omega (arith, k, c, h)))
    ∙ named-before (suc f.0) p fs a.1 (omega (arith, c, h))

pub exact-once : (n : ℕ) (fs : List (ℕ × ℤ)) → is_exact n fs ≡ true → is_once fs ≡ true
exact-once n [] e = refl
exact-once n (f ∷ fs) e =
    let a = and_parts (nat_le n f.0 && not (int_eq f.1 (pos 0))) (is_exact (suc f.0) fs) e in
    ap (λ t. not t && is_once fs) (named-before (suc f.0) f.0 fs a.1 (omega arith)) ∙ exact-once (suc f.0) fs a.1

pub adds-once : (m : ℤ) (fs : List (ℕ × ℤ)) (sum : List ℤ) → is_once fs ≡ true → Small m fs sum → Added m fs sum
adds-once m [] sum e s = record {
  out = sum;
  is = refl;
  long = refl;
  at = λ p h. let z : m *ℤ pos 0 ≡ pos 0 = *ℤ-zero m in
      omega (arith, ints, z);
}
adds-once m (f ∷ fs) sum e s =
    let a = and_parts (not (list_any (λ (g : ℕ × ℤ). nat_eq g.0 f.0) fs)) (is_once fs) e in
    let next : List ℤ = add_at sum f.0 (m *ℤ f.1) in
    let none : factor_in fs f.0 ≡ pos 0 = unnamed fs f.0 (not-true (list_any (λ (g : ℕ × ℤ). nat_eq g.0 f.0) fs) a.0)
    in
    let zero' : m *ℤ pos 0 ≡ pos 0 = *ℤ-zero m in
    let product : in_limit (m *ℤ f.1) ≡ true = ap (λ z. in_limit (m *ℤ z)) (sym (factor-here f fs)) ∙ s.product f.0 in
    let total : in_limit (number_at sum f.0 +ℤ m *ℤ f.1) ≡ true = ap (λ z. in_limit (number_at sum f.0 +ℤ m *ℤ z))
    (sym (factor-here f fs)) ∙ s.total f.0 in
    let here : (p : ℕ) → f.0 ≡ p → number_at next p +ℤ m *ℤ factor_in fs p ≡ number_at next f.0 = λ p k.
    subst (λ q. number_at next q +ℤ m *ℤ factor_in fs q ≡ number_at next f.0) k
    (ap (λ z. number_at next f.0 +ℤ m *ℤ z) none ∙ ap (λ z. number_at next f.0 +ℤ z) zero' ∙ plus-zero
    (number_at next f.0)) in
    let small-next : in_limit (number_at next f.0) ≡ true = bounded (nat_le (suc f.0) (length sum)) refl total in
    let r = adds-once m fs next a.1 (record {
      product = λ p. elim (split f.0 p) [
        | inl k ↦ subst (λ q. in_limit (m *ℤ factor_in fs q) ≡ true) k (small-zero _ (ap (λ z. m *ℤ z) none ∙ zero'))
        | inr k ↦ ap (λ z. in_limit (m *ℤ z)) (sym (factor-else f fs p k)) ∙ s.product p
      ];
      total = λ p. elim (split f.0 p) [
        | inl k ↦ ap in_limit (here p k) ∙ small-next
        | inr k ↦ ap (λ z. in_limit (z +ℤ m *ℤ factor_in fs p)) (add-else sum f.0 p (m *ℤ f.1) k) ∙ ap
            (λ z. in_limit (number_at sum p +ℤ m *ℤ z)) (sym (factor-else f fs p k)) ∙ s.total p
      ];
    }) in
    record {
      out = r.out;
      is = ap (λ t. cond t (add_factors m fs next) None) (both-true product total) ∙ r.is;
      long = r.long ∙ length-add_at sum f.0 (m *ℤ f.1);
      at = λ p h. elim (split f.0 p) [
        | inl k ↦ r.at p (let l = length-add_at sum f.0 (m *ℤ f.1) in omega (arith, l, h)) ∙ here p k
            ∙ add-there sum f.0 (m *ℤ f.1) (omega (arith, k, h))
            ∙ subst (λ q. number_at sum f.0 +ℤ m *ℤ f.1 ≡ number_at sum q +ℤ m *ℤ factor_in (f ∷ fs) q) k
            (ap (λ z. number_at sum f.0 +ℤ m *ℤ z) (sym (factor-here f fs)))
        | inr k ↦ r.at p (let l = length-add_at sum f.0 (m *ℤ f.1) in omega (arith, l, h))
            ∙ ap (λ z. z +ℤ m *ℤ factor_in fs p) (add-else sum f.0 p (m *ℤ f.1) k) ∙ ap
            (λ z. number_at sum p +ℤ m *ℤ z)
            (sym (factor-else f fs p k))
      ];
    }
  where
    plus-zero : (z : ℤ) → z +ℤ pos 0 ≡ z
    plus-zero z = omega (arith, ints)

    both-true : {a b : Bool} → a ≡ true → b ≡ true → (a && b) ≡ true
    both-true {a} {b} p q = ap (λ t. t && b) p ∙ q

    bounded : (t : Bool) → nat_le (suc f.0) (length sum) ≡ t → in_limit (number_at sum f.0 +ℤ m *ℤ f.1) ≡ true →
        in_limit (number_at (add_at sum f.0 (m *ℤ f.1)) f.0) ≡ true
    bounded true k q = ap in_limit (add-there sum f.0 (m *ℤ f.1)
        (let c = le-is (suc f.0) (length sum) k in omega (arith, c))) ∙ q
    bounded false k q = small-zero _ (number-past (add_at sum f.0 (m *ℤ f.1)) f.0
        (let l = length-add_at sum f.0 (m *ℤ f.1) in let c = gt-is (suc f.0) (length sum) k in omega (arith, l, c)))

pub adds : (m : ℤ) (n : ℕ) (fs : List (ℕ × ℤ)) (sum : List ℤ) → is_exact n fs ≡ true → Small m fs sum → Added m fs sum
adds m n fs sum e s = adds-once m fs sum (exact-once n fs e) s

-- a sum after a multiple of a fact
pub record Next (m : ℤ) (f : Fact) (l : Line) : Type 0 where
  pub out : Line
  pub is : add_pair m (Some f) l ≡ Ok out
  pub long : length out.factors ≡ length l.factors
  pub at : (p : ℕ) → p < length l.factors → number_at out.factors p ≡ number_at l.factors p +ℤ m *ℤ factor_in
      f.factors
      p
  pub constant : out.constant ≡ l.constant +ℤ m *ℤ f.constant

pub next-pair : (m : ℕ) (f : Fact) (l : Line) → is_exact 0 f.factors ≡ true → Small (pos m) f.factors l.factors →
    in_limit (pos m *ℤ f.constant) ≡ true → in_limit (l.constant +ℤ pos m *ℤ f.constant) ≡ true → Next (pos m) f l
next-pair m f l e s p q =
    let r = adds (pos m) 0 f.factors l.factors e s in
    record {
      out = record { factors = r.out; constant = l.constant +ℤ pos m *ℤ f.constant };
      is = ap (λ t. cond t (or_too_big (add_times (pos m) f l)) (Err Code.BadSum)) (least m)
          ∙ ap (λ t. or_too_big (cond (t && in_limit (l.constant +ℤ pos m *ℤ f.constant))
          (with_constant (l.constant +ℤ pos m *ℤ f.constant) (add_factors (pos m) f.factors l.factors)) None)) p
          ∙ ap (λ t. or_too_big (cond t (with_constant (l.constant +ℤ pos m *ℤ f.constant)
          (add_factors (pos m) f.factors l.factors)) None)) q
          ∙ ap (λ o. or_too_big (with_constant (l.constant +ℤ pos m *ℤ f.constant) o)) r.is;
      long = r.long;
      at = r.at;
      constant = refl;
    }
  where
    least : (n : ℕ) → int_le (pos 0) (pos n) ≡ true
    least n = grind (arith, ints)

-- The tightest bound is a fact of the list.
pub record BoundIs (facts : List Fact) (n v : ℕ) (side : ℤ) (b : Bound) : Type 0 where
  pub place : ℕ
  pub at : b.place ≡ n + place
  pub fact : Fact
  pub there : slice_get facts place ≡ Some fact
  pub factors : fact.factors ≡ (v, side) ∷ []
  pub constant : fact.constant ≡ b.constant

bound-of : (v : ℕ) (side : ℤ) (fs : List (ℕ × ℤ)) → is_bound_of v side fs ≡ true → fs ≡ (v, side) ∷ []
bound-of v side [] e = cc
bound-of v side (f ∷ []) e =
    let a = and_parts (nat_eq f.0 v) (int_eq f.1 side) e in
    ap (λ (x : ℕ). (x, f.1) ∷ []) (eq-is f.0 v a.0) ∙ ap (λ (x : ℤ). (v, x) ∷ []) (int-eq-is f.1 side a.1)
bound-of v side (f ∷ g ∷ fs) e = cc

later : (f : Fact) (facts : List Fact) (n v : ℕ) (side : ℤ) (b : Bound) → BoundIs facts (suc n) v side b → BoundIs
    (f ∷ facts) n v side b
later f facts n v side b r =
    record {
      place = suc r.place;
      at = let a = r.at in omega (arith, a);
      fact = r.fact;
      there = r.there;
      factors =
          r.factors;
      constant = r.constant;
    }

pub bound-is : (facts : List Fact) (n v : ℕ) (side : ℤ) (b : Bound) → tightest n v side facts ≡ Some b → BoundIs facts
    n
    v side b
bound-is [] n v side b e = cc
bound-is (f ∷ facts) n v side b e = by_test (is_bound_of v side f.factors) refl (tightest (suc n) v side facts) refl e
    (bound-is facts (suc n) v side b)
  where
    own : is_bound_of v side f.factors ≡ true → record { place = n; constant = f.constant } ≡ b → BoundIs (f ∷ facts)
        n
        v side b
    own q s = record {
      place = 0;
      at = ap (λ (x : Bound). x.place) (sym s) ∙ omega arith;
      fact = f;
      there = refl;
      factors = bound-of v side f.factors q;
      constant = ap (λ (x : Bound). x.constant) s;
    }

    chosen : (t : Bool) (c : Bound) → is_bound_of v side f.factors ≡ true → tightest (suc n) v side facts ≡ Some c →
        cond t (record { place = n; constant = f.constant }) c ≡ b →
        (tightest (suc n) v side facts ≡ Some b → BoundIs facts (suc n) v side b) → BoundIs (f ∷ facts) n v side b
    chosen true c q o s ih = own q s
    chosen false c q o s ih = later f facts n v side b (ih (o ∙ ap Some s))

    by_test : (t : Bool) → is_bound_of v side f.factors ≡ t → (o : Option Bound) → tightest (suc n) v side facts ≡ o →
        tighter (cond t (Some (record { place = n; constant = f.constant })) None) o ≡ Some b →
        (tightest (suc n) v side facts ≡ Some b → BoundIs facts (suc n) v side b) → BoundIs (f ∷ facts) n v side b
    by_test false q o p s ih = later f facts n v side b (ih (p ∙ s))
    by_test true q None p s ih = own q (cc)
    by_test true q (Some c) p s ih = chosen (int_le f.constant c.constant) c q p (cc) ih

pub abs-side : (a : ℤ) → pos (unsigned_abs a) *ℤ side_for a +ℤ a ≡ pos 0
abs-side (pos n) = omega (arith, ints)
abs-side (negsuc n) = omega (arith, ints)

pub abs-times : (a : ℤ) → unsigned_abs (pos (unsigned_abs a) *ℤ side_for a) ≡ unsigned_abs a
abs-times a = unsigned_abs-mul (pos (unsigned_abs a)) (side_for a) ∙ by_side a
  where
    by_side : (a : ℤ) → unsigned_abs a * unsigned_abs (side_for a) ≡ unsigned_abs a
    by_side (pos n) = omega arith
    by_side (negsuc n) = omega arith

pub side-exact : (v : ℕ) (a : ℤ) → is_exact 0 ((v, side_for a) ∷ []) ≡ true
side-exact v (pos n) = ap (λ t. (t && true) && true) (le-true 0 v (omega arith))
side-exact v (negsuc n) = ap (λ t. (t && true) && true) (le-true 0 v (omega arith))

-- the sum after all bounds: nothing is left of the factors
pub record Cleared (facts : List Fact) (fs : List (ℕ × ℤ)) (l : Line) (value : ℤ) : Type 0 where
  pub out : Line
  pub is : sum_pairs facts (Ok l) (bound_pairs facts fs) ≡ Ok out
  pub long : length out.factors ≡ length l.factors
  pub none : (p : ℕ) → p < length l.factors → number_at out.factors p ≡ pos 0
  pub constant : out.constant ≡ l.constant +ℤ value

-- what a running sum has to meet before the bounds of these factors are added
pub record Before (facts : List Fact) (n : ℕ) (fs : List (ℕ × ℤ)) (l : Line) (t : Total) : Type 0 where
  pub exact : is_exact n fs ≡ true
  pub within : is_within (length l.factors) fs ≡ true
  pub carries : (p : ℕ) → p < length l.factors → number_at l.factors p ≡ factor_in fs p
  pub small : (p : ℕ) → in_limit (number_at l.factors p) ≡ true
  pub totals : total_of facts fs ≡ Some t
  pub light : t.light ≡ true
  pub room : unsigned_abs l.constant + t.load ≤ 2 ^ 126

pub cleared : (facts : List Fact) (n : ℕ) (fs : List (ℕ × ℤ)) (l : Line) (t : Total) → Before facts n fs l t → Cleared
    facts fs l t.value
cleared facts n [] l t b =
    let same : record { value = pos 0; load = 0; light = true } ≡ t = cc (b.totals) in
    let v : pos 0 ≡ t.value = ap (λ (x : Total). x.value) same in
    record { out = l; is = refl; long = refl; none = b.carries; constant = omega (arith, ints, v) }
cleared facts n (f ∷ fs) l t b = found (tightest 0 f.0 (side_for f.1) facts) refl (total_of facts fs) refl b.totals
    (λ m u. cleared facts (suc f.0) fs m u)
  where
    taken : (x : Bound) (u : Total) → tightest 0 f.0 (side_for f.1) facts ≡ Some x → total_of facts fs ≡ Some u →
        record {
          value = pos (unsigned_abs f.1) *ℤ x.constant +ℤ u.value;
          load = unsigned_abs f.1 * unsigned_abs
              x.constant + u.load;
          light = nat_le (unsigned_abs f.1) (2 ^ 62) && u.light;
        } ≡ t →
        ((m : Line) (u : Total) → Before facts (suc f.0) fs m u → Cleared facts fs m u.value) → Cleared facts (f ∷ fs)
        l
        t.value
    taken x u q o same ih =
        let g = bound-is facts 0 f.0 (side_for f.1) x q in
        let m : ℕ = unsigned_abs f.1 in
        let value = ap (λ (z : Total). z.value) same in
        let load = ap (λ (z : Total). z.load) same in
        let lights = and_parts (nat_le m (2 ^ 62)) u.light (ap (λ (z : Total). z.light) same ∙ b.light) in
        let fits = le-is m (2 ^ 62) lights.0 in
        let places = and_parts (nat_le (suc f.0) (length l.factors)) (is_within (length l.factors) fs) b.within in
        let inside = le-is (suc f.0) (length l.factors) places.0 in
        let exacts = and_parts (nat_le n f.0 && not (int_eq f.1 (pos 0))) (is_exact (suc f.0) fs) b.exact in
        let own : number_at l.factors f.0 ≡ f.1 = b.carries f.0 (omega (arith, inside)) ∙ factor-here f fs in
        let one : factor_in g.fact.factors f.0 ≡ side_for f.1 = ap (λ z. factor_in z f.0) g.factors ∙ factor-here
        (f.0, side_for f.1) [] in
        let other : (p : ℕ) → (f.0 ≡ p → ⊥) → factor_in g.fact.factors p ≡ pos 0 = λ p k. ap (λ z. factor_in z p)
        g.factors ∙ factor-else (f.0, side_for f.1) [] p k in
        let nothing : pos m *ℤ pos 0 ≡ pos 0 = *ℤ-zero (pos m) in
        let c : unsigned_abs (pos m *ℤ g.fact.constant) ≡ m * unsigned_abs x.constant = unsigned_abs-mul (pos m)
        g.fact.constant ∙ ap (λ z. m * unsigned_abs z) g.constant in
        let room = b.room in
        let sum = abs-plus l.constant (pos m *ℤ g.fact.constant) in
        let gone : number_at l.factors f.0 +ℤ pos m *ℤ factor_in g.fact.factors f.0 ≡ pos 0 = ap
        (λ z. z +ℤ pos m *ℤ factor_in g.fact.factors f.0) own ∙ ap (λ z. f.1 +ℤ pos m *ℤ z) one ∙ turn
        (pos m *ℤ side_for f.1) f.1 (abs-side f.1) in
        let stays : (p : ℕ) → (f.0 ≡ p → ⊥) → number_at l.factors p +ℤ pos m *ℤ factor_in g.fact.factors p ≡ number_at
        l.factors p = λ p k. ap (λ z. number_at l.factors p +ℤ pos m *ℤ z) (other p k) ∙ ap
        (λ z. number_at l.factors p +ℤ z) nothing ∙ plus-zero (number_at l.factors p) in
        let totals-small : (p : ℕ) → in_limit (number_at l.factors p +ℤ pos m *ℤ factor_in g.fact.factors p) ≡ true =
        λ
        p. elim (split f.0 p) [
          | inl k ↦ subst (λ z. in_limit (number_at l.factors z +ℤ pos m *ℤ factor_in g.fact.factors z) ≡ true) k
              (small-zero _ gone)
          | inr k ↦ ap in_limit (stays p k) ∙ b.small p
        ] in
        let products-small : (p : ℕ) → in_limit (pos m *ℤ factor_in g.fact.factors p) ≡ true = λ p. elim (split f.0 p) [
          | inl k ↦ subst (λ z. in_limit (pos m *ℤ factor_in g.fact.factors z) ≡ true) k
              (ap (λ z. in_limit (pos m *ℤ z)) one ∙ small-is (pos m *ℤ side_for f.1)
              (let w = abs-times f.1 in omega (arith, w, fits)))
          | inr k ↦ small-zero _ (ap (λ z. pos m *ℤ z) (other p k) ∙ nothing)
        ] in
        let r = next-pair m g.fact l (ap (is_exact 0) g.factors ∙ side-exact f.0 f.1)
        (record { product = products-small; total = totals-small })
        (small-is (pos m *ℤ g.fact.constant) (omega (arith, c, room, load)))
        (small-is (l.constant +ℤ pos m *ℤ g.fact.constant) (omega (arith, c, room, load, sum))) in
        let rc = r.constant in
        let rest = ih r.out u (record {
          exact = exacts.1;
          within = ap (λ z. is_within z fs) r.long ∙ places.1;
          carries = λ p h. let h' : p < length l.factors = (let w = r.long in omega (arith, w, h))
              in elim (split f.0 p) [
                | inl k ↦ r.at p h' ∙ subst (λ z. number_at l.factors z +ℤ pos m *ℤ factor_in g.fact.factors z ≡
                    factor_in
                    fs z) k (gone ∙ sym (factor-before (suc f.0) f.0 fs exacts.1 (omega arith)))
                | inr k ↦ r.at p h' ∙ stays p k ∙ b.carries p h' ∙ factor-else f fs p k
              ];
          small = λ p. lies p (nat_le (suc p) (length l.factors)) refl r.out r.long
              (λ h. ap in_limit (r.at p h) ∙ totals-small p);
          totals = o;
          light = lights.1;
          room = (let w = ap unsigned_abs rc in omega (arith, w, c, room, load, sum));
        }) in
        let rest-constant = rest.constant in
        record {
          out = rest.out;
          is = ap (λ z. sum_pairs facts (Ok l) (pair_for f.1 z ++ bound_pairs facts fs)) q
              ∙ ap (λ z. sum_pairs facts (add_pair (pos m) (slice_get facts z) l) (bound_pairs facts fs))
              (g.at ∙ omega arith)
              ∙ ap (λ z. sum_pairs facts (add_pair (pos m) z l) (bound_pairs facts fs)) g.there
              ∙ ap (λ z. sum_pairs facts z (bound_pairs facts fs)) r.is ∙ rest.is;
          long = rest.long ∙ r.long;
          none = λ p h. rest.none p (let w = r.long in omega (arith, w, h));
          constant = rest-constant ∙ ap (λ z. z +ℤ u.value) (rc ∙ ap (λ z. l.constant +ℤ pos m *ℤ z) g.constant) ∙
              group
              l.constant (pos m *ℤ x.constant) u.value ∙ ap (λ z. l.constant +ℤ z) value;
        }
      where
        plus-zero : (z : ℤ) → z +ℤ pos 0 ≡ z
        plus-zero z = omega (arith, ints)

        turn : (a b : ℤ) → a +ℤ b ≡ pos 0 → b +ℤ a ≡ pos 0
        turn a b h = omega (arith, ints, h)

        group : (a b c : ℤ) → (a +ℤ b) +ℤ c ≡ a +ℤ (b +ℤ c)
        group a b c = omega (arith, ints)

        lies : (p : ℕ) (t : Bool) → nat_le (suc p) (length l.factors) ≡ t → (out : Line) → length out.factors ≡ length
            l.factors → (p < length l.factors → in_limit (number_at out.factors p) ≡ true) → in_limit
            (number_at out.factors p) ≡ true
        lies p true e out w h = h (let k = le-is (suc p) (length l.factors) e in omega (arith, k))
        lies p false e out w h = small-zero _ (number-past out.factors p
            (let k = gt-is (suc p) (length l.factors) e in omega (arith, k, w)))

    found : (o : Option Bound) → tightest 0 f.0 (side_for f.1) facts ≡ o → (s : Option Total) → total_of facts fs ≡ s
        →
        total_with f.1 o s ≡ Some t → ((m : Line) (u : Total) → Before facts (suc f.0) fs m u → Cleared facts fs m
        u.value) → Cleared facts (f ∷ fs) l t.value
    found None q s r e ih = cc
    found (Some x) q None r e ih = cc
    found (Some x) q (Some u) r e ih = taken x u q r (cc) ih

-- the factors of a light total are light
light-factor : (facts : List Fact) (fs : List (ℕ × ℤ)) (t : Total) → total_of facts fs ≡ Some t → t.light ≡ true →
    (p : ℕ) → unsigned_abs (factor_in fs p) ≤ 2 ^ 62
light-factor facts [] t e l p = omega arith
light-factor facts (f ∷ fs) t e l p = found (tightest 0 f.0 (side_for f.1) facts) (total_of facts fs) refl e
    (λ u r k. light-factor facts fs u r k p)
  where
    found : (o : Option Bound) (s : Option Total) → total_of facts fs ≡ s → total_with f.1 o s ≡ Some t →
        ((u : Total) → total_of facts fs ≡ Some u → u.light ≡ true → unsigned_abs (factor_in fs p) ≤ 2 ^ 62) →
        unsigned_abs (factor_in (f ∷ fs) p) ≤ 2 ^ 62
    found None s r q ih = cc
    found (Some x) None r q ih = cc
    found (Some x) (Some u) r q ih =
        let same : record {
          value = pos (unsigned_abs f.1) *ℤ x.constant +ℤ u.value;
          load = unsigned_abs f.1 *
              unsigned_abs x.constant + u.load;
          light = nat_le (unsigned_abs f.1) (2 ^ 62) && u.light;
        } ≡ t = cc in
        let lights = and_parts (nat_le (unsigned_abs f.1) (2 ^ 62)) u.light (ap (λ (z : Total). z.light) same ∙ l) in
        elim (split f.0 p) [
          | inl k ↦ subst (λ z. unsigned_abs (factor_in (f ∷ fs) z) ≤ 2 ^ 62) k
              (subst (λ z. unsigned_abs z ≤ 2 ^ 62) (sym (factor-here f fs))
              (le-is (unsigned_abs f.1) (2 ^ 62) lights.0))
          | inr k ↦ subst (λ z. unsigned_abs z ≤ 2 ^ 62) (sym (factor-else f fs p k)) (ih u r lights.1)
        ]

pub all-zero : (zs : List ℤ) → ((p : ℕ) → p < length zs → number_at zs p ≡ pos 0) → list_all (λ z. int_eq z (pos 0))
    zs
    ≡ true
all-zero [] h = refl
all-zero (z ∷ zs) h = ap (λ t. t && list_all (λ z. int_eq z (pos 0)) zs)
    (ap (λ x. int_eq x (pos 0)) (h 0 (omega arith)) ∙ int-eq-refl (pos 0)) ∙ all-zero zs
    (λ p k. h (suc p) (omega arith))

-- a fact that its bounds refute is closed by the sum of it and its bounds
pub bounds-close : (count : ℕ) (facts : List Fact) (i : ℕ) (f : Fact) → slice_get facts i ≡ Some f → is_exact 0
    f.factors ≡ true → is_within count f.factors ≡ true → bounds_refute facts f ≡ true →
    made_sum (total_pairs count facts ((pos 1, suc i) ∷ bound_pairs facts f.factors)) ≡ opens []
bounds-close count facts i f there exact within e = refuted (total_of facts f.factors) refl e
  where
    once : (z : ℤ) → pos 1 *ℤ z ≡ z
    once z = omega (arith, ints)

    from-zero : (z : ℤ) → pos 0 +ℤ pos 1 *ℤ z ≡ z
    from-zero z = omega (arith, ints)

    refuted : (o : Option Total) → total_of facts f.factors ≡ o → is_refuted_by f.constant o ≡ true → made_sum
        (total_pairs count facts ((pos 1, suc i) ∷ bound_pairs facts f.factors)) ≡ opens []
    refuted None q h = cc
    refuted (Some t) q h =
        let parts = and_parts (t.light && nat_le (unsigned_abs f.constant + t.load) (2 ^ 126))
        (not (int_le (pos 0) (f.constant +ℤ t.value))) h in
        let lights = and_parts t.light (nat_le (unsigned_abs f.constant + t.load) (2 ^ 126)) parts.0 in
        let room = le-is (unsigned_abs f.constant + t.load) (2 ^ 126) lights.1 in
        let long : length (null_line count).factors ≡ count = length-nulls count in
        let tame = light-factor facts f.factors t q lights.0 in
        let product : (p : ℕ) → in_limit (pos 1 *ℤ factor_in f.factors p) ≡ true = λ p. ap in_limit
        (once (factor_in f.factors p)) ∙ small-is (factor_in f.factors p) (let k = tame p in omega (arith, k))
        in
        let total : (p : ℕ) → in_limit (number_at (null_line count).factors p +ℤ pos 1 *ℤ factor_in f.factors p) ≡
        true
        = λ p.
        ap (λ z. in_limit (z +ℤ pos 1 *ℤ factor_in f.factors p)) (nulls-at count p) ∙ ap in_limit
        (from-zero (factor_in f.factors p)) ∙ small-is (factor_in f.factors p) (let k = tame p in omega (arith, k))
        in
        let r = next-pair 1 f (null_line count) exact (record { product = product; total = total })
        (ap in_limit (once f.constant) ∙ small-is f.constant (omega (arith, room)))
        (ap in_limit (from-zero f.constant) ∙ small-is f.constant (omega (arith, room))) in
        let rc : r.out.constant ≡ f.constant = r.constant ∙ from-zero f.constant in
        let numbers : (p : ℕ) → p < length r.out.factors → number_at r.out.factors p ≡ factor_in f.factors p = λ p k.
        r.at p (let w = r.long in omega (arith, w, k)) ∙ ap (λ z. z +ℤ pos 1 *ℤ factor_in f.factors p)
        (nulls-at count p) ∙ from-zero (factor_in f.factors p) in
        let all = cleared facts 0 f.factors r.out t (record {
          exact = exact;
          within = ap (λ z. is_within z f.factors) (r.long ∙ long) ∙ within;
          carries = numbers;
          small = λ p. lies p (nat_le (suc p) (length r.out.factors)) r.out refl
              (λ k. ap in_limit (numbers p k) ∙ small-is (factor_in f.factors p)
              (let w = tame p in omega (arith, w)));
          totals = q;
          light = lights.0;
          room = (let w = ap unsigned_abs rc in omega (arith, w, room));
        }) in
        let sum : total_pairs count facts ((pos 1, suc i) ∷ bound_pairs facts f.factors) ≡ Ok all.out =
        ap (λ z. sum_pairs facts (add_pair (pos 1) z (null_line count)) (bound_pairs facts f.factors)) there ∙ ap
        (λ z. sum_pairs facts z (bound_pairs facts f.factors)) r.is ∙ all.is in
        let zero' = all-zero all.out.factors (λ p k. all.none p (let w = all.long in omega (arith, w, k))) in
        let low : all.out.constant ≡ f.constant +ℤ t.value = all.constant ∙ ap (λ z. z +ℤ t.value) rc in
        ap made_sum sum ∙ ap (λ b. cond (b && not (int_le (pos 0) all.out.constant)) (opens []) (fails Code.BadSum))
        zero'
        ∙ ap (λ z. cond (not (int_le (pos 0) z)) (opens []) (fails Code.BadSum)) low ∙ ap
        (λ b. cond b (opens []) (fails Code.BadSum)) parts.1
      where
        lies : (p : ℕ) (t : Bool) (out : Line) → nat_le (suc p) (length out.factors) ≡ t →
            (p < length out.factors → in_limit (number_at out.factors p) ≡ true) → in_limit (number_at out.factors p)
            ≡
            true
        lies p true out e h = h (let k = le-is (suc p) (length out.factors) e in omega (arith, k))
        lies p false out e h = small-zero _ (number-past out.factors p
            (let k = gt-is (suc p) (length out.factors) e in omega (arith, k)))
