-- Facts in order: they have the same sums, so a chain that closes them closes the facts that they were made of.
use Rattle.std.proofs.Common.{◌≡◌, ℕ, zero, suc, ◌+◌, ◌-◌, ◌/◌, ◌≤◌, ◌<◌, nat_eq, nat_le, nat_lt, ℤ, pos, negsuc}
use Rattle.std.proofs.Common.{◌+ℤ◌, ◌*ℤ◌}
use Rattle.std.proofs.Common.{Bool, true, false, cond, not, ◌&&◌, ◌||◌, ◌⊎◌, inl, inr, Option, Some, None, Result, Ok}
use Rattle.std.proofs.Common.{Err, List, [], ◌∷◌, ◌++◌}
use Rattle.std.proofs.Common.{drop, map, length, get_or, slice_get, slice_set, arith, refl, sym, ap, subst, ◌∙◌}
use Rattle.std.proofs.Math.Seq.{drop-cons}
use Rattle.std.specs.List.{list_all, list_any}
use Rattle.std.specs.Int.{int_div_euclid}
use Rattle.std.specs.Int.RustNames.{int_le}
use Rattle.std.proofs.lemmas.Int.{ints}
use Rattle.std.proofs.lemmas.Bool.{and_parts}
use lib.IntN.{*ℤ-zero}
use Rattle.meaning_states.specs.State.{int_eq}
use Rattle.obligations.specs.from_core_terms.Values.{number_at}
use Rattle.case_tables.specs.declared.code_table.Code.{Code}
use Rattle.obligations.specs.declared.branches.Fact.{Fact}
use Rattle.obligations.specs.declared.branches.Line.{Line}
use Rattle.obligations.specs.declared.certificates.Node.{Node}
use Rattle.obligations.specs.LinearForms.{add_at, sparse, fact_of}
use Rattle.obligations.specs.Load.{in_limit}
use Rattle.obligations.specs.Reach.{is_exact, is_within, are_exact}
use Rattle.obligations.proofs.LineLaws.{length-add_at}
use Rattle.certificate_rules.specs.Refutation.{NodeEffect, fails, opens, made_sum}
use Rattle.certificate_rules.specs.Sums.{add_factors, with_constant, add_times, numbered, or_too_big, add_pair}
use Rattle.certificate_rules.specs.Sums.{then_by, sum_pairs, is_divisible, divided}
use Rattle.linear_prover.specs.Chains.{nulls, null_line, total_pairs, Closes}
use Rattle.linear_prover.specs.Exact.{factor_in, is_once, is_fact, factors_from, in_order}
use Rattle.linear_prover.proofs.SumLaws.{length-nulls, nulls-at, small-is, factor-here, factor-else, add-there}
use Rattle.linear_prover.proofs.SumLaws.{add-else, number-past, Small, Added, adds, adds-once, exact-once}
use Rattle.linear_prover.proofs.DivisionLaws.{sparse-exact, sparse-factor}

le-is : (a b : ℕ) → nat_le a b ≡ true → a ≤ b
le-is a b h = grind arith

lt-is : (a b : ℕ) → nat_lt a b ≡ true → a < b
lt-is a b h = grind arith

not-lt : (a b : ℕ) → nat_lt a b ≡ false → b ≤ a
not-lt a b h = grind arith

eq-refl : (a : ℕ) → nat_eq a a ≡ true
eq-refl a = grind arith

apart : (a b : ℕ) → a < b → nat_eq a b ≡ false
apart a b h = grind arith

-- Factors put into their places.
factors-past : (m k : ℕ) (f : ℕ × ℤ) (fs : List (ℕ × ℤ)) → f.0 < m → factors_from m k (f ∷ fs) ≡ factors_from m k fs
factors-past m zero f fs h = refl
factors-past m (suc k) f fs h =
    ap (λ t. cond t f.1 (factor_in fs m) ∷ factors_from (suc m) k (f ∷ fs)) (apart f.0 m h)
    ∙ ap (λ zs. factor_in fs m ∷ zs) (factors-past (suc m) k f fs (omega arith))

set-factor : (n k place : ℕ) (f : ℕ × ℤ) (fs : List (ℕ × ℤ)) → f.0 ≡ n + place → place < k →
    slice_set (factors_from n k fs) place f.1 ≡ factors_from n k (f ∷ fs)
set-factor n zero place f fs e h = absurd (omega arith)
set-factor n (suc k) zero f fs e h =
    let same : f.0 ≡ n = omega (arith, e) in
    sym (ap (λ t. cond t f.1 (factor_in fs n) ∷ factors_from (suc n) k (f ∷ fs))
    (subst (λ m. nat_eq f.0 m ≡ true) same (eq-refl f.0))
    ∙ ap (λ zs. f.1 ∷ zs) (factors-past (suc n) k f fs (omega (arith, same))))
set-factor n (suc k) (suc place) f fs e h =
    sym (ap (λ t. cond t f.1 (factor_in fs n) ∷ factors_from (suc n) k (f ∷ fs)) (above f.0 n (omega (arith, e)))
    ∙ ap (λ zs. factor_in fs n ∷ zs) (sym (set-factor (suc n) k place f fs (omega (arith, e)) (omega arith))))
  where
    above : (a b : ℕ) → b < a → nat_eq a b ≡ false
    above a b h = grind arith

pub nulls-factors : (n k : ℕ) → factors_from n k [] ≡ nulls k
nulls-factors n zero = refl
nulls-factors n (suc k) = ap (λ zs. pos 0 ∷ zs) (nulls-factors (suc n) k)

within-at : (count : ℕ) (fs : List (ℕ × ℤ)) (i : ℕ) (d : ℕ × ℤ) → is_within count fs ≡ true → i < length fs →
    (get_or fs i d).0 < count
within-at count [] i d w h = absurd (omega arith)
within-at count (f ∷ fs) zero d w h =
    let k = le-is (suc f.0) count (and_parts (nat_le (suc f.0) count) (is_within count fs) w).0 in omega (arith, k)
within-at count (f ∷ fs) (suc i) d w h = within-at count fs i d
    (and_parts (nat_le (suc f.0) count) (is_within count fs) w).1 (omega arith)

pub factor-put : (count : ℕ) (fs : List (ℕ × ℤ)) (left : ℕ) (d : ℕ × ℤ) (old new : List ℤ) → is_within count fs ≡ true
    → 0 < left → left ≤ length fs →
    old ≡ factors_from 0 count (drop left fs) → new ≡ slice_set old (get_or fs (left - 1) d).0
    (get_or fs (left - 1) d).1 →
    new ≡ factors_from 0 count (drop (left - 1) fs)
factor-put count fs left d old new w h k e n =
    let f : ℕ × ℤ = get_or fs (left - 1) d in
    let one : suc (left - 1) ≡ left = omega arith in
    n ∙ ap (λ zs. slice_set zs f.0 f.1) (e ∙ ap (λ m. factors_from 0 count (drop m fs)) (sym one))
    ∙ set-factor 0 count f.0 f (drop (suc (left - 1)) fs) (omega arith)
    (within-at count fs (left - 1) d w (omega arith))
    ∙ sym (ap (factors_from 0 count) (drop-cons fs (left - 1) d (omega arith)))

drop-all : {A : Type 0} (xs : List A) (n : ℕ) → n ≡ length xs → drop n xs ≡ []
drop-all [] zero e = refl
drop-all [] (suc n) e = absurd (omega (arith, e))
drop-all (x ∷ xs) zero e = absurd (omega (arith, e))
drop-all (x ∷ xs) (suc n) e = drop-all xs n (omega (arith, e))

pub none-put : (count : ℕ) (fs : List (ℕ × ℤ)) (n : ℕ) (line : List ℤ) → n ≡ length fs → line ≡ nulls count → line ≡
    factors_from 0 count (drop n fs)
none-put count fs n line h e = e ∙ sym (ap (factors_from 0 count) (drop-all fs n h) ∙ nulls-factors 0 count)

pub ruleset factor_laws = (factor-put, none-put)

-- Division by 1 changes nothing.
by-one : (z : ℤ) → int_div_euclid z (pos 1) ≡ z
by-one (pos n) = ap pos (once n)
  where
    once : (n : ℕ) → n / 1 ≡ n
    once n = omega arith
by-one (negsuc n) = ap negsuc (once n)
  where
    once : (n : ℕ) → n / 1 ≡ n
    once n = omega arith

map-same : (zs : List ℤ) → map (λ z. int_div_euclid z (pos 1)) zs ≡ zs
map-same [] = refl
map-same (z ∷ zs) = ap (λ x. x ∷ map (λ z. int_div_euclid z (pos 1)) zs) (by-one z) ∙ ap (λ x. z ∷ x) (map-same zs)

pub divided-once : (l : Line) → divided (pos 1) l ≡ l
divided-once l =
    ap (λ zs. record { factors = zs; constant = int_div_euclid l.constant (pos 1) }) (map-same l.factors)
    ∙ ap (λ c. record { factors = l.factors; constant = c }) (by-one l.constant)

length-factors : (n k : ℕ) (fs : List (ℕ × ℤ)) → length (factors_from n k fs) ≡ k
length-factors n zero fs = refl
length-factors n (suc k) fs = ap suc (length-factors (suc n) k fs)

pub ordered-is : (count : ℕ) (f g : Fact) (l : Line) → l ≡ record
    { factors = factors_from 0 count f.factors; constant = f.constant } →
    g ≡ fact_of (divided (pos 1) l) → g ≡ in_order count f
ordered-is count f g l p r = r ∙ ap fact_of (divided-once l ∙ p)

pub short-line : (count : ℕ) (f : Fact) (l : Line) → l ≡ record
    { factors = factors_from 0 count f.factors; constant = f.constant } →
    length l.factors ≡ count
short-line count f l e = ap (λ (x : Line). length x.factors) e ∙ length-factors 0 count f.factors

pub ruleset one_laws = (ordered-is, short-line)

fact-at : (count : ℕ) (facts : List Fact) (i : ℕ) (d : Fact) → list_all (is_fact count) facts ≡ true → i < length
    facts → is_fact count (get_or facts i d) ≡ true
fact-at count [] i d a h = absurd (omega arith)
fact-at count (f ∷ facts) zero d a h = (and_parts (is_fact count f) (list_all (is_fact count) facts) a).0
fact-at count (f ∷ facts) (suc i) d a h = fact-at count facts i d
    (and_parts (is_fact count f) (list_all (is_fact count) facts) a).1 (omega arith)

pub within-fact : (count : ℕ) (facts : List Fact) (i : ℕ) (d : Fact) → list_all (is_fact count) facts ≡ true → i <
    length facts →
    is_within count (get_or facts i d).factors ≡ true
within-fact count facts i d a h =
    (and_parts (is_within count (get_or facts i d).factors) (is_once (get_or facts i d).factors)
    (fact-at count facts i d a h)).0

pub ruleset fact_laws = within-fact

-- The numbers of a running sum are small.
record Good (count : ℕ) (sum : List ℤ) : Type 0 where
  long : length sum ≡ count
  small : (p : ℕ) → in_limit (number_at sum p) ≡ true

abbrev Apart : ℕ → ℕ → Type 0
Apart a b = (a ≡ b) ⊎ (a ≡ b → ⊥)

apart-or-same : (a b : ℕ) → Apart a b
apart-or-same a b = by_test (nat_eq a b) refl
  where
    same : (a b : ℕ) → nat_eq a b ≡ true → a ≡ b
    same a b h = grind arith

    other : (a b : ℕ) → nat_eq a b ≡ false → a ≡ b → ⊥
    other a b h = grind arith

    by_test : (t : Bool) → nat_eq a b ≡ t → Apart a b
    by_test true e = inl (same a b e)
    by_test false e = inr (other a b e)

-- a factor that was added
record Step (m : ℤ) (f : ℕ × ℤ) (fs : List (ℕ × ℤ)) (sum out : List ℤ) : Type 0 where
  product : in_limit (m *ℤ f.1) ≡ true
  total : in_limit (number_at sum f.0 +ℤ m *ℤ f.1) ≡ true
  rest : add_factors m fs (add_at sum f.0 (m *ℤ f.1)) ≡ Some out

step-of : (m : ℤ) (f : ℕ × ℤ) (fs : List (ℕ × ℤ)) (sum out : List ℤ) → add_factors m (f ∷ fs) sum ≡ Some out → Step m
    f fs sum out
step-of m f fs sum out e = by_test (in_limit (m *ℤ f.1)) refl (in_limit (number_at sum f.0 +ℤ m *ℤ f.1)) refl e
  where
    by_test : (t : Bool) → in_limit (m *ℤ f.1) ≡ t → (u : Bool) → in_limit (number_at sum f.0 +ℤ m *ℤ f.1) ≡ u →
        cond (t && u) (add_factors m fs (add_at sum f.0 (m *ℤ f.1))) None ≡ Some out → Step m f fs sum out
    by_test true p true q h = record { product = p; total = q; rest = h }
    by_test true p false q h = cc
    by_test false p u q h = cc

good-step : (count : ℕ) (sum : List ℤ) (p : ℕ) (z : ℤ) → Good count sum → in_limit (number_at sum p +ℤ z) ≡ true →
    Good count (add_at sum p z)
good-step count sum p z g h = record {
  long = length-add_at sum p z ∙ g.long;
  small = λ q. elim (apart-or-same p q) [
    | inl k ↦ subst (λ r. in_limit (number_at (add_at sum p z) r) ≡ true) k (here (nat_lt p (length sum)) refl)
    | inr k ↦ ap in_limit (add-else sum p q z k) ∙ g.small q
  ];
}
  where
    here : (t : Bool) → nat_lt p (length sum) ≡ t → in_limit (number_at (add_at sum p z) p) ≡ true
    here true e = ap in_limit (add-there sum p z (lt-is p (length sum) e)) ∙ h
    here false e =
        let l = length-add_at sum p z in let k = not-lt p (length sum) e in
        ap in_limit (number-past (add_at sum p z) p (omega (arith, l, k)))

-- what is added with success is small
taken-small : (count : ℕ) (m : ℤ) (n : ℕ) (fs : List (ℕ × ℤ)) (sum out : List ℤ) → is_once fs ≡ true → Good count sum
    →
    add_factors m fs sum ≡ Some out → Small m fs sum
taken-small count m n [] sum out x g e = record {
  product = λ p. ap in_limit (*ℤ-zero m);
  total = λ p. ap (λ z. in_limit (number_at sum p +ℤ z)) (*ℤ-zero m) ∙ ap in_limit (plus-zero (number_at sum p)) ∙
      g.small p;
}
  where
    plus-zero : (z : ℤ) → z +ℤ pos 0 ≡ z
    plus-zero z = omega (arith, ints)
taken-small count m n (f ∷ fs) sum out x g e =
    let s = step-of m f fs sum out e in
    let a = and_parts (not (list_any (λ (g : ℕ × ℤ). nat_eq g.0 f.0) fs)) (is_once fs) x in
    let r = taken-small count m n fs (add_at sum f.0 (m *ℤ f.1)) out a.1
    (good-step count sum f.0 (m *ℤ f.1) g s.total) s.rest in
    record {
      product = λ p. elim (apart-or-same f.0 p) [
        | inl k ↦ subst (λ q. in_limit (m *ℤ factor_in (f ∷ fs) q) ≡ true) k
            (ap (λ z. in_limit (m *ℤ z)) (factor-here f fs) ∙ s.product)
        | inr k ↦ ap (λ z. in_limit (m *ℤ z)) (factor-else f fs p k) ∙ r.product p
      ];
      total = λ p. elim (apart-or-same f.0 p) [
        | inl k ↦ subst (λ q. in_limit (number_at sum q +ℤ m *ℤ factor_in (f ∷ fs) q) ≡ true) k
            (ap (λ z. in_limit (number_at sum f.0 +ℤ m *ℤ z)) (factor-here f fs) ∙ s.total)
        | inr k ↦ ap (λ z. in_limit (number_at sum p +ℤ m *ℤ z)) (factor-else f fs p k)
            ∙ ap (λ z. in_limit (z +ℤ m *ℤ factor_in fs p)) (sym (add-else sum f.0 p (m *ℤ f.1) k)) ∙ r.total p
      ];
    }

-- and leaves small numbers
taken-good : (count : ℕ) (m : ℤ) (fs : List (ℕ × ℤ)) (sum out : List ℤ) → Good count sum → add_factors m fs sum ≡ Some
    out → Good count out
taken-good count m [] sum out g e = let s : sum ≡ out = cc in subst (Good count) s g
taken-good count m (f ∷ fs) sum out g e =
    let s = step-of m f fs sum out e in
    taken-good count m fs (add_at sum f.0 (m *ℤ f.1)) out (good-step count sum f.0 (m *ℤ f.1) g s.total) s.rest

-- Lists with the same numbers.
same-list : (xs ys : List ℤ) → length xs ≡ length ys → ((p : ℕ) → p < length xs → number_at xs p ≡ number_at ys p) →
    xs ≡ ys
same-list [] [] e h = refl
same-list [] (y ∷ ys) e h = absurd (omega (arith, e))
same-list (x ∷ xs) [] e h = absurd (omega (arith, e))
same-list (x ∷ xs) (y ∷ ys) e h =
    ap (λ z. z ∷ xs) (h 0 (omega arith)) ∙ ap (λ z. y ∷ z) (same-list xs ys (omega (arith, e))
    (λ p k. h (suc p) (omega (arith, k))))

-- The factors of a fact in order.
factor-of : (n k p : ℕ) (fs : List (ℕ × ℤ)) → p < k → number_at (factors_from n k fs) p ≡ factor_in fs (n + p)
factor-of n zero p fs h = absurd (omega arith)
factor-of n (suc k) zero fs h = let e : n + 0 ≡ n = omega arith in ap (factor_in fs) (sym e)
factor-of n (suc k) (suc p) fs h =
    let e : suc n + p ≡ n + suc p = omega arith in factor-of (suc n) k p fs (omega arith) ∙ ap (factor_in fs) e

past-within : (count : ℕ) (fs : List (ℕ × ℤ)) (p : ℕ) → is_within count fs ≡ true → count ≤ p → factor_in fs p ≡ pos 0
past-within count [] p w h = refl
past-within count (f ∷ fs) p w h =
    let a = and_parts (nat_le (suc f.0) count) (is_within count fs) w in
    let k = le-is (suc f.0) count a.0 in
    ap (λ t. cond t f.1 (factor_in fs p)) (apart f.0 p (omega (arith, k, h))) ∙ past-within count fs p a.1 h

same-factor : (count : ℕ) (fs : List (ℕ × ℤ)) (p : ℕ) → is_within count fs ≡ true → factor_in
    (sparse 0 (factors_from 0 count fs)) p ≡ factor_in fs p
same-factor count fs p w = ap (factor_in (sparse 0 (factors_from 0 count fs))) (zero-plus p) ∙ sparse-factor 0 p
    (factors_from 0 count fs) ∙ by_place (nat_lt p count) refl
  where
    zero-plus : (p : ℕ) → p ≡ 0 + p
    zero-plus p = omega arith

    by_place : (t : Bool) → nat_lt p count ≡ t → number_at (factors_from 0 count fs) p ≡ factor_in fs p
    by_place true e = factor-of 0 count p fs (lt-is p count e) ∙ ap (factor_in fs) (sym (zero-plus p))
    by_place false e =
        let l = length-factors 0 count fs in let k = not-lt p count e in
        number-past (factors_from 0 count fs) p (omega (arith, l, k)) ∙ sym (past-within count fs p w k)

factors-same : (count : ℕ) (m : ℤ) (fs : List (ℕ × ℤ)) (sum out : List ℤ) → is_within count fs ≡ true → is_once fs ≡
    true → Good count sum →
    add_factors m (sparse 0 (factors_from 0 count fs)) sum ≡ Some out → add_factors m fs sum ≡ Some out
factors-same count m fs sum out w x g e =
    let es : List (ℕ × ℤ) = sparse 0 (factors_from 0 count fs) in
    let exact = sparse-exact 0 (factors_from 0 count fs) in
    let s = taken-small count m 0 es sum out (exact-once 0 es exact) g e in
    let one = adds m 0 es sum exact s in
    let other = adds-once m fs sum x (record {
      product = λ p. ap (λ z. in_limit (m *ℤ z)) (sym (same-factor count fs p w)) ∙ s.product p;
      total = λ p. ap (λ z. in_limit (number_at sum p +ℤ m *ℤ z)) (sym (same-factor count fs p w)) ∙ s.total p;
    }) in
    let first : one.out ≡ out = some-same one.out out (sym one.is ∙ e) in
    let long1 = one.long in let long2 = other.long in
    other.is ∙ ap Some (same-list other.out one.out (omega (arith, long1, long2)) (λ p k.
    other.at p (omega (arith, long2, k)) ∙ ap (λ z. number_at sum p +ℤ m *ℤ z) (sym (same-factor count fs p w)) ∙ sym
    (one.at p (omega (arith, long2, k))))
    ∙ first)
  where
    some-same : (a b : List ℤ) → Some a ≡ Some b → a ≡ b
    some-same a b e = cc

-- Sums of facts.
pair-parts : (m : ℤ) (f : Fact) (sum out : Line) → add_pair m (Some f) sum ≡ Ok out →
    (int_le (pos 0) m ≡ true) × (in_limit (m *ℤ f.constant) ≡ true) ×
    (in_limit (sum.constant +ℤ m *ℤ f.constant) ≡ true)
    × (add_factors m f.factors sum.factors ≡ Some out.factors) × (out.constant ≡ sum.constant +ℤ m *ℤ f.constant)
pair-parts m f sum out e =
    by_test (int_le (pos 0) m) refl (in_limit (m *ℤ f.constant)) refl (in_limit (sum.constant +ℤ m *ℤ f.constant))
    refl (add_factors m f.factors sum.factors) refl e
  where
    by_test : (a : Bool) → int_le (pos 0) m ≡ a → (b : Bool) → in_limit (m *ℤ f.constant) ≡ b → (c : Bool) → in_limit
        (sum.constant +ℤ m *ℤ f.constant) ≡ c →
        (o : Option (List ℤ)) → add_factors m f.factors sum.factors ≡ o →
        cond a (or_too_big (cond (b && c) (with_constant (sum.constant +ℤ m *ℤ f.constant) o) None)) (Err Code.BadSum)
        ≡ Ok out →
        (int_le (pos 0) m ≡ true) × (in_limit (m *ℤ f.constant) ≡ true) ×
        (in_limit (sum.constant +ℤ m *ℤ f.constant) ≡ true)
        × (add_factors m f.factors sum.factors ≡ Some out.factors) × (out.constant ≡ sum.constant +ℤ m *ℤ f.constant)
    by_test false p b q c r o s h = cc
    by_test true p false q c r o s h = cc
    by_test true p true q false r o s h = cc
    by_test true p true q true r None s h = cc
    by_test true p true q true r (Some fs) s h =
        let same : record { factors = fs; constant = sum.constant +ℤ m *ℤ f.constant } ≡ out = cc in
        (p, q, r, s ∙ ap (λ (l : Line). Some l.factors) same, sym (ap (λ (l : Line). l.constant) same))

pair-of : (m : ℤ) (f : Fact) (sum out : Line) → int_le (pos 0) m ≡ true → in_limit (m *ℤ f.constant) ≡ true → in_limit
    (sum.constant +ℤ m *ℤ f.constant) ≡ true →
    add_factors m f.factors sum.factors ≡ Some out.factors → out.constant ≡ sum.constant +ℤ m *ℤ f.constant → add_pair
    m (Some f) sum ≡ Ok out
pair-of m f sum out p q r s c =
    ap (λ t. cond t (or_too_big (add_times m f sum)) (Err Code.BadSum)) p
    ∙ ap (λ t. or_too_big (cond (t && in_limit (sum.constant +ℤ m *ℤ f.constant))
    (with_constant (sum.constant +ℤ m *ℤ f.constant) (add_factors m f.factors sum.factors)) None)) q
    ∙ ap (λ t. or_too_big (cond t (with_constant (sum.constant +ℤ m *ℤ f.constant)
    (add_factors m f.factors sum.factors)) None)) r
    ∙ ap (λ o. or_too_big (with_constant (sum.constant +ℤ m *ℤ f.constant) o)) s
    ∙ ap (λ z. Ok (record { factors = out.factors; constant = z })) (sym c)

abbrev more : ℕ → List Fact → List Fact → List Fact
more count facts extra = map (in_order count) facts ++ extra

-- a numbered fact, in order and as it stands
pair-same : (count : ℕ) (facts extra : List Fact) (i : ℕ) (m : ℤ) (sum out : Line) → list_all (is_fact count) facts ≡
    true → Good count sum.factors →
    add_pair m (slice_get (more count facts extra) i) sum ≡ Ok out →
    (add_pair m (slice_get (facts ++ extra) i) sum ≡ Ok out) × Good count out.factors
pair-same count [] extra i m sum out a g e = (e, taken-pair (slice_get extra i) e)
  where
    taken-pair : (o : Option Fact) → add_pair m o sum ≡ Ok out → Good count out.factors
    taken-pair None h = cc
    taken-pair (Some f) h = taken-good count m f.factors sum.factors out.factors g (pair-parts m f sum out h).3
pair-same count (f ∷ facts) extra zero m sum out a g e =
    let w = and_parts (is_fact count f) (list_all (is_fact count) facts) a in
    let x = and_parts (is_within count f.factors) (is_once f.factors) w.0 in
    let p = pair-parts m (in_order count f) sum out e in
    let s = factors-same count m f.factors sum.factors out.factors x.0 x.1 g p.3 in
    (pair-of m f sum out p.0 p.1 p.2 s p.4, taken-good count m f.factors sum.factors out.factors g s)
pair-same count (f ∷ facts) extra (suc i) m sum out a g e =
    pair-same count facts extra i m sum out (and_parts (is_fact count f) (list_all (is_fact count) facts) a).1 g e

numbered-same : (count : ℕ) (facts extra : List Fact) (n : ℕ) (m : ℤ) (sum out : Line) → list_all (is_fact count)
    facts ≡ true → Good count sum.factors →
    add_pair m (numbered (more count facts extra) n) sum ≡ Ok out →
    (add_pair m (numbered (facts ++ extra) n) sum ≡ Ok out) × Good count out.factors
numbered-same count facts extra zero m sum out a g e = cc
numbered-same count facts extra (suc n) m sum out a g e = pair-same count facts extra n m sum out a g e

stopped : (facts : List Fact) (code : Code) (ps : List (ℤ × ℕ)) → sum_pairs facts (Err code) ps ≡ Err code
stopped facts code [] = refl
stopped facts code (p ∷ ps) = stopped facts code ps

sum-same : (count : ℕ) (facts extra : List Fact) (ps : List (ℤ × ℕ)) (sum out : Line) → list_all (is_fact count) facts
    ≡ true → Good count sum.factors →
    sum_pairs (more count facts extra) (Ok sum) ps ≡ Ok out → sum_pairs (facts ++ extra) (Ok sum) ps ≡ Ok out
sum-same count facts extra [] sum out a g e = e
sum-same count facts extra (p ∷ ps) sum out a g e =
    by_pair (add_pair p.0 (numbered (more count facts extra) p.1) sum) refl e
    (λ s h. sum-same count facts extra ps s out a h)
  where
    by_pair : (r : Result Line Code) → add_pair p.0 (numbered (more count facts extra) p.1) sum ≡ r → sum_pairs
        (more count facts extra) r ps ≡ Ok out →
        ((s : Line) → Good count s.factors → sum_pairs (more count facts extra) (Ok s) ps ≡ Ok out → sum_pairs
        (facts ++ extra) (Ok s) ps ≡ Ok out) →
        sum_pairs (facts ++ extra) (add_pair p.0 (numbered (facts ++ extra) p.1) sum) ps ≡ Ok out
    by_pair (Err c) q h ih = let k = stopped (more count facts extra) c ps in cc
    by_pair (Ok s) q h ih =
        let t = numbered-same count facts extra p.1 p.0 sum s a g q in
        ap (λ r. sum_pairs (facts ++ extra) r ps) t.0 ∙ ih s t.1 h

good-nulls : (count : ℕ) → Good count (nulls count)
good-nulls count = record { long = length-nulls count; small = λ p. ap in_limit (nulls-at count p) }

total-same : (count : ℕ) (facts extra : List Fact) (ps : List (ℤ × ℕ)) (out : Line) → list_all (is_fact count) facts ≡
    true →
    total_pairs count (more count facts extra) ps ≡ Ok out → total_pairs count (facts ++ extra) ps ≡ Ok out
total-same count facts extra ps out a e = sum-same count facts extra ps (null_line count) out a (good-nulls count) e

append-again : {A : Type 0} (xs ys : List A) (x : A) → (xs ++ ys) ++ x ∷ [] ≡ xs ++ (ys ++ x ∷ [])
append-again [] ys x = refl
append-again (z ∷ xs) ys x = ap (λ w. z ∷ w) (append-again xs ys x)

closes-same : (count : ℕ) (facts : List Fact) (ns : List Node) (extra : List Fact) → list_all (is_fact count) facts ≡
    true →
    Closes count (more count facts extra) ns → Closes count (facts ++ extra) ns
closes-same count facts [] extra a c = absurd c
closes-same count facts (Node.Case k ∷ ns) extra a c = absurd c
closes-same count facts (Node.Split v k ∷ ns) extra a c = absurd c
closes-same count facts (Node.Quot k ∷ ns) extra a c = absurd c
closes-same count facts (Node.Share z ps ∷ ns) extra a c = absurd c
closes-same count facts (Node.Sum ps ∷ n ∷ ns) extra a c = absurd c
closes-same count facts (Node.Sum ps ∷ []) extra a c = by_total (total_pairs count (more count facts extra) ps) refl c
  where
    by_total : (r : Result Line Code) → total_pairs count (more count facts extra) ps ≡ r → made_sum r ≡ opens [] →
        made_sum (total_pairs count (facts ++ extra) ps) ≡ opens []
    by_total (Err code) e h = cc
    by_total (Ok l) e h = ap made_sum (total-same count facts extra ps l a e) ∙ h
closes-same count facts (Node.Round d ps ∷ ns) extra a c =
    let fact : Fact = fact_of (divided d c.0) in (
      c.0,
      total-same count facts extra ps c.0 a c.1,
      c.2,
      subst (λ fs. Closes count fs ns) (sym (append-again facts extra fact))
          (closes-same count facts ns (extra ++ fact ∷ []) a
          (subst (λ fs. Closes count fs ns) (append-again (map (in_order count) facts) extra fact) c.3)),
    )

append-nothing : {A : Type 0} (xs : List A) → xs ++ [] ≡ xs
append-nothing [] = refl
append-nothing (x ∷ xs) = ap (λ z. x ∷ z) (append-nothing xs)

-- a chain that closes facts in order closes the facts
pub ordered-closes : (count : ℕ) (facts ordered : List Fact) (ns : List Node) → list_all (is_fact count) facts ≡ true
    → ordered ≡ map (in_order count) facts →
    Closes count ordered ns → Closes count facts ns
ordered-closes count facts ordered ns a e c =
    subst (λ fs. Closes count fs ns) (append-nothing facts)
    (closes-same count facts ns [] a (subst (λ fs. Closes count fs ns)
    (sym (append-nothing (map (in_order count) facts))) (subst (λ fs. Closes count fs ns) e c)))

sparse-inside : (n count : ℕ) (zs : List ℤ) → n + length zs ≤ count → is_within count (sparse n zs) ≡ true
sparse-inside n count [] h = refl
sparse-inside n count (z ∷ zs) h = by_test (int_eq z (pos 0)) (sparse-inside (suc n) count zs (omega (arith, h)))
  where
    le-true : (a b : ℕ) → a ≤ b → nat_le a b ≡ true
    le-true a b h = grind arith

    by_test : (t : Bool) → is_within count (sparse (suc n) zs) ≡ true → is_within count
        (cond t (sparse (suc n) zs) ((n, z) ∷ sparse (suc n) zs)) ≡ true
    by_test true ih = ih
    by_test false ih = ap (λ t. t && is_within count (sparse (suc n) zs)) (le-true (suc n) count (omega (arith, h))) ∙
        ih

pub ordered-exact : (count : ℕ) (facts : List Fact) → are_exact count (map (in_order count) facts) ≡ true
ordered-exact count [] = refl
ordered-exact count (f ∷ facts) =
    let l = length-factors 0 count f.factors in
    ap (λ t. (t && is_within count (in_order count f).factors) && are_exact count (map (in_order count) facts))
    (sparse-exact 0 (factors_from 0 count f.factors))
    ∙ ap (λ t. t && are_exact count (map (in_order count) facts))
    (sparse-inside 0 count (factors_from 0 count f.factors) (omega (arith, l)))
    ∙ ordered-exact count facts

pub ruleset close_laws = (ordered-closes, ordered-exact)
