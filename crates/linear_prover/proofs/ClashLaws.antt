-- Two facts that clash are refuted by a round of each and the sum of the two new facts.
use Rattle.std.proofs.Common.{◌≡◌, ℕ, zero, suc, ◌+◌, ◌*◌, ◌≤◌, ◌<◌, ◌^◌, nat_eq, nat_le, ℤ, pos, negsuc, ◌+ℤ◌, ◌*ℤ◌}
use Rattle.std.proofs.Common.{Bool, true, false, cond, not, ◌&&◌, Option, Some, None, Ok, Err, List, [], ◌∷◌, ◌++◌}
use Rattle.std.proofs.Common.{length, map, slice_get, arith, refl, sym, ap, subst, ◌∙◌}
use Prim.Native.Nat.{◌∣◌}
use Rattle.std.specs.List.{list_all}
use Rattle.std.specs.Int.{int_div_euclid, int_rem_euclid}
use Rattle.std.specs.Int.RustNames.{int_le, unsigned_abs}
use Rattle.std.proofs.lemmas.Int.{ints}
use Rattle.std.proofs.lemmas.Bool.{and_parts}
use Rattle.obligations.specs.declared.branches.Fact.{Fact}
use Rattle.obligations.specs.declared.branches.Line.{Line}
use Rattle.obligations.specs.declared.certificates.Node.{Node}
use Rattle.case_tables.specs.declared.code_table.Code.{Code}
use Rattle.obligations.specs.from_core_terms.Values.{number_at}
use Rattle.meaning_states.specs.State.{int_eq}
use Rattle.obligations.specs.LinearForms.{sparse, fact_of}
use Rattle.obligations.specs.Load.{in_limit}
use Rattle.certificate_rules.specs.Sums.{then_by, fact_step, add_pair, is_divisible, divided}
use Rattle.certificate_rules.specs.Refutation.{opens, fails, made_sum}
use Rattle.obligations.specs.Reach.{is_exact, are_opposite, divisor_of, is_moderate, is_moderate_fact, is_some_factor}
use Rattle.obligations.specs.Reach.{clash}
use Rattle.linear_prover.specs.Exact.{factor_in}
use Rattle.linear_prover.specs.Clashes.{IsClash, clash_chain}
use Rattle.linear_prover.specs.Chains.{nulls, null_line, total_pairs, Closes}
use Rattle.linear_prover.proofs.SumLaws.{nulls-at, length-nulls, abs-plus, small-is, all-zero, Next, next-pair}
use Rattle.linear_prover.proofs.OppositeLaws.{exact-divisor}
use Rattle.linear_prover.proofs.DivisionLaws.{exact-parts, no-rest, part-size, part-none, divides, opposite-sum}
use Rattle.linear_prover.proofs.DivisionLaws.{moderate-factor, sparse-exact, sparse-factor, number-map}

le-is : (a b : ℕ) → nat_le a b ≡ true → a ≤ b
le-is a b h = grind arith

-- One fact alone as a sum.
record Alone (count : ℕ) (facts : List Fact) (n : ℕ) (f : Fact) : Type 0 where
  line : Line
  is : total_pairs count facts ((pos 1, suc n) ∷ []) ≡ Ok line
  long : length line.factors ≡ count
  at : (p : ℕ) → p < count → number_at line.factors p ≡ factor_in f.factors p
  constant : line.constant ≡ f.constant

once : (z : ℤ) → pos 0 +ℤ pos 1 *ℤ z ≡ z
once z = omega (arith, ints)

times-one : (z : ℤ) → pos 1 *ℤ z ≡ z
times-one z = omega (arith, ints)

alone : (count : ℕ) (facts : List Fact) (n : ℕ) (f : Fact) → slice_get facts n ≡ Some f → is_exact 0 f.factors ≡ true →
    ((p : ℕ) → unsigned_abs (factor_in f.factors p) ≤ 2 ^ 124) → unsigned_abs f.constant ≤ 2 ^ 124 → Alone count facts n
    f
alone count facts n f there exact size constant =
    let r = next-pair 1 f (null_line count) exact
    (record {
      product = λ p. ap in_limit (times-one (factor_in f.factors p)) ∙ small-is (factor_in f.factors p)
          (let s = size p in omega (arith, s));
      total = λ p. ap (λ z. in_limit (z +ℤ pos 1 *ℤ factor_in f.factors p)) (nulls-at count p) ∙ ap in_limit
          (once (factor_in f.factors p)) ∙ small-is (factor_in f.factors p) (let s = size p in omega (arith, s));
    })
    (ap in_limit (times-one f.constant) ∙ small-is f.constant (omega (arith, constant)))
    (ap in_limit (once f.constant) ∙ small-is f.constant (omega (arith, constant))) in
    let long = length-nulls count in
    record {
      line = r.out;
      is = ap (λ o. add_pair (pos 1) o (null_line count)) there ∙ r.is;
      long = r.long ∙ long;
      at = λ p h. r.at p (omega (arith, long, h)) ∙ ap (λ z. z +ℤ pos 1 *ℤ factor_in f.factors p) (nulls-at count p) ∙
          once (factor_in f.factors p);
      constant = r.constant ∙ once f.constant;
    }

-- A fact after a round by a divisor of its factors.
record Rounded (count d : ℕ) (f : Fact) (l : Line) : Type 0 where
  divisible : is_divisible (pos d) l ≡ true
  exact : is_exact 0 (fact_of (divided (pos d) l)).factors ≡ true
  at : (p : ℕ) → p < count → factor_in (fact_of (divided (pos d) l)).factors p ≡ int_div_euclid (factor_in f.factors p)
      (pos d)
  past : (p : ℕ) → count ≤ p → factor_in (fact_of (divided (pos d) l)).factors p ≡ pos 0

all-divided : (d : ℕ) (zs : List ℤ) → 0 < d → ((p : ℕ) → p < length zs → d ∣ unsigned_abs (number_at zs p)) → list_all
    (λ z. int_eq (int_rem_euclid z (pos d)) (pos 0)) zs ≡ true
all-divided d [] h v = refl
all-divided d (z ∷ zs) h v =
    ap (λ t. int_eq t (pos 0) && list_all (λ z. int_eq (int_rem_euclid z (pos d)) (pos 0)) zs)
    (no-rest z d h (v 0 (omega arith)))
    ∙ all-divided d zs h (λ p k. v (suc p) (omega arith))

past-end : (zs : List ℤ) (p : ℕ) → length zs ≤ p → number_at zs p ≡ pos 0
past-end [] p h = refl
past-end (z ∷ zs) zero h = absurd (omega arith)
past-end (z ∷ zs) (suc p) h = past-end zs p (omega arith)

rounded : (count d : ℕ) (facts : List Fact) (n : ℕ) (f : Fact) (a : Alone count facts n f) → 0 < d →
    ((p : ℕ) → d ∣ unsigned_abs (factor_in f.factors p)) → Rounded count d f a.line
rounded count d facts n f a h v = record {
  divisible = ap (λ t. t && list_all (λ z. int_eq (int_rem_euclid z (pos d)) (pos 0)) a.line.factors) (one-le d h)
      ∙ all-divided d a.line.factors h (λ p k. subst (λ z. d ∣ unsigned_abs z)
      (sym (a.at p (let l = a.long in omega (arith, l, k)))) (v p));
  exact = sparse-exact 0 (map (λ z. int_div_euclid z (pos d)) a.line.factors);
  at = λ p k. factor p ∙ ap (λ z. int_div_euclid z (pos d)) (a.at p k);
  past = λ p k. factor p ∙ ap (λ z. int_div_euclid z (pos d))
      (past-end a.line.factors p (let l = a.long in omega (arith, l, k))) ∙ part-none d;
}
  where
    one-le : (d : ℕ) → 0 < d → int_le (pos 1) (pos d) ≡ true
    one-le d h = grind (arith, ints)

    zero-plus : (p : ℕ) → 0 + p ≡ p
    zero-plus p = omega arith

    factor : (p : ℕ) → factor_in (sparse 0 (map (λ z. int_div_euclid z (pos d)) a.line.factors)) p ≡ int_div_euclid
        (number_at a.line.factors p) (pos d)
    factor p = ap (factor_in (sparse 0 (map (λ z. int_div_euclid z (pos d)) a.line.factors))) (sym (zero-plus p))
        ∙ sparse-factor 0 p (map (λ z. int_div_euclid z (pos d)) a.line.factors) ∙ number-map
        (λ z. int_div_euclid z (pos d)) a.line.factors p (part-none d)

get-first : {A : Type 0} (xs ys : List A) (n : ℕ) (x : A) → slice_get xs n ≡ Some x → slice_get (xs ++ ys) n ≡ Some x
get-first [] ys n x e = cc
get-first (y ∷ xs) ys zero x e = e
get-first (y ∷ xs) ys (suc n) x e = get-first xs ys n x e

get-last : {A : Type 0} (xs : List A) (x : A) → slice_get (xs ++ x ∷ []) (length xs) ≡ Some x
get-last [] x = refl
get-last (y ∷ xs) x = get-last xs x

module _ (count : ℕ) (facts : List Fact) (i j d : ℕ) (f g : Fact) (positive : 0 < d) (one : slice_get facts i ≡ Some f)
    (two : slice_get facts j ≡ Some g)
    (exact-f : is_exact 0 f.factors ≡ true) (exact-g : is_exact 0 g.factors ≡ true)
    (size-f : (p : ℕ) → unsigned_abs (factor_in f.factors p) ≤ 2 ^ 124)
    (size-g : (p : ℕ) → unsigned_abs (factor_in g.factors p) ≤ 2 ^ 124)
    (size-cf : unsigned_abs f.constant ≤ 2 ^ 124) (size-cg : unsigned_abs g.constant ≤ 2 ^ 124)
    (splits : (p : ℕ) → d ∣ unsigned_abs (factor_in f.factors p))
    (turned : (p : ℕ) → factor_in f.factors p +ℤ factor_in g.factors p ≡ pos 0)
    (low : not (int_le (pos 0) (int_div_euclid f.constant (pos d) +ℤ int_div_euclid g.constant (pos d))) ≡ true) where
  same-abs : (a b : ℤ) → a +ℤ b ≡ pos 0 → unsigned_abs a ≡ unsigned_abs b
  same-abs (pos a) (pos b) e = omega (arith, ints, e)
  same-abs (pos a) (negsuc b) e = omega (arith, ints, e)
  same-abs (negsuc a) (pos b) e = omega (arith, ints, e)
  same-abs (negsuc a) (negsuc b) e = omega (arith, ints, e)

  first : Alone count facts i f
  first = alone count facts i f one exact-f size-f size-cf

  first-round : Rounded count d f first.line
  first-round = rounded count d facts i f first positive splits

  abbrev new : Fact
  new = fact_of (divided (pos d) first.line)

  second : Alone count (facts ++ new ∷ []) j g
  second = alone count (facts ++ new ∷ []) j g (get-first facts (new ∷ []) j g two) exact-g size-g size-cg

  second-round : Rounded count d g second.line
  second-round = rounded count d (facts ++ new ∷ []) j g second positive
      (λ p. subst (λ n. d ∣ n) (same-abs (factor_in f.factors p) (factor_in g.factors p) (turned p)) (splits p))

  abbrev other : Fact
  other = fact_of (divided (pos d) second.line)

  abbrev all : List Fact
  all = (facts ++ new ∷ []) ++ other ∷ []

  part-small : (f : Fact) (l : Line) → Rounded count d f l → ((p : ℕ) → unsigned_abs (factor_in f.factors p) ≤ 2 ^ 124)
      → (p : ℕ) → unsigned_abs (factor_in (fact_of (divided (pos d) l)).factors p) ≤ 2 ^ 124
  part-small f l r size p = by_place (nat_le (suc p) count) refl
    where
      inside : (a b : ℕ) → nat_le (suc a) b ≡ true → a < b
      inside a b h = grind arith

      outside : (a b : ℕ) → nat_le (suc a) b ≡ false → b ≤ a
      outside a b h = grind arith

      by_place : (t : Bool) → nat_le (suc p) count ≡ t → unsigned_abs
          (factor_in (fact_of (divided (pos d) l)).factors p) ≤ 2 ^ 124
      by_place true e =
          let k = size p in let q = part-size (factor_in f.factors p) d in
          subst (λ z. unsigned_abs z ≤ 2 ^ 124) (sym (r.at p (inside p count e))) (omega (arith, k, q))
      by_place false e = subst (λ z. unsigned_abs z ≤ 2 ^ 124) (sym (r.past p (outside p count e))) (omega arith)

  new-size : (p : ℕ) → unsigned_abs (factor_in new.factors p) ≤ 2 ^ 124
  new-size = part-small f first.line first-round size-f

  other-size : (p : ℕ) → unsigned_abs (factor_in other.factors p) ≤ 2 ^ 124
  other-size = part-small g second.line second-round size-g

  new-constant : new.constant ≡ int_div_euclid f.constant (pos d)
  new-constant = ap (λ z. int_div_euclid z (pos d)) first.constant

  other-constant : other.constant ≡ int_div_euclid g.constant (pos d)
  other-constant = ap (λ z. int_div_euclid z (pos d)) second.constant

  sum : Alone count all (length facts) new
  sum = alone count all (length facts) new (get-first (facts ++ new ∷ []) (other ∷ []) (length facts) new
      (get-last facts new)) first-round.exact new-size
      (subst (λ z. unsigned_abs z ≤ 2 ^ 124) (sym new-constant)
      (let k = part-size f.constant d in omega (arith, k, size-cf)))

  there : slice_get all (suc (length facts)) ≡ Some other
  there = ap (slice_get all) (sym (more facts)) ∙ get-last (facts ++ new ∷ []) other
    where
      more : (xs : List Fact) → length (xs ++ new ∷ []) ≡ suc (length xs)
      more [] = refl
      more (x ∷ xs) = ap suc (more xs)

  small-other : (z : ℤ) → unsigned_abs z ≤ 2 ^ 124 → in_limit (pos 1 *ℤ z) ≡ true
  small-other z h = ap in_limit (times-one z) ∙ small-is z (omega (arith, h))

  small-both : (a b : ℤ) → unsigned_abs a ≤ 2 ^ 124 → unsigned_abs b ≤ 2 ^ 124 → in_limit (a +ℤ pos 1 *ℤ b) ≡ true
  small-both a b h k = small-is (a +ℤ pos 1 *ℤ b) (let s = abs-plus a b in let e = ap (λ z. unsigned_abs (a +ℤ z))
      (times-one b) in omega (arith, h, k, s, e))

  sum-size : (p : ℕ) → unsigned_abs (number_at sum.line.factors p) ≤ 2 ^ 124
  sum-size p = by_place (nat_le (suc p) count) refl
    where
      inside : (a b : ℕ) → nat_le (suc a) b ≡ true → a < b
      inside a b h = grind arith

      outside : (a b : ℕ) → nat_le (suc a) b ≡ false → b ≤ a
      outside a b h = grind arith

      by_place : (t : Bool) → nat_le (suc p) count ≡ t → unsigned_abs (number_at sum.line.factors p) ≤ 2 ^ 124
      by_place true e = subst (λ z. unsigned_abs z ≤ 2 ^ 124) (sym (sum.at p (inside p count e))) (new-size p)
      by_place false e =
          let k = outside p count e in let l = sum.long in
          subst (λ z. unsigned_abs z ≤ 2 ^ 124) (sym (past-end sum.line.factors p (omega (arith, k, l)))) (omega arith)

  sum-constant : sum.line.constant ≡ int_div_euclid f.constant (pos d)
  sum-constant = sum.constant ∙ new-constant

  both : Next (pos 1) other sum.line
  both =
      let a = subst (λ z. unsigned_abs z ≤ 2 ^ 124) (sym sum-constant)
      (let k = part-size f.constant d in omega (arith, k, size-cf)) in
      let b = subst (λ z. unsigned_abs z ≤ 2 ^ 124) (sym other-constant)
      (let k = part-size g.constant d in omega (arith, k, size-cg)) in
      next-pair 1 other sum.line second-round.exact
      (record {
        product = λ p. small-other (factor_in other.factors p) (other-size p);
        total = λ p. small-both (number_at sum.line.factors p) (factor_in other.factors p) (sum-size p) (other-size p);
      })
      (small-other other.constant b) (small-both sum.line.constant other.constant a b)

  both-long : length both.out.factors ≡ count
  both-long = both.long ∙ sum.long

  none : (p : ℕ) → p < length both.out.factors → number_at both.out.factors p ≡ pos 0
  none p h =
      let inside : p < count = omega (arith, both-long, h) in
      both.at p (let l = sum.long in omega (arith, l, inside))
      ∙ ap (λ z. z +ℤ pos 1 *ℤ factor_in other.factors p) (sum.at p inside ∙ first-round.at p inside)
      ∙ ap (λ z. int_div_euclid (factor_in f.factors p) (pos d) +ℤ z)
      (times-one (factor_in other.factors p) ∙ second-round.at p inside)
      ∙ exact-parts (factor_in f.factors p) (factor_in g.factors p) d positive (splits p) (turned p)

  total : both.out.constant ≡ int_div_euclid f.constant (pos d) +ℤ int_div_euclid g.constant (pos d)
  total = both.constant ∙ ap (λ z. z +ℤ pos 1 *ℤ other.constant) sum-constant
      ∙ ap (λ z. int_div_euclid f.constant (pos d) +ℤ z) (times-one other.constant ∙ other-constant)

  pub clash-chain-closes : Closes count facts (clash_chain (length facts) (pos d) i j)
  clash-chain-closes = (
    first.line,
    first.is,
    first-round.divisible,
    (
      second.line,
      second.is,
      second-round.divisible,
      ap (λ r. made_sum (then_by (fact_step all) r (pos 1, suc (suc (length facts))))) sum.is
          ∙ ap (λ o. made_sum (add_pair (pos 1) o sum.line)) there
          ∙ ap made_sum both.is
          ∙ ap (λ b. cond (b && not (int_le (pos 0) both.out.constant)) (opens []) (fails Code.BadSum))
          (all-zero both.out.factors none)
          ∙ ap (λ z. cond (not (int_le (pos 0) z)) (opens []) (fails Code.BadSum)) total
          ∙ ap (λ b. cond b (opens []) (fails Code.BadSum)) low,
    ),
  )
