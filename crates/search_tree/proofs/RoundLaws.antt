-- A round of a fact and the bounds of all its variables but one bounds that one.
use Rattle.std.proofs.Common.{◌≡◌, ℕ, zero, suc, ◌+◌, ◌*◌, ◌≤◌, ◌<◌, ◌^◌, nat_eq, nat_le, ℤ, pos, negsuc, neg_ℤ, ◌+ℤ◌}
use Rattle.std.proofs.Common.{◌*ℤ◌, Bool, true, false, cond, not, ◌&&◌, ◌⊎◌, inl, inr, Some, Ok, List, []}
use Rattle.std.proofs.Common.{◌∷◌, ◌++◌, map, length, slice_get, arith, refl, sym, ap, subst, ◌∙◌}
use Rattle.std.specs.List.{list_all}
use Rattle.std.specs.Int.{int_div_euclid, int_rem_euclid}
use Rattle.std.specs.Int.RustNames.{int_le, unsigned_abs}
use Rattle.std.proofs.Math.Nat.{div_self, div-eq_of_lt, mul-le-mul, le_refl}
use Rattle.std.proofs.lemmas.Int.{ints, unsigned_abs-mul}
use Rattle.std.proofs.lemmas.Bool.{and_parts}
use Rattle.std.proofs.lemmas.List.Folds.{list_all-append}
use Rattle.std.proofs.lemmas.Nat.Gcd.{dvd_refl, dvd-zero}
use lib.IntN.{*ℤ-zero}
use Rattle.core_terms.specs.Values.{number_at}
use Rattle.meaning_states.specs.State.{int_eq}
use Rattle.obligations.specs.declared.branches.Fact.{Fact}
use Rattle.obligations.specs.declared.branches.Line.{Line}
use Rattle.obligations.specs.declared.certificates.Node.{Node}
use Rattle.obligations.specs.LinearForms.{sparse, fact_of, sum_of}
use Rattle.obligations.specs.Opening.{at_least, at_most}
use Rattle.obligations.specs.Load.{in_limit}
use Rattle.obligations.specs.Reach.{is_exact, is_within, side_for}
use Rattle.certificate_rules.specs.Sums.{numbered, add_pair, sum_pairs, divided}
use Rattle.linear_prover.specs.Chains.{null_line, total_pairs, Closes, is_plain_factor}
use Rattle.linear_prover.specs.Exact.{factor_in}
use Rattle.linear_prover.proofs.DivisionLaws.{no-rest, part-none, number-map}
use Rattle.linear_prover.proofs.SumLaws.{abs-plus, small-is, number-past, nulls-at, length-nulls, factor-before}
use Rattle.linear_prover.proofs.SumLaws.{factor-here, factor-else, next-pair}
use Rattle.search_tree.specs.declared.points.Point.{Point}
use Rattle.search_tree.specs.Points.{values_in, bound_number, pair_at, IsPoint, ArePoints}
use Rattle.search_tree.specs.Searching.{widths}
use Rattle.linear_prover.proofs.SumLaws.{eq-is, not-eq, le-is, gt-is, int-eq-refl, abs-side}
use Rattle.linear_prover.proofs.SumLaws.{abs-times, side-exact}

small-zero : (z : ℤ) → z ≡ pos 0 → in_limit z ≡ true
small-zero z e = small-is z (let h : unsigned_abs z ≡ 0 = ap unsigned_abs e in omega (arith, h))

abbrev Split : ℕ → ℕ → Type 0
Split a b = (a ≡ b) ⊎ (a ≡ b → ⊥)

split : (a b : ℕ) → Split a b
split a b = split_by (nat_eq a b) refl
  where
    split_by : (t : Bool) → nat_eq a b ≡ t → Split a b
    split_by true e = inl (eq-is a b e)
    split_by false e = inr (not-eq a b e)

neg-times : (n : ℕ) (z : ℤ) → pos (suc n) *ℤ neg_ℤ z ≡ negsuc n *ℤ z
neg-times n (pos zero) = omega (arith, ints)
neg-times n (pos (suc m)) = omega (arith, ints)
neg-times n (negsuc m) = omega (arith, ints)

abs-neg : (z : ℤ) → unsigned_abs (neg_ℤ z) ≡ unsigned_abs z
abs-neg (pos zero) = refl
abs-neg (pos (suc n)) = refl
abs-neg (negsuc n) = refl

-- The fact that takes a factor away.
record Against (facts : List Fact) (points : List Point) (f : ℕ × ℤ) : Type 0 where
  fact : Fact
  there : numbered facts (pair_at points f).1 ≡ Some fact
  factors : fact.factors ≡ (f.0, side_for f.1) ∷ []
  worth : pos (unsigned_abs f.1) *ℤ fact.constant ≡ f.1 *ℤ number_at (values_in points) f.0
  size : unsigned_abs fact.constant ≡ unsigned_abs (number_at (values_in points) f.0)

-- a point of a list
record PointAt (facts : List Fact) (n : ℕ) (points : List Point) (v : ℕ) : Type 0 where
  point : Point
  there : slice_get points v ≡ Some point
  is : IsPoint facts (n + v) point
  value : number_at (values_in points) v ≡ point.value

point-at : (facts : List Fact) (n : ℕ) (points : List Point) (v : ℕ) → ArePoints facts n points → v < length points →
    PointAt facts n points v
point-at facts n [] v h i = absurd (omega arith)
point-at facts n (p ∷ points) zero h i =
    let z : n ≡ n + 0 = omega arith in
    record { point = p; there = refl; is = subst (λ k. IsPoint facts k p) z h.0; value = refl }
point-at facts n (p ∷ points) (suc v) h i =
    let r = point-at facts (suc n) points v h.1 (omega (arith, i)) in
    let z : suc n + v ≡ n + suc v = omega arith in
    record {
      point = r.point;
      there = r.there;
      is = subst (λ k. IsPoint facts k r.point) z r.is;
      value = r.value;
    }

against : (facts : List Fact) (points : List Point) (f : ℕ × ℤ) → ArePoints facts 0 points → f.0 < length points →
    Against facts points f
against facts points (v, pos a) h i =
    let r = point-at facts 0 points v h i in
    let z : 0 + v ≡ v = omega arith in
    record {
      fact = at_most v r.point.value;
      there = ap (λ o. numbered facts (bound_number (pos a) o)) r.there
          ∙ subst (λ k. numbered facts r.point.most ≡ Some (at_most k r.point.value)) z r.is.most;
      factors = refl;
      worth = ap (λ x. pos a *ℤ x) (sym r.value);
      size = ap unsigned_abs (sym r.value);
    }
against facts points (v, negsuc a) h i =
    let r = point-at facts 0 points v h i in
    let z : 0 + v ≡ v = omega arith in
    record {
      fact = at_least v r.point.value;
      there = ap (λ o. numbered facts (bound_number (negsuc a) o)) r.there
          ∙ subst (λ k. numbered facts r.point.least ≡ Some (at_least k r.point.value)) z r.is.least;
      factors = refl;
      worth = neg-times a r.point.value ∙ ap (λ x. negsuc a *ℤ x) (sym r.value);
      size = abs-neg r.point.value ∙ ap unsigned_abs (sym r.value);
    }

-- the sum after the bounds of some factors: the others are left
record Rested (facts : List Fact) (points : List Point) (fs more : List (ℕ × ℤ)) (l : Line) : Type 0 where
  out : Line
  is : sum_pairs facts (Ok l) (map (pair_at points) fs) ≡ Ok out
  long : length out.factors ≡ length l.factors
  left : (p : ℕ) → p < length l.factors → number_at out.factors p ≡ factor_in more p
  constant : out.constant ≡ l.constant +ℤ sum_of (values_in points) fs

-- what a running sum has to meet before the bounds of some of its factors are added
record Before (points : List Point) (n : ℕ) (fs more : List (ℕ × ℤ)) (l : Line) : Type 0 where
  exact : is_exact n (fs ++ more) ≡ true
  within : is_within (length l.factors) fs ≡ true
  known : is_within (length points) fs ≡ true
  plain : list_all is_plain_factor fs ≡ true
  carries : (p : ℕ) → p < length l.factors → number_at l.factors p ≡ factor_in (fs ++ more) p
  small : (p : ℕ) → in_limit (number_at l.factors p) ≡ true
  room : unsigned_abs l.constant + widths fs * 2 ^ 62 ≤ 2 ^ 126

module _ (facts : List Fact) (points : List Point) (are : ArePoints facts 0 points)
    (tame : (p : ℕ) → unsigned_abs (number_at (values_in points) p) ≤ 2 ^ 62) where
  rested : (n : ℕ) (fs more : List (ℕ × ℤ)) (l : Line) → Before points n fs more l → Rested facts points fs more l
  rested n [] more l b =
      record { out = l; is = refl; long = refl; left = b.carries; constant = omega (arith, ints) }
  rested n (f ∷ fs) more l b =
      let known = and_parts (nat_le (suc f.0) (length points)) (is_within (length points) fs) b.known in
      let near = le-is (suc f.0) (length points) known.0 in
      let g = against facts points f are (omega (arith, near)) in
      let m : ℕ = unsigned_abs f.1 in
      let plains = and_parts (is_plain_factor f) (list_all is_plain_factor fs) b.plain in
      let fits = le-is m (2 ^ 62) plains.0 in
      let places = and_parts (nat_le (suc f.0) (length l.factors)) (is_within (length l.factors) fs) b.within in
      let inside = le-is (suc f.0) (length l.factors) places.0 in
      let exacts = and_parts (nat_le n f.0 && not (int_eq f.1 (pos 0))) (is_exact (suc f.0) (fs ++ more)) b.exact in
      let own : number_at l.factors f.0 ≡ f.1 = b.carries f.0 (omega (arith, inside)) ∙ factor-here f (fs ++ more) in
      let one : factor_in g.fact.factors f.0 ≡ side_for f.1 = ap (λ z. factor_in z f.0) g.factors ∙ factor-here
      (f.0, side_for f.1) [] in
      let other : (p : ℕ) → (f.0 ≡ p → ⊥) → factor_in g.fact.factors p ≡ pos 0 = λ p k. ap (λ z. factor_in z p)
      g.factors ∙ factor-else (f.0, side_for f.1) [] p k in
      let nothing : pos m *ℤ pos 0 ≡ pos 0 = *ℤ-zero (pos m) in
      let c = unsigned_abs-mul (pos m) g.fact.constant in
      let size = g.size in let bounded = tame f.0 in
      let most : m * unsigned_abs g.fact.constant ≤ m * 2 ^ 62 =
      mul-le-mul (le_refl m) (omega (arith, size, bounded)) in
      let room = b.room in
      let spread : widths (f ∷ fs) * 2 ^ 62 ≡ m * 2 ^ 62 + widths fs * 2 ^ 62 = omega arith in
      let sum = abs-plus l.constant (pos m *ℤ g.fact.constant) in
      let gone : number_at l.factors f.0 +ℤ pos m *ℤ factor_in g.fact.factors f.0 ≡ pos 0 = ap
      (λ z. z +ℤ pos m *ℤ factor_in g.fact.factors f.0) own ∙ ap (λ z. f.1 +ℤ pos m *ℤ z) one ∙ turn
      (pos m *ℤ side_for f.1) f.1 (abs-side f.1) in
      let stays : (p : ℕ) → (f.0 ≡ p → ⊥) → number_at l.factors p +ℤ pos m *ℤ factor_in g.fact.factors p ≡ number_at
      l.factors p = λ p k. ap (λ z. number_at l.factors p +ℤ pos m *ℤ z) (other p k) ∙ ap
      (λ z. number_at l.factors p +ℤ z) nothing ∙ plus-zero (number_at l.factors p) in
      let totals-small : (p : ℕ) → in_limit (number_at l.factors p +ℤ pos m *ℤ factor_in g.fact.factors p) ≡ true = λ
      p. elim (split f.0 p) [
        | inl k ↦ subst (λ z. in_limit (number_at l.factors z +ℤ pos m *ℤ factor_in g.fact.factors z) ≡ true) k
            (small-zero _ gone)
        | inr k ↦ ap in_limit (stays p k) ∙ b.small p
      ] in
      let products-small : (p : ℕ) → in_limit (pos m *ℤ factor_in g.fact.factors p) ≡ true = λ p. elim (split f.0 p) [
        | inl k ↦ subst (λ z. in_limit (pos m *ℤ factor_in g.fact.factors z) ≡ true) k
            (ap (λ z. in_limit (pos m *ℤ z)) one ∙ small-is (pos m *ℤ side_for f.1)
            (let w = abs-times f.1 in omega (arith, w, fits)))
        | inr k ↦ small-zero _ (ap (λ z. pos m *ℤ z) (other p k) ∙ nothing)
      ] in
      let r = next-pair m g.fact l (ap (is_exact 0) g.factors ∙ side-exact f.0 f.1)
      (record { product = products-small; total = totals-small })
      (small-is (pos m *ℤ g.fact.constant) (omega (arith, c, room, spread, most)))
      (small-is (l.constant +ℤ pos m *ℤ g.fact.constant) (omega (arith, c, room, spread, most, sum))) in
      let rc = r.constant in
      let rest = rested (suc f.0) fs more r.out (record {
        exact = exacts.1;
        within = ap (λ z. is_within z fs) r.long ∙ places.1;
        known = known.1;
        plain = plains.1;
        carries = λ p h. let h' : p < length l.factors = (let w = r.long in omega (arith, w, h))
            in elim (split f.0 p) [
              | inl k ↦ r.at p h' ∙ subst (λ z. number_at l.factors z +ℤ pos m *ℤ factor_in g.fact.factors z ≡
                  factor_in
                  (fs ++ more) z) k (gone ∙ sym (factor-before (suc f.0) f.0 (fs ++ more) exacts.1 (omega arith)))
              | inr k ↦ r.at p h' ∙ stays p k ∙ b.carries p h' ∙ factor-else f (fs ++ more) p k
            ];
        small = λ p. lies p (nat_le (suc p) (length l.factors)) refl r.out r.long
            (λ h. ap in_limit (r.at p h) ∙ totals-small p);
        room = (let w = ap unsigned_abs rc in omega (arith, w, c, room, spread, most, sum));
      }) in
      let rest-constant = rest.constant in
      record {
        out = rest.out;
        is = ap (λ z. sum_pairs facts (add_pair (pos m) z l) (map (pair_at points) fs)) g.there
            ∙ ap (λ z. sum_pairs facts z (map (pair_at points) fs)) r.is ∙ rest.is;
        long = rest.long ∙ r.long;
        left = λ p h. rest.left p (let w = r.long in omega (arith, w, h));
        constant = rest-constant ∙ ap (λ z. z +ℤ sum_of (values_in points) fs) (rc ∙ ap (λ z. l.constant +ℤ z) g.worth)
            ∙ group l.constant (f.1 *ℤ number_at (values_in points) f.0) (sum_of (values_in points) fs);
      }
    where
      plus-zero : (z : ℤ) → z +ℤ pos 0 ≡ z
      plus-zero z = omega (arith, ints)

      turn : (a b : ℤ) → a +ℤ b ≡ pos 0 → b +ℤ a ≡ pos 0
      turn a b h = omega (arith, ints, h)

      group : (a b c : ℤ) → (a +ℤ b) +ℤ c ≡ a +ℤ (b +ℤ c)
      group a b c = omega (arith, ints)

      lies : (p : ℕ) (t : Bool) → nat_le (suc p) (length l.factors) ≡ t → (out : Line) → length out.factors ≡ length
          l.factors → (p < length l.factors → in_limit (number_at out.factors p) ≡ true) → in_limit
          (number_at out.factors p) ≡ true
      lies p true e out w h = h (let k = le-is (suc p) (length l.factors) e in omega (arith, k))
      lies p false e out w h = small-zero _ (number-past out.factors p
          (let k = gt-is (suc p) (length l.factors) e in omega (arith, k, w)))

-- a plain factor
plain-factor : (fs : List (ℕ × ℤ)) → list_all is_plain_factor fs ≡ true → (p : ℕ) → unsigned_abs (factor_in fs p) ≤
    2 ^ 62
plain-factor [] h p = omega arith
plain-factor (f ∷ fs) h p =
    let a = and_parts (is_plain_factor f) (list_all is_plain_factor fs) h in
    elim (split f.0 p) [
      | inl k ↦ subst (λ z. unsigned_abs (factor_in (f ∷ fs) z) ≤ 2 ^ 62) k
          (subst (λ z. unsigned_abs z ≤ 2 ^ 62) (sym (factor-here f fs)) (le-is (unsigned_abs f.1) (2 ^ 62) a.0))
      | inr k ↦ subst (λ z. unsigned_abs z ≤ 2 ^ 62) (sym (factor-else f fs p k)) (plain-factor fs a.1 p)
    ]

-- a fact with these factors, all but the last of which have points
pub record Bounded (count : ℕ) (facts : List Fact) (points : List Point) (i : ℕ) (f : Fact)
    (fs more : List (ℕ × ℤ)) : Type 0 where
  pub there : slice_get facts i ≡ Some f
  pub factors : f.factors ≡ fs ++ more
  pub exact : is_exact 0 (fs ++ more) ≡ true
  pub plain : list_all is_plain_factor (fs ++ more) ≡ true
  pub within : is_within count fs ≡ true
  pub known : is_within (length points) fs ≡ true
  pub room : unsigned_abs f.constant + widths fs * 2 ^ 62 ≤ 2 ^ 126

-- its sum with these bounds
record Summed (count : ℕ) (facts : List Fact) (points : List Point) (i : ℕ) (f : Fact) (fs more : List (ℕ × ℤ)) : Type 0
  where
    out : Line
    is : total_pairs count facts ((pos 1, suc i) ∷ map (pair_at points) fs) ≡ Ok out
    long : length out.factors ≡ count
    left : (p : ℕ) → p < count → number_at out.factors p ≡ factor_in more p
    constant : out.constant ≡ f.constant +ℤ sum_of (values_in points) fs

summed : (count : ℕ) (facts : List Fact) (points : List Point) → ArePoints facts 0 points →
    ((p : ℕ) → unsigned_abs (number_at (values_in points) p) ≤ 2 ^ 62) → (i : ℕ) (f : Fact)
    (fs more : List (ℕ × ℤ)) → Bounded count facts points i f fs more → Summed count facts points i f fs more
summed count facts points are small i f fs more b =
    let room = b.room in
    let long : length (null_line count).factors ≡ count = length-nulls count in
    let tame : (p : ℕ) → unsigned_abs (factor_in f.factors p) ≤ 2 ^ 62 = λ p.
    subst (λ gs. unsigned_abs (factor_in gs p) ≤ 2 ^ 62) (sym b.factors) (plain-factor (fs ++ more) b.plain p) in
    let product : (p : ℕ) → in_limit (pos 1 *ℤ factor_in f.factors p) ≡ true = λ p. ap in_limit
    (once (factor_in f.factors p)) ∙ small-is (factor_in f.factors p) (let k = tame p in omega (arith, k)) in
    let total : (p : ℕ) → in_limit (number_at (null_line count).factors p +ℤ pos 1 *ℤ factor_in f.factors p) ≡ true
    = λ p. ap (λ z. in_limit (z +ℤ pos 1 *ℤ factor_in f.factors p)) (nulls-at count p) ∙ ap in_limit
    (from-zero (factor_in f.factors p)) ∙ small-is (factor_in f.factors p) (let k = tame p in omega (arith, k)) in
    let r = next-pair 1 f (null_line count) (ap (is_exact 0) b.factors ∙ b.exact)
    (record { product = product; total = total })
    (ap in_limit (once f.constant) ∙ small-is f.constant (omega (arith, room)))
    (ap in_limit (from-zero f.constant) ∙ small-is f.constant (omega (arith, room))) in
    let rc : r.out.constant ≡ f.constant = r.constant ∙ from-zero f.constant in
    let numbers : (p : ℕ) → p < length r.out.factors → number_at r.out.factors p ≡ factor_in f.factors p = λ p k.
    r.at p (let w = r.long in omega (arith, w, k)) ∙ ap (λ z. z +ℤ pos 1 *ℤ factor_in f.factors p)
    (nulls-at count p) ∙ from-zero (factor_in f.factors p) in
    let all = rested facts points are small 0 fs more r.out (record {
      exact = b.exact;
      within = ap (λ z. is_within z fs) (r.long ∙ long) ∙ b.within;
      known = b.known;
      plain = fronts b.plain;
      carries = λ p k. numbers p k ∙ ap (λ gs. factor_in gs p) b.factors;
      small = λ p. lies p (nat_le (suc p) (length r.out.factors)) r.out refl
          (λ k. ap in_limit (numbers p k) ∙ small-is (factor_in f.factors p) (let w = tame p in omega (arith, w)));
      room = (let w = ap unsigned_abs rc in omega (arith, w, room));
    }) in
    record {
      out = all.out;
      is = ap (λ z. sum_pairs facts (add_pair (pos 1) z (null_line count)) (map (pair_at points) fs)) b.there ∙ ap
          (λ z. sum_pairs facts z (map (pair_at points) fs)) r.is ∙ all.is;
      long = all.long ∙ r.long ∙ long;
      left = λ p k. all.left p (let w = r.long in omega (arith, w, long, k));
      constant = all.constant ∙ ap (λ z. z +ℤ sum_of (values_in points) fs) rc;
    }
  where
    fronts : list_all is_plain_factor (fs ++ more) ≡ true → list_all is_plain_factor fs ≡ true
    fronts h = (and_parts (list_all is_plain_factor fs) (list_all is_plain_factor more)
        (sym (list_all-append is_plain_factor fs more) ∙ h)).0

    once : (z : ℤ) → pos 1 *ℤ z ≡ z
    once z = omega (arith, ints)

    from-zero : (z : ℤ) → pos 0 +ℤ pos 1 *ℤ z ≡ z
    from-zero z = omega (arith, ints)

    lies : (p : ℕ) (t : Bool) (out : Line) → nat_le (suc p) (length out.factors) ≡ t →
        (p < length out.factors → in_limit (number_at out.factors p) ≡ true) → in_limit (number_at out.factors p) ≡
        true
    lies p true out e h = h (let k = le-is (suc p) (length out.factors) e in omega (arith, k))
    lies p false out e h = small-zero _ (number-past out.factors p
        (let k = gt-is (suc p) (length out.factors) e in omega (arith, k)))

-- The one factor that is left, divided.
all-numbers : (t : ℤ → Bool) (zs : List ℤ) → ((p : ℕ) → p < length zs → t (number_at zs p) ≡ true) → list_all t zs ≡
    true
all-numbers t [] h = refl
all-numbers t (z ∷ zs) h =
    ap (λ b. b && list_all t zs) (h 0 (omega arith)) ∙ all-numbers t zs (λ p k. h (suc p) (omega (arith, k)))

none-sparse : (n : ℕ) (zs : List ℤ) → ((p : ℕ) → p < length zs → number_at zs p ≡ pos 0) → sparse n zs ≡ []
none-sparse n [] h = refl
none-sparse n (z ∷ zs) h =
    ap (λ x. cond (int_eq x (pos 0)) (sparse (suc n) zs) ((n, x) ∷ sparse (suc n) zs)) (h 0 (omega arith))
    ∙ ap (λ t. cond t (sparse (suc n) zs) ((n, pos 0) ∷ sparse (suc n) zs)) (int-eq-refl (pos 0))
    ∙ none-sparse (suc n) zs (λ p k. h (suc p) (omega (arith, k)))

one-sparse : (n p : ℕ) (s : ℤ) (zs : List ℤ) → int_eq s (pos 0) ≡ false → p < length zs → number_at zs p ≡ s →
    ((q : ℕ) → q < length zs → (p ≡ q → ⊥) → number_at zs q ≡ pos 0) → sparse n zs ≡ (n + p, s) ∷ []
one-sparse n p s [] some h e none = absurd (omega arith)
one-sparse n zero s (z ∷ zs) some h e none =
    let same : n ≡ n + 0 = omega arith in
    ap (λ x. cond (int_eq x (pos 0)) (sparse (suc n) zs) ((n, x) ∷ sparse (suc n) zs)) e
    ∙ ap (λ t. cond t (sparse (suc n) zs) ((n, s) ∷ sparse (suc n) zs)) some
    ∙ ap (λ fs. (n, s) ∷ fs) (none-sparse (suc n) zs (λ q k. none (suc q) (omega (arith, k)) (λ x. omega (arith, x))))
    ∙ ap (λ (m : ℕ). (m, s) ∷ []) same
one-sparse n (suc p) s (z ∷ zs) some h e none =
    let next : suc n + p ≡ n + suc p = omega arith in
    ap (λ x. cond (int_eq x (pos 0)) (sparse (suc n) zs) ((n, x) ∷ sparse (suc n) zs))
    (none 0 (omega arith) (λ x. omega (arith, x)))
    ∙ ap (λ t. cond t (sparse (suc n) zs) ((n, pos 0) ∷ sparse (suc n) zs)) (int-eq-refl (pos 0))
    ∙ one-sparse (suc n) p s zs some (omega (arith, h)) e
    (λ q k d. none (suc q) (omega (arith, k)) (λ x. d (omega (arith, x))))
    ∙ ap (λ (m : ℕ). (m, s) ∷ []) next

-- a factor that is the divisor, or its negative
pub record UnitFactor (m : ℕ) (k s : ℤ) : Type 0 where
  pub rest : int_rem_euclid k (pos (suc m)) ≡ pos 0
  pub part : int_div_euclid k (pos (suc m)) ≡ s
  pub some : int_eq s (pos 0) ≡ false
  pub size : unsigned_abs k ≡ suc m

pub unit-above : (m : ℕ) → UnitFactor m (pos (suc m)) (pos 1)
unit-above m =
    let h : 0 < suc m = omega arith in
    record {
      rest = no-rest (pos (suc m)) (suc m) h (dvd_refl (suc m));
      part = ap pos (div_self h);
      some = refl;
      size = refl;
    }

pub unit-below : (m : ℕ) → UnitFactor m (negsuc m) (negsuc 0)
unit-below m =
    let h : 0 < suc m = omega arith in let l : m < suc m = omega arith in
    record {
      rest = no-rest (negsuc m) (suc m) h (dvd_refl (suc m));
      part = ap negsuc (div-eq_of_lt l);
      some = refl;
      size = refl;
    }

-- what a round adds to the facts
abbrev pub rounded : ℕ → ℕ → ℤ → ℤ → Fact
rounded m p s c = record { factors = (p, s) ∷ []; constant = int_div_euclid c (pos (suc m)) }

pub round-closes : (count : ℕ) (facts : List Fact) (points : List Point) → ArePoints facts 0 points →
    ((p : ℕ) → unsigned_abs (number_at (values_in points) p) ≤ 2 ^ 62) → (i : ℕ) (f : Fact) (fs : List (ℕ × ℤ))
    (p m : ℕ) (k s : ℤ) → Bounded count facts points i f fs ((p, k) ∷ []) → p < count → UnitFactor m k s →
    (ns : List Node) →
    Closes count (facts ++ rounded m p s (f.constant +ℤ sum_of (values_in points) fs) ∷ []) ns →
    Closes count facts (Node.Round (pos (suc m)) ((pos 1, suc i) ∷ map (pair_at points) fs) ∷ ns)
round-closes count facts points are tame i f fs p m k s b inside u ns c =
    let r = summed count facts points are tame i f fs ((p, k) ∷ []) b in
    let d : ℤ = pos (suc m) in
    let long = r.long in
    let here : number_at r.out.factors p ≡ k = r.left p inside ∙ factor-here (p, k) [] in
    let else' : (q : ℕ) → q < count → (p ≡ q → ⊥) → number_at r.out.factors q ≡ pos 0 = λ q h n. r.left q h
    ∙ factor-else (p, k) [] q n in
    let nothing : int_rem_euclid (pos 0) d ≡ pos 0 = no-rest (pos 0) (suc m) (omega arith) (dvd-zero (suc m)) in
    let all : list_all (λ z. int_eq (int_rem_euclid z d) (pos 0)) r.out.factors ≡ true =
    all-numbers (λ z. int_eq (int_rem_euclid z d) (pos 0)) r.out.factors (λ q h. elim (split p q) [
      | inl e ↦ ap (λ x. int_eq (int_rem_euclid (number_at r.out.factors x) d) (pos 0)) (sym e)
          ∙ ap (λ z. int_eq (int_rem_euclid z d) (pos 0)) here ∙ ap (λ z. int_eq z (pos 0)) u.rest
          ∙ int-eq-refl (pos 0)
      | inr n ↦ ap (λ z. int_eq (int_rem_euclid z d) (pos 0)) (else' q (omega (arith, long, h)) n)
          ∙ ap (λ z. int_eq z (pos 0)) nothing ∙ int-eq-refl (pos 0)
    ]) in
    let by : ℤ → ℤ = λ z. int_div_euclid z d in
    let zs : List ℤ = map by r.out.factors in
    let zero-part : by (pos 0) ≡ pos 0 = part-none (suc m) in
    let size : length zs ≡ count = length-map by r.out.factors ∙ long in
    let there : number_at zs p ≡ s = number-map by r.out.factors p zero-part ∙ ap by here ∙ u.part in
    let nowhere : (q : ℕ) → q < length zs → (p ≡ q → ⊥) → number_at zs q ≡ pos 0 = λ q h n.
    number-map by r.out.factors q zero-part ∙ ap by (else' q (omega (arith, size, h)) n) ∙ zero-part in
    let only : sparse 0 zs ≡ (p, s) ∷ [] = one-sparse 0 p s zs u.some (omega (arith, size, inside)) there nowhere
    ∙ ap (λ (n : ℕ). (n, s) ∷ []) (omega arith) in
    let added : fact_of (divided d r.out) ≡ rounded m p s (f.constant +ℤ sum_of (values_in points) fs) =
    ap (λ gs. record { factors = gs; constant = int_div_euclid r.out.constant d }) only
    ∙ ap (λ z. record { factors = (p, s) ∷ []; constant = int_div_euclid z d }) r.constant in (
      r.out,
      r.is,
      ap (λ b. b && list_all (λ z. int_eq (int_rem_euclid z d) (pos 0)) r.out.factors) (positive m) ∙ all,
      subst (λ g. Closes count (facts ++ g ∷ []) ns) (sym added) c,
    )
  where
    length-map : (h : ℤ → ℤ) (zs : List ℤ) → length (map h zs) ≡ length zs
    length-map h [] = refl
    length-map h (z ∷ zs) = ap suc (length-map h zs)

    positive : (n : ℕ) → int_le (pos 1) (pos (suc n)) ≡ true
    positive n = grind (arith, ints)
