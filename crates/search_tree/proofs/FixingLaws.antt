-- The added variables of a leaf are fixed one after the other, and then a chain closes it or all its facts are met.
use Rattle.std.proofs.Common.{◌≡◌, ℕ, zero, suc, ◌+◌, ◌-◌, ◌*◌, ◌≤◌, ◌<◌, ◌^◌, nat_eq, nat_le, ℤ, pos, negsuc, neg_ℤ}
use Rattle.std.proofs.Common.{◌+ℤ◌, ◌-ℤ◌, ◌≤ℤ◌, Bool, true, false, Some, List, [], ◌∷◌, ◌++◌, map, length}
use Rattle.std.proofs.Common.{slice_get, get_or, take, arith, refl, sym, ap, subst, ◌∙◌}
use Rattle.std.specs.List.{list_all}
use Rattle.std.specs.Int.{int_div_euclid}
use Rattle.std.specs.Int.RustNames.{unsigned_abs}
use Rattle.std.proofs.lemmas.Int.{ints}
use Rattle.core_terms.specs.declared.trees.Range.{Range}
use Rattle.core_terms.specs.Values.{number_at}
use Rattle.obligations.specs.declared.branches.Branch.{Branch}
use Rattle.obligations.specs.declared.branches.Fact.{Fact}
use Rattle.obligations.specs.declared.branches.Line.{Line}
use Rattle.obligations.specs.declared.branches.Variable.{Variable}
use Rattle.obligations.specs.declared.certificates.Node.{Node}
use Rattle.obligations.specs.Certificates.{units}
use Rattle.obligations.specs.LinearForms.{sum_of, sparse, negated}
use Rattle.obligations.specs.Obligations.{AreOwn, is_sound_range}
use Rattle.obligations.specs.Quotients.{fact_with, raised}
use Rattle.obligations.specs.Reach.{is_within, are_exact, some_out_of_reach}
use Rattle.obligations.specs.Scopes.{scope, scope_of}
use Rattle.obligations.proofs.ScopeLaws.{scope-length}
use Rattle.linear_prover.specs.Chains.{Closes, ClosesShortly}
use Rattle.search_tree.specs.declared.points.Point.{Point}
use Rattle.search_tree.specs.declared.fixing.Fixing.{Fixing}
use Rattle.search_tree.specs.declared.trail.Trail.{Trail}
use Rattle.search_tree.specs.declared.trail.Ended.{Ended}
use Rattle.search_tree.specs.Points.{values_in, pair_at, ArePoints, ends_in, IsFirst, front, last_size, quotient_at}
use Rattle.search_tree.specs.Points.{round_at, IsReadable, with_value, fixed_by, Chained, Pointed, IsFixing}
use Rattle.search_tree.specs.Searching.{AreBounded, is_slender, IsTaken, AreTaken, Ready, Finishes, EndsLeaf}
use Rattle.search_tree.specs.Weighing.{weight_in, line_weight}
use Rattle.search_tree.proofs.BoundLaws.{before-ends, get-inside, get-same, gt-is}
use Rattle.search_tree.proofs.EndsLaws.{leaf-room}
use Rattle.search_tree.proofs.ExactLaws.{sparse-within}
use Rattle.search_tree.proofs.FixedLaws.{tried-leaf, fixed-met, scope-count}
use Rattle.search_tree.proofs.LeafLaws.{all-there}
use Rattle.search_tree.proofs.PointLaws.{low-within, weight-small, length-map, length-more, abs-neg, get-more, le-is}
use Rattle.search_tree.proofs.PointLaws.{no-rounds, closed-after, points-meet, value-small, other, turned-long}
use Rattle.search_tree.proofs.PointLaws.{next-chained, next-pointed}

-- The last factor of a fact.
take-front : {A : Type 0} (xs ys : List A) → take (length xs) (xs ++ ys) ≡ xs
take-front [] ys = refl
take-front (x ∷ xs) ys = ap (λ zs. x ∷ zs) (take-front xs ys)

front-last : (fs : List (ℕ × ℤ)) (g : ℕ × ℤ) → front (fs ++ g ∷ []) ≡ fs
front-last fs g =
    let n = length-more fs (g ∷ []) in
    let e : length (fs ++ g ∷ []) - 1 ≡ length fs = omega (arith, n) in
    ap (λ i. take i (fs ++ g ∷ [])) e ∙ take-front fs (g ∷ [])

size-last : (fs : List (ℕ × ℤ)) (g : ℕ × ℤ) → last_size (fs ++ g ∷ []) ≡ unsigned_abs g.1
size-last [] g = refl
size-last (f ∷ []) g = refl
size-last (f ∷ h ∷ fs) g = size-last (h ∷ fs) g

ends-last : (v : ℕ) (fs : List (ℕ × ℤ)) (g : ℕ × ℤ) → ends_in v (fs ++ g ∷ []) ≡ nat_eq g.0 v
ends-last v [] g = refl
ends-last v (f ∷ []) g = refl
ends-last v (f ∷ h ∷ fs) g = ends-last v (h ∷ fs) g

eq-refl : (a : ℕ) → nat_eq a a ≡ true
eq-refl a = grind arith

-- the value of the variable after a linear form's, which has this factor
abbrev quotient_by : List Point → Line → ℕ → ℤ
quotient_by points l k = int_div_euclid (l.constant +ℤ sum_of (values_in points) (sparse 0 l.factors)) (pos k)

abbrev round_by : List Point → ℕ → Line → ℕ → Node
round_by points n l k = Node.Round (pos k) ((pos 1, n) ∷ map (pair_at points) (sparse 0 l.factors))

quotient-of : (points : List Point) (l : Line) (a : ℤ) → quotient_at points (fact_with l a) ≡
    quotient_by points l (unsigned_abs a)
quotient-of points l a =
    ap (λ gs. int_div_euclid (l.constant +ℤ sum_of (values_in points) gs) (pos (last_size (fact_with l a).factors)))
    (front-last (sparse 0 l.factors) (length l.factors, a))
    ∙ ap (λ k. int_div_euclid (l.constant +ℤ sum_of (values_in points) (sparse 0 l.factors)) (pos k))
    (size-last (sparse 0 l.factors) (length l.factors, a))

round-of : (points : List Point) (n : ℕ) (l : Line) (a : ℤ) → round_at points n (fact_with l a) ≡
    round_by points n l (unsigned_abs a)
round-of points n l a =
    ap (λ gs. Node.Round (pos (last_size (fact_with l a).factors)) ((pos 1, n) ∷ map (pair_at points) gs))
    (front-last (sparse 0 l.factors) (length l.factors, a))
    ∙ ap (λ k. Node.Round (pos k) ((pos 1, n) ∷ map (pair_at points) (sparse 0 l.factors)))
    (size-last (sparse 0 l.factors) (length l.factors, a))

readable : (points : List Point) (l : Line) (a : ℤ) (facts : List Fact) (i : ℕ) → slice_get facts i ≡ Some
    (fact_with l a) → list_all is_slender facts ≡ true → length l.factors ≡ length points → 0 < unsigned_abs a →
    ((p : ℕ) → unsigned_abs (number_at (values_in points) p) ≤ 2 ^ 62) →
    unsigned_abs (quotient_by points l (unsigned_abs a)) ≤ 2 ^ 62 → IsReadable points (fact_with l a)
readable points l a facts i there slender long some tame small =
    let size = size-last (sparse 0 l.factors) (length l.factors, a) in
    record {
      slender = all-there is_slender facts i (fact_with l a) slender there;
      some = omega (arith, size, some);
      known = ap (is_within (length points)) (front-last (sparse 0 l.factors) (length l.factors, a))
          ∙ sparse-within 0 (length points) l.factors (omega (arith, long));
      tame = tame;
      small = subst (λ z. unsigned_abs z ≤ 2 ^ 62) (sym (quotient-of points l a)) small;
    }

-- What the next variable stands for.
taken-at : (ws : List ℕ) (vs : List Variable) (m n : ℕ) (facts : List Fact) → n < m → AreTaken ws vs m facts →
    IsTaken ws (scope vs n) facts
taken-at ws vs zero n facts h t = absurd (omega (arith, h))
taken-at ws vs (suc m) n facts h t =
    by_place (nat_le (suc n) m) refl (λ k. taken-at ws vs m n facts k t.0)
  where
    by_place : (c : Bool) → nat_le (suc n) m ≡ c → (n < m → IsTaken ws (scope vs n) facts) →
        IsTaken ws (scope vs n) facts
    by_place true e ih = ih (let k = le-is (suc n) m e in omega (arith, k))
    by_place false e ih =
        let k = gt-is (suc n) m e in
        let same : m ≡ n = omega (arith, k, h) in subst (λ i. IsTaken ws (scope vs i) facts) same t.1

positive-is : (d : ℤ) → pos 1 ≤ℤ d → (m : ℕ) × (d ≡ pos (suc m))
positive-is (pos zero) h = absurd (omega (arith, ints, h))
positive-is (pos (suc m)) h = (m, refl)
positive-is (negsuc m) h = absurd (omega (arith, ints, h))

not-before : (facts : List Fact) (v i j : ℕ) → IsFirst facts v i → IsFirst facts v j → i < j → ⊥
not-before facts v i j f g h =
    let a = get-inside facts i f.fact f.there in
    let b = before-ends v j facts i f.fact g.before h a in
    let c = ap (λ (y : Fact). ends_in v y.factors) (get-same facts i f.fact f.fact f.there) ∙ f.names in
    apart (ends_in v (get_or facts i f.fact).factors) b c
  where
    apart : (t : Bool) → t ≡ false → t ≡ true → ⊥
    apart true p q = cc
    apart false p q = cc

same-first : (facts : List Fact) (v i j : ℕ) → IsFirst facts v i → IsFirst facts v j → i ≡ j
same-first facts v i j f g = by_place (nat_le (suc i) j) refl (nat_le (suc j) i) refl
  where
    by_place : (s : Bool) → nat_le (suc i) j ≡ s → (t : Bool) → nat_le (suc j) i ≡ t → i ≡ j
    by_place true p t q =
        absurd (not-before facts v i j f g (let a = le-is (suc i) j p in omega (arith, a)))
    by_place false p true q =
        absurd (not-before facts v j i g f (let a = le-is (suc j) i q in omega (arith, a)))
    by_place false p false q =
        let a = gt-is (suc i) j p in let b = gt-is (suc j) i q in omega (arith, a, b)

module _ (vs : List Variable) (b : Branch) (n : ℕ) (x : Fixing) (h : IsFixing vs b n x) (some : n < b.added) where
  abbrev us : List Variable
  us = scope vs n

  abbrev count : ℕ
  count = length vs + b.added

  t : IsTaken h.weights us b.facts
  t = taken-at h.weights vs b.added n b.facts some h.taken

  part : (m : ℕ) × (t.divisor ≡ pos (suc m))
  part = positive-is t.divisor t.positive

  abbrev m : ℕ
  m = part.0

  divided : t.divisor ≡ pos (suc m)
  divided = part.1

  inside : length us < count
  inside = let l = scope-length vs n in omega (arith, l, some)

  size : length x.points ≡ length us
  size = h.long ∙ sym (scope-length vs n)

  abbrev turned : Line
  turned = raised (negated us t.line) (pos (suc m) -ℤ pos 1)

  abbrev low_fact : Fact
  low_fact = fact_with t.line (neg_ℤ (pos (suc m)))

  abbrev high_fact : Fact
  high_fact = fact_with turned (pos (suc m))

  low : slice_get b.facts t.place ≡ Some low_fact
  low = t.low ∙ ap (λ z. Some (fact_with t.line (neg_ℤ z))) divided

  high : slice_get b.facts (suc t.place) ≡ Some high_fact
  high = t.high ∙ ap (λ z. Some (fact_with (raised (negated us t.line) (z -ℤ pos 1)) z)) divided

  weight : line_weight h.weights t.line ≤ suc m * weight_in h.weights (length us)
  weight =
      let w = t.weight in
      let e = ap (λ z. unsigned_abs z * weight_in h.weights (length us)) divided in omega (arith, w, e)

  abbrev value : ℤ
  value = quotient_by x.points t.line (suc m)

  small : unsigned_abs value ≤ 2 ^ 62
  small =
      value-small count h.weights h.limits b.facts us (2 * n) inside t.line m t.place (suc t.place) t.long low high
      weight x.facts x.rounds x.points h.chained h.pointed size

  turned-value : quotient_by x.points turned (suc m) ≡ neg_ℤ value
  turned-value =
      other count h.weights h.limits b.facts us (2 * n) inside t.line m t.place (suc t.place) t.long low high
      weight x.facts x.rounds x.points h.chained h.pointed size

  tame : (p : ℕ) → unsigned_abs (number_at (values_in x.points) p) ≤ 2 ^ 62
  tame p = let a = h.pointed.within p in let w = weight-small h.weights h.limits p in omega (arith, a, w)

  found : (i : ℕ) (f : Fact) → slice_get b.facts i ≡ Some f → slice_get x.facts i ≡ Some f
  found i f e = ap (λ gs. slice_get gs i) h.chained.is ∙ get-more b.facts h.chained.more i f e

  low-is-readable : IsReadable x.points low_fact
  low-is-readable =
      readable x.points t.line (negsuc m) x.facts t.place (found t.place low_fact low) h.chained.slender
      (t.long ∙ sym size) (omega arith) tame small

  high-is-readable : IsReadable x.points high_fact
  high-is-readable =
      readable x.points turned (pos (suc m)) x.facts (suc t.place) (found (suc t.place) high_fact high)
      h.chained.slender (long ∙ sym size) (omega arith) tame
      (let e = ap unsigned_abs turned-value in let a = abs-neg value in let s = small in omega (arith, e, a, s))
    where
      long : length turned.factors ≡ length us
      long = turned-long count h.weights h.limits b.facts us (2 * n) inside t.line m t.place (suc t.place) t.long low
          high weight

  first : IsFirst b.facts (length vs + n) t.place
  first = subst (λ v. IsFirst b.facts v t.place) (scope-length vs n) (record {
    fact = low_fact;
    there = low;
    names = ends-last (length us) (sparse 0 t.line.factors) (length t.line.factors, negsuc m)
        ∙ ap (λ k. nat_eq k (length us)) t.long ∙ eq-refl (length us);
    before = t.unnamed;
  })

  pub next-first : (i : ℕ) × IsFirst b.facts (length vs + n) i
  next-first = (t.place, first)

  module _ (i : ℕ) (f : IsFirst b.facts (length vs + n) i) where
    here : i ≡ t.place
    here = same-first b.facts (length vs + n) i t.place f first

    after : i + 1 ≡ suc t.place
    after = let e = here in omega (arith, e)

    low-is : (d : Fact) → get_or b.facts i d ≡ low_fact
    low-is d = get-same b.facts i low_fact d (ap (slice_get b.facts) here ∙ low)

    high-is : (d : Fact) → get_or b.facts (i + 1) d ≡ high_fact
    high-is d = get-same b.facts (i + 1) high_fact d (ap (slice_get b.facts) after ∙ high)

    pub next-inside : i + 1 < length b.facts
    next-inside = get-inside b.facts (i + 1) high_fact (ap (slice_get b.facts) after ∙ high)

    pub low-readable : (d : Fact) → IsReadable x.points (get_or b.facts i d)
    low-readable d = subst (IsReadable x.points) (sym (low-is d)) low-is-readable

    pub high-readable : (d : Fact) → IsReadable x.points (get_or b.facts (i + 1) d)
    high-readable d = subst (IsReadable x.points) (sym (high-is d)) high-is-readable

    abbrev low_node : Node
    low_node = round_by x.points (suc t.place) t.line (suc m)

    abbrev high_node : Node
    high_node = round_by x.points (suc (suc t.place)) turned (suc m)

    abbrev next : Fixing
    next = with_value (length us) value low_node high_node x

    next-is : (d e : Fact) → fixed_by (length vs + n) (i + 1) (get_or b.facts i d) (get_or b.facts (i + 1) e) x ≡ next
    next-is d e =
        let k = after in
        let more : suc t.place + 1 ≡ suc (suc t.place) = omega arith in
        ap (λ g. fixed_by (length vs + n) (i + 1) g (get_or b.facts (i + 1) e) x) (low-is d)
        ∙ ap (λ g. fixed_by (length vs + n) (i + 1) low_fact g x) (high-is e)
        ∙ ap (λ v. fixed_by v (i + 1) low_fact high_fact x) (sym (scope-length vs n))
        ∙ ap (λ j. fixed_by (length us) j low_fact high_fact x) k
        ∙ ap (λ z. with_value (length us) z (round_at x.points (suc t.place) low_fact)
        (round_at x.points (suc t.place + 1) high_fact) x) (quotient-of x.points t.line (negsuc m))
        ∙ ap (λ r. with_value (length us) value r (round_at x.points (suc t.place + 1) high_fact) x)
        (round-of x.points (suc t.place) t.line (negsuc m))
        ∙ ap (λ j. with_value (length us) value low_node (round_at x.points j high_fact) x) more
        ∙ ap (λ r. with_value (length us) value low_node r x)
        (round-of x.points (suc (suc t.place)) turned (pos (suc m)))

    next-fixing : IsFixing vs b (n + 1) next
    next-fixing =
        let y : Fixing = next in
        let twice : suc (suc (2 * n)) ≡ 2 * (n + 1) = omega arith in
        let one : suc (length x.facts) ≡ length x.facts + 1 = omega arith in
        let two : suc (suc (length x.facts)) ≡ (length x.facts + 1) + 1 = omega arith in
        let l = h.long in
        let longer = length-more x.points (record {
          value = value;
          least = (length x.facts + 1) + 1;
          most = length x.facts + 1;
        } ∷ []) in
        record {
          weights = h.weights;
          limits = h.limits;
          taken = h.taken;
          chained = subst (Chained count b.facts y.facts y.rounds) twice
              (next-chained count h.weights h.limits b.facts us (2 * n) inside t.line m t.place (suc t.place) t.long
              low high weight x.facts x.rounds x.points h.chained h.pointed size);
          pointed = subst (λ k. Pointed h.weights y.facts (x.points ++ record {
            value = value;
            least = k;
            most = length x.facts + 1;
          } ∷ [])) two (subst (λ k. Pointed h.weights y.facts (x.points ++ record {
            value = value;
            least = suc (suc (length x.facts));
            most = k;
          } ∷ [])) one
              (next-pointed count h.weights h.limits b.facts us (2 * n) inside t.line m t.place (suc t.place) t.long
              low high weight x.facts x.rounds x.points h.chained h.pointed size));
          long = omega (arith, longer, l);
        }

    pub fixed-more : (y : Fixing) (d e : Fact) →
        y ≡ fixed_by (length vs + n) (i + 1) (get_or b.facts i d) (get_or b.facts (i + 1) e) x →
        IsFixing vs b (n + 1) y
    fixed-more y d e q = subst (IsFixing vs b (n + 1)) (sym (q ∙ next-is d e)) next-fixing

-- the same of a list of facts that is the branch's
pub first-in : (vs : List Variable) (b : Branch) (n : ℕ) (x : Fixing) (facts : List Fact) → IsFixing vs b n x →
    n < b.added → facts ≡ b.facts → (i : ℕ) × IsFirst facts (length vs + n) i
first-in vs b n x facts h some e =
    let f = next-first vs b n x h some in
    (f.0, subst (λ gs. IsFirst gs (length vs + n) f.0) (sym e) f.1)

pub inside-in : (vs : List Variable) (b : Branch) (n : ℕ) (x : Fixing) (facts : List Fact) (i : ℕ) →
    IsFixing vs b n x → n < b.added → facts ≡ b.facts → IsFirst facts (length vs + n) i → i + 1 < length facts
inside-in vs b n x facts i h some e f =
    subst (λ gs. i + 1 < length gs) (sym e)
    (next-inside vs b n x h some i (subst (λ gs. IsFirst gs (length vs + n) i) e f))

pub ruleset next_laws = (first-in, inside-in)

pub read-low : (vs : List Variable) (b : Branch) (n : ℕ) (x : Fixing) (facts : List Fact) (i : ℕ) (d : Fact) →
    IsFixing vs b n x → n < b.added → facts ≡ b.facts → IsFirst facts (length vs + n) i → d ≡ get_or facts i d →
    IsReadable x.points d
read-low vs b n x facts i d h some e f q =
    subst (IsReadable x.points) (sym (q ∙ ap (λ gs. get_or gs i d) e))
    (low-readable vs b n x h some i (subst (λ gs. IsFirst gs (length vs + n) i) e f) d)

pub read-high : (vs : List Variable) (b : Branch) (n : ℕ) (x : Fixing) (facts : List Fact) (i : ℕ) (d : Fact) →
    IsFixing vs b n x → n < b.added → facts ≡ b.facts → IsFirst facts (length vs + n) i →
    d ≡ get_or facts (i + 1) d → IsReadable x.points d
read-high vs b n x facts i d h some e f q =
    subst (IsReadable x.points) (sym (q ∙ ap (λ gs. get_or gs (i + 1) d) e))
    (high-readable vs b n x h some i (subst (λ gs. IsFirst gs (length vs + n) i) e f) d)

pub fixed-next : (vs : List Variable) (b : Branch) (n : ℕ) (x y : Fixing) (facts : List Fact) (i v : ℕ) (d e : Fact) →
    IsFixing vs b n x → n < b.added → facts ≡ b.facts → IsFirst facts (length vs + n) i → d ≡ get_or facts i d →
    e ≡ get_or facts (i + 1) e → v ≡ length vs + n → y ≡ fixed_by v (i + 1) d e x → IsFixing vs b (n + 1) y
fixed-next vs b n x y facts i v d e h some q f p r w u =
    fixed-more vs b n x h some i (subst (λ gs. IsFirst gs (length vs + n) i) q f) y d e
    (u ∙ ap (λ k. fixed_by k (i + 1) d e x) w
    ∙ ap (λ g. fixed_by (length vs + n) (i + 1) g e x) (p ∙ ap (λ gs. get_or gs i d) q)
    ∙ ap (λ g. fixed_by (length vs + n) (i + 1) (get_or b.facts i d) g x) (r ∙ ap (λ gs. get_or gs (i + 1) e) q))

pub ruleset fix_laws = (read-low, read-high, fixed-next)

-- The start.
pub start-fixing : (vs : List Variable) (k : ℕ) (rs : List Range) (b : Branch) (x : Fixing) → Ready vs k rs b →
    x.facts ≡ b.facts → x.rounds ≡ [] → ArePoints b.facts 0 x.points →
    values_in x.points ≡ map (λ (r : Range). r.lo) rs → IsFixing vs b 0 x
start-fixing vs k rs b x r e q are values =
    let count : ℕ = length vs + b.added in
    let ws : List ℕ = r.fixes.weights in
    let long = r.long in
    let l1 = ap (λ (zs : List ℤ). length zs) values in
    let l2 = length-map (λ (p : Point). p.value) x.points in let l3 = length-map (λ (r : Range). r.lo) rs in
    let exact : are_exact count b.facts ≡ true =
    ap (λ n. are_exact n b.facts) (sym (scope-length vs b.added)) ∙ r.exact in
    let zero-plus : (p : ℕ) → 0 + p ≡ p = λ p. omega arith in
    record {
      weights = ws;
      limits = r.fixes.weighed.limits;
      taken = r.fixes.taken;
      chained = subst (λ fs. Chained count b.facts fs x.rounds 0) (sym e)
          (subst (λ ns. Chained count b.facts b.facts ns 0) (sym q) (no-rounds count b.facts exact r.slender));
      pointed = record {
        are = subst (λ fs. ArePoints fs 0 x.points) (sym e) are;
        within = λ p. subst (λ zs. unsigned_abs (number_at zs p) ≤ weight_in ws p) (sym values)
            (subst (λ j. unsigned_abs (number_at (map (λ (r : Range). r.lo) rs) p) ≤ weight_in ws j) (zero-plus p)
            (low-within ws 0 rs r.fixes.weighed.ranges p));
      };
      long = omega (arith, l1, l2, l3, long);
    }

pub ready-few : (vs : List Variable) (k : ℕ) (rs : List Range) (b : Branch) → Ready vs k rs b → length vs ≤ 2 ^ 31 →
    length rs < 2 ^ 32
ready-few vs k rs b r h = let l = r.long in omega (arith, l, h)

pub ready-bounded : (vs : List Variable) (k : ℕ) (rs : List Range) (b : Branch) (facts : List Fact) → Ready vs k rs b →
    facts ≡ b.facts → AreBounded 0 rs facts
ready-bounded vs k rs b facts r e = subst (AreBounded 0 rs) (sym e) r.bounded

pub ready-sound : (vs : List Variable) (k : ℕ) (rs : List Range) (b : Branch) → Ready vs k rs b →
    list_all is_sound_range rs ≡ true
ready-sound vs k rs b r = r.sound

pub ruleset start_laws = (ready-few, ready-bounded, ready-sound, start-fixing)

pub own-few : (vs : List Variable) → AreOwn vs → length vs ≤ 2 ^ 31
own-few vs own = own.few

pub ruleset own_laws = own-few

pub all-fixed : (vs : List Variable) (b : Branch) (n : ℕ) (x : Fixing) → IsFixing vs b n x → n ≤ b.added →
    b.added ≤ n → IsFixing vs b b.added x
all-fixed vs b n x h p q =
    let same : n ≡ b.added = omega (arith, p, q) in subst (λ i. IsFixing vs b i x) same h

pub ruleset loop_laws = all-fixed

-- The end.
pub fixing-exact : (vs all : List Variable) (b : Branch) (x : Fixing) (facts : List Fact) (n : ℕ) →
    all ≡ scope_of vs b → IsFixing vs b b.added x → facts ≡ x.facts → n ≡ length all → are_exact n facts ≡ true
fixing-exact vs all b x facts n scoped h e q =
    let long = ap (λ (ys : List Variable). length ys) scoped ∙ scope-length vs b.added in
    ap (are_exact n) e ∙ ap (λ k. are_exact k x.facts) (q ∙ long) ∙ h.chained.exact

pub fixing-closes : (vs all : List Variable) (b : Branch) (x : Fixing) (facts : List Fact) (n : ℕ) (ns : List Node)
    (old new : Trail) (e : Ended) → all ≡ scope_of vs b → IsFixing vs b b.added x → b.waiting ≡ [] →
    facts ≡ x.facts → n ≡ length all → ClosesShortly n facts ns → Finishes (x.rounds ++ ns) old new e →
    EndsLeaf vs b old new e
fixing-closes vs all b x facts n ns old new e scoped h none same size s f =
    let long : length all ≡ length vs + b.added = ap (λ (ys : List Variable). length ys) scoped
    ∙ scope-length vs b.added in
    let c = closed-after (length vs + b.added) b.facts x.facts x.rounds (2 * b.added) h.chained ns
    (subst (λ k. ClosesShortly k x.facts ns) (size ∙ long) (subst (λ gs. ClosesShortly n gs ns) same s)) in
    let short = c.short in
    tried-leaf vs all b old new e scoped (record {
      nodes = x.rounds ++ ns;
      closes = subst (λ k. Closes k b.facts (x.rounds ++ ns)) (sym long) c.closes;
      short = omega (arith, short);
      cheap = leaf-room vs b (units (x.rounds ++ ns)) none c.cheap;
      plain = c.plain;
      finished = f;
    })

pub fixing-meets : (vs : List Variable) (b : Branch) (x : Fixing) (facts : List Fact) (points : List Point)
    (values : List ℤ) (n : ℕ) (old new : Trail) →
    IsFixing vs b b.added x → b.waiting ≡ [] → facts ≡ x.facts → points ≡ x.points → n ≡ length vs →
    some_out_of_reach facts ≡ false → values ≡ take n (values_in points) →
    EndsLeaf vs b old new (Ended.Refuted values)
fixing-meets vs b x facts points values n old new h none same alike size reach e =
    fixed-met vs b (values_in x.points) values
    (e ∙ ap (λ k. take k (values_in points)) size ∙ ap (λ (ps : List Point). take (length vs) (values_in ps)) alike)
    (length-map (λ (p : Point). p.value) x.points ∙ h.long) none
    (points-meet (length vs + b.added) h.weights h.limits b.facts x.facts x.rounds (2 * b.added) h.chained x.points
    h.pointed h.long (ap some_out_of_reach (sym same) ∙ reach))

pub ruleset end_laws = (fixing-exact, fixing-closes, fixing-meets, scope-count)
