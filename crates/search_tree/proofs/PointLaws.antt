-- A leaf with added variables: two rounds for each give it one value, and then some fact is out of reach, or all hold.
use Rattle.std.proofs.Common.{◌≡◌, ℕ, zero, suc, ◌+◌, ◌*◌, ◌≤◌, ◌<◌, ◌^◌, nat_le, ℤ, pos, negsuc, neg_ℤ}
use Rattle.std.proofs.Common.{◌+ℤ◌, ◌-ℤ◌, ◌*ℤ◌, ◌≤ℤ◌, Bool, true, false, cond, not, ◌&&◌, inl, inr, Some, None}
use Rattle.std.proofs.Common.{List, [], ◌∷◌, ◌++◌, map, length, slice_get, le_refl, arith, refl, sym, ap}
use Rattle.std.proofs.Common.{subst}
use Rattle.std.proofs.Common.{◌∙◌}
use Rattle.std.proofs.Math.Nat.{mul-le-mul_right}
use Rattle.std.specs.List.{list_all}
use Rattle.std.specs.Int.{int_div_euclid}
use Rattle.std.specs.Int.RustNames.{int_le, unsigned_abs}
use Rattle.std.proofs.lemmas.Int.{ints}
use Rattle.std.proofs.lemmas.Bool.{and_parts}
use Rattle.std.proofs.lemmas.List.Folds.{list_all-append}
use lib.IntN.{*ℤ-zero}
use Rattle.core_terms.specs.declared.trees.Range.{Range}
use Rattle.core_terms.specs.Values.{number_at}
use Rattle.core_terms.proofs.QuotientLaws.{floored_is, rest_of_is}
use Rattle.meaning_states.specs.State.{int_eq}
use Rattle.meaning_states.specs.Division.{divisor, floored, rest_of}
use Rattle.meaning_states.proofs.DivisionTheorems.{parts_make_the_number}
use Rattle.obligations.specs.declared.branches.Fact.{Fact}
use Rattle.obligations.specs.declared.branches.Line.{Line}
use Rattle.obligations.specs.declared.branches.Variable.{Variable}
use Rattle.obligations.specs.declared.certificates.Node.{Node}
use Rattle.obligations.specs.Certificates.{units}
use Rattle.obligations.specs.LinearForms.{fact_holds, sum_of, sparse, plus, zeros, negated}
use Rattle.obligations.specs.Obligations.{is_sound_range}
use Rattle.obligations.specs.Opening.{at_least, at_most}
use Rattle.obligations.specs.Plain.{first_cut, middle}
use Rattle.obligations.specs.Quotients.{fact_with, raised}
use Rattle.obligations.specs.Reach.{is_exact, is_within, are_exact, some_out_of_reach}
use Rattle.obligations.specs.Scopes.{scope}
use Rattle.obligations.proofs.LineLaws.{sparse-dot, dot-plus, dot-zeros, length-zeros, length-plus}
use Rattle.obligations.proofs.RingLaws.{times-add}
use Rattle.obligations.proofs.ScopeLaws.{scope-length}
use Rattle.linear_prover.specs.Chains.{Closes, ClosesShortly, is_plain_factor, is_plain_pair, is_plain_node}
use Rattle.linear_prover.proofs.ChainLaws.{exact-at}
use Rattle.certificate_rules.specs.Sums.{numbered}
use Rattle.search_tree.specs.declared.points.Point.{Point}
use Rattle.search_tree.specs.Points.{values_in, pair_at, IsPoint, ArePoints, Chained, Pointed}
use Rattle.search_tree.specs.Searching.{Has, AreBounded, widths, is_slender, IsTaken, AreTaken}
use Rattle.search_tree.specs.Weighing.{weight_in, line_weight, is_range_within, are_ranges_within}
use Rattle.search_tree.specs.Weighing.{is_weight}
use Rattle.search_tree.proofs.ExactLaws.{sparse-within}
use Rattle.search_tree.proofs.LeafLaws.{leaf-facts, slender-at, one-value}
use Rattle.search_tree.proofs.LineWeights.{sum-within, part-within}
use Rattle.search_tree.proofs.ReadyLaws.{all-last, one-exact}
use Rattle.search_tree.proofs.RoundLaws.{UnitFactor, unit-above, unit-below, rounded, round-closes}
use Rattle.search_tree.proofs.SearchLaws.{units-append}
use Rattle.search_tree.proofs.SlenderLaws.{abs-plus}
use Rattle.search_tree.proofs.TakenReady.{widths-append}

pub le-is : (a b : ℕ) → nat_le a b ≡ true → a ≤ b
le-is a b h = grind arith

pub le-true : (a b : ℕ) → a ≤ b → nat_le a b ≡ true
le-true a b h = grind arith

pub abs-neg : (z : ℤ) → unsigned_abs (neg_ℤ z) ≡ unsigned_abs z
abs-neg (pos zero) = refl
abs-neg (pos (suc n)) = refl
abs-neg (negsuc n) = refl

-- Division of what a fact leaves.
times-neg : (k q : ℤ) → k *ℤ neg_ℤ q ≡ neg_ℤ (k *ℤ q)
times-neg k q =
    let whole = times-add k q (neg_ℤ q) in
    let none : q +ℤ neg_ℤ q ≡ pos 0 = omega (arith, ints) in
    let gone : k *ℤ (q +ℤ neg_ℤ q) ≡ pos 0 = ap (λ x. k *ℤ x) none ∙ *ℤ-zero k in
    omega (arith, ints, whole, gone)

divisor-self : (m : ℕ) → divisor (pos (suc m)) ≡ pos (suc m)
divisor-self m = ap (λ b. cond b (pos (suc m)) (pos 1)) (positive m)
  where
    positive : (n : ℕ) → int_le (pos 1) (pos (suc n)) ≡ true
    positive n = grind (arith, ints)

-- from the other side, the same quotient
part-turned : (z y : ℤ) (m : ℕ) → y ≡ pos m -ℤ z →
    int_div_euclid y (pos (suc m)) ≡ neg_ℤ (int_div_euclid z (pos (suc m)))
part-turned z y m e =
    let k : ℤ = pos (suc m) in
    let same = divisor-self m in
    let parts = parts_make_the_number z k in
    let rest = rest_of_is z k in
    let turned = times-neg (divisor k) (floored z k) in
    let is : floored y k ≡ neg_ℤ (floored z k) =
    floored_is y k (neg_ℤ (floored z k)) (pos m -ℤ rest_of z k) (omega (arith, ints, e, parts, turned))
    (omega (arith, ints, rest.1, same)) (omega (arith, ints, rest.0, same)) in
    ap (int_div_euclid y) (sym same) ∙ is ∙ ap (λ d. neg_ℤ (int_div_euclid z d)) same

-- the sum of a linear form with all signs turned
turned-sum : (us : List Variable) (l : Line) (values : List ℤ) (m : ℕ) → length l.factors ≡ length us →
    (raised (negated us l) (pos (suc m) -ℤ pos 1)).constant +ℤ
    sum_of values (sparse 0 (raised (negated us l) (pos (suc m) -ℤ pos 1)).factors)
    ≡ pos m -ℤ (l.constant +ℤ sum_of values (sparse 0 l.factors))
turned-sum us l values m e =
    let a = sparse-dot (plus (negsuc 0) (zeros us) l.factors) values in
    let b = sparse-dot l.factors values in
    let c = dot-plus (negsuc 0) (zeros us) l.factors values (e ∙ sym (length-zeros us)) in
    let d = dot-zeros us values in
    omega (arith, ints, a, b, c, d)

-- Lists with more items.
pub get-more : {A : Type 0} (xs ys : List A) (i : ℕ) (x : A) → slice_get xs i ≡ Some x → slice_get (xs ++ ys) i ≡ Some x
get-more [] ys i x e = cc
get-more (y ∷ xs) ys zero x e = e
get-more (y ∷ xs) ys (suc i) x e = get-more xs ys i x e

append-more : {A : Type 0} (xs ys zs : List A) → (xs ++ ys) ++ zs ≡ xs ++ (ys ++ zs)
append-more [] ys zs = refl
append-more (x ∷ xs) ys zs = ap (λ z. x ∷ z) (append-more xs ys zs)

append-none : {A : Type 0} (xs : List A) → xs ++ [] ≡ xs
append-none [] = refl
append-none (x ∷ xs) = ap (λ z. x ∷ z) (append-none xs)

pub length-more : {A : Type 0} (xs ys : List A) → length (xs ++ ys) ≡ length xs + length ys
length-more [] ys = omega arith
length-more (x ∷ xs) ys = let ih = length-more xs ys in omega (arith, ih)

-- a low end is within its weight
pub low-within : (ws : List ℕ) (n : ℕ) (rs : List Range) → are_ranges_within ws n rs ≡ true → (p : ℕ) →
    unsigned_abs (number_at (map (λ (r : Range). r.lo) rs) p) ≤ weight_in ws (n + p)
low-within ws n [] h p = omega arith
low-within ws n (r ∷ rs) h zero =
    let z : n + 0 ≡ n = omega arith in
    let a = and_parts (is_range_within (weight_in ws n) r) (are_ranges_within ws (suc n) rs) h in
    let b = and_parts (nat_le (unsigned_abs r.lo) (weight_in ws n)) (nat_le (unsigned_abs r.hi) (weight_in ws n)) a.0
    in
    let c = le-is (unsigned_abs r.lo) (weight_in ws n) b.0 in
    subst (λ j. unsigned_abs r.lo ≤ weight_in ws j) (sym z) c
low-within ws n (r ∷ rs) h (suc p) =
    let z : n + suc p ≡ suc n + p = omega arith in
    let a = and_parts (is_range_within (weight_in ws n) r) (are_ranges_within ws (suc n) rs) h in
    subst (λ j. unsigned_abs (number_at (map (λ (r : Range). r.lo) rs) p) ≤ weight_in ws j) (sym z)
    (low-within ws (suc n) rs a.1 p)

pub weight-small : (ws : List ℕ) → list_all is_weight ws ≡ true → (p : ℕ) → weight_in ws p ≤ 2 ^ 62
weight-small [] h p = omega arith
weight-small (w ∷ ws) h zero =
    let a = and_parts (is_weight w) (list_all is_weight ws) h in
    le-is w (2 ^ 62) (and_parts (nat_le 1 w) (nat_le w (2 ^ 62)) a.0).1
weight-small (w ∷ ws) h (suc p) = weight-small ws (and_parts (is_weight w) (list_all is_weight ws) h).1 p

pairs-plain : (points : List Point) (fs : List (ℕ × ℤ)) → list_all is_plain_factor fs ≡ true → list_all is_plain_pair
    (map (pair_at points) fs) ≡ true
pairs-plain points [] e = refl
pairs-plain points (f ∷ fs) e =
    let a = and_parts (is_plain_factor f) (list_all is_plain_factor fs) e in
    ap (λ t. t && list_all is_plain_pair (map (pair_at points) fs)) a.0 ∙ pairs-plain points fs a.1

pub length-map : {A B : Type 0} (h : A → B) (xs : List A) → length (map h xs) ≡ length xs
length-map h [] = refl
length-map h (x ∷ xs) = ap suc (length-map h xs)

sparse-few : (n : ℕ) (zs : List ℤ) → length (sparse n zs) ≤ length zs
sparse-few n [] = omega arith
sparse-few n (z ∷ zs) = by_test (int_eq z (pos 0)) (sparse-few (suc n) zs)
  where
    by_test : (t : Bool) → length (sparse (suc n) zs) ≤ length zs →
        length (cond t (sparse (suc n) zs) ((n, z) ∷ sparse (suc n) zs)) ≤ suc (length zs)
    by_test true ih = omega (arith, ih)
    by_test false ih = omega (arith, ih)

-- A round more: of a fact of the branch that names one variable after those that have values.
module _ (count : ℕ) (ws : List ℕ) (limits : list_all is_weight ws ≡ true) (old facts : List Fact)
    (rounds : List Node) (k : ℕ) (c : Chained count old facts rounds k)
    (points : List Point) (p : Pointed ws facts points)
    (l : Line) (m : ℕ) (factor unit : ℤ) (i : ℕ) (there : slice_get old i ≡ Some (fact_with l factor))
    (long : length l.factors ≡ length points) (inside : length l.factors < count) (u : UnitFactor m factor unit)
    (one : unsigned_abs unit ≡ 1)
    (small : unsigned_abs (int_div_euclid (l.constant +ℤ sum_of (values_in points) (sparse 0 l.factors))
    (pos (suc m))) ≤ 2 ^ 62) where
  abbrev fs : List (ℕ × ℤ)
  fs = sparse 0 l.factors

  abbrev last : List (ℕ × ℤ)
  last = (length l.factors, factor) ∷ []

  abbrev new : Fact
  new = rounded m (length l.factors) unit (l.constant +ℤ sum_of (values_in points) fs)

  abbrev node : Node
  node = Node.Round (pos (suc m)) ((pos 1, suc i) ∷ map (pair_at points) fs)

  found : slice_get facts i ≡ Some (fact_with l factor)
  found = ap (λ gs. slice_get gs i) c.is ∙ get-more old c.more i (fact_with l factor) there

  slight : (list_all is_plain_factor fs ≡ true) × (list_all is_plain_factor last ≡ true)
  slight =
      and_parts (list_all is_plain_factor fs) (list_all is_plain_factor last)
      (sym (list_all-append is_plain_factor fs last) ∙ (slender-at facts i (fact_with l factor) c.slender found).0)

  divides : suc m ≤ 2 ^ 62
  divides =
      let a = le-is (unsigned_abs factor) (2 ^ 62)
      (and_parts (nat_le (unsigned_abs factor) (2 ^ 62)) true slight.1).0 in
      let s = u.size in omega (arith, a, s)

  short : length fs ≤ count
  short = let s = sparse-few 0 l.factors in omega (arith, s, inside)

  wide-few : widths fs ≤ 2 ^ 63
  wide-few =
      let thin = (slender-at facts i (fact_with l factor) c.slender found).1 in
      let wide = widths-append fs last in
      omega (arith, thin, wide)

  tame : (q : ℕ) → unsigned_abs (number_at (values_in points) q) ≤ 2 ^ 62
  tame q = let a = p.within q in let b = weight-small ws limits q in omega (arith, a, b)

  round-more : (ns : List Node) → Closes count (facts ++ new ∷ []) ns → Closes count facts (node ∷ ns)
  round-more ns h =
      let thin = slender-at facts i (fact_with l factor) c.slender found in
      let thin2 = thin.2 in
      let most = mul-le-mul_right (2 ^ 62) wide-few in
      round-closes count facts points p.are tame i (fact_with l factor) fs (length l.factors) m factor unit (record {
        there = found;
        factors = refl;
        exact = (exact-at count facts i (fact_with l factor) c.exact found).0;
        plain = thin.0;
        within = sparse-within 0 count l.factors (omega (arith, inside));
        known = sparse-within 0 (length points) l.factors (omega (arith, long));
        room = omega (arith, most, thin2);
      }) inside u ns h

  round-chained : Chained count old (facts ++ new ∷ []) (rounds ++ node ∷ []) (suc k)
  round-chained =
      let few = c.few in let cheap = c.cheap in let pairs = length-map (pair_at points) fs in let s = short in
      let u1 = units-append rounds (node ∷ []) in
      let l1 = length-more rounds (node ∷ []) in
      record {
        more = c.more ++ new ∷ [];
        is = ap (λ gs. gs ++ new ∷ []) c.is ∙ append-more old c.more (new ∷ []);
        exact = all-last (λ (f : Fact). is_exact 0 f.factors && is_within count f.factors) facts new c.exact
            (one-exact count (length l.factors) unit (ap not u.some) inside);
        slender = all-last is_slender facts new c.slender new-slender;
        keeps = λ ns h. subst (Closes count old) (sym (append-more rounds (node ∷ []) ns))
            (c.keeps (node ∷ ns) (round-more ns h));
        few = omega (arith, l1, few);
        cheap = omega (arith, u1, cheap, pairs, s);
        plain = list_all-append is_plain_node rounds (node ∷ [])
            ∙ ap (λ t. t && list_all is_plain_node (node ∷ [])) c.plain ∙ node-plain;
      }
    where
      new-slender : is_slender new ≡ true
      new-slender =
          let w : ℕ = unsigned_abs new.constant in
          ap (λ t. (t && true) && (nat_le (unsigned_abs unit + 0) (2 ^ 63) && nat_le w (2 ^ 64)))
          (le-true (unsigned_abs unit) (2 ^ 62) (omega (arith, one)))
          ∙ ap (λ t. t && nat_le w (2 ^ 64)) (le-true (unsigned_abs unit + 0) (2 ^ 63) (omega (arith, one)))
          ∙ le-true w (2 ^ 64) (omega (arith, small))

      node-plain : list_all is_plain_node (node ∷ []) ≡ true
      node-plain =
          ap (λ t. (t && (true && list_all is_plain_pair (map (pair_at points) fs))) && true)
          (le-true (suc m) (2 ^ 62) divides)
          ∙ ap (λ t. t && true) (pairs-plain points fs slight.0)

-- Points stay points where facts are added.
numbered-more : (facts more : List Fact) (n : ℕ) (f : Fact) → numbered facts n ≡ Some f → numbered (facts ++ more) n ≡
    Some f
numbered-more facts more zero f h = cc
numbered-more facts more (suc n) f h = get-more facts more n f h

points-more : (facts more : List Fact) (n : ℕ) (points : List Point) → ArePoints facts n points →
    ArePoints (facts ++ more) n points
points-more facts more n [] h = tt
points-more facts more n (p ∷ points) h = (
  record {
    least = numbered-more facts more p.least (at_least n p.value) h.0.least;
    most = numbered-more facts more p.most (at_most n p.value) h.0.most;
  },
  points-more facts more (suc n) points h.1,
)

pub points-last : (facts : List Fact) (n : ℕ) (points : List Point) (p : Point) → ArePoints facts n points →
    IsPoint facts (n + length points) p → ArePoints facts n (points ++ p ∷ [])
points-last facts n [] p h i = let z : n + 0 ≡ n = omega arith in (subst (λ k. IsPoint facts k p) z i, tt)
points-last facts n (q ∷ points) p h i =
    let z : n + suc (length points) ≡ suc n + length points = omega arith in
    (h.0, points-last facts (suc n) points p h.1 (subst (λ k. IsPoint facts k p) z i))

value-last : (points : List Point) (p : Point) (w : ℕ → ℕ) →
    ((q : ℕ) → unsigned_abs (number_at (values_in points) q) ≤ w q) → unsigned_abs p.value ≤ w (length points) →
    (q : ℕ) → unsigned_abs (number_at (values_in (points ++ p ∷ [])) q) ≤ w q
value-last [] p w h k zero = k
value-last [] p w h k (suc q) = omega arith
value-last (x ∷ points) p w h k zero = h 0
value-last (x ∷ points) p w h k (suc q) =
    value-last points p (λ n. w (suc n)) (λ n. h (suc n)) k q

get-last : (fs : List Fact) (f : Fact) → slice_get (fs ++ f ∷ []) (length fs) ≡ Some f
get-last [] f = refl
get-last (g ∷ fs) f = get-last fs f

-- A branch that a chain closes after some rounds.
pub record LeafChain (count : ℕ) (old : List Fact) (k : ℕ) (nodes : List Node) : Type 0 where
  pub closes : Closes count old nodes
  pub short : length nodes ≤ k + 3
  pub cheap : units nodes ≤ k * (count + 2) + (count + 7)
  pub plain : list_all is_plain_node nodes ≡ true

pub closed-after : (count : ℕ) (old facts : List Fact) (rounds : List Node) (k : ℕ) → Chained count old facts rounds k →
    (ns : List Node) → ClosesShortly count facts ns → LeafChain count old k (rounds ++ ns)
closed-after count old facts rounds k c ns s =
    let few = c.few in let cheap = c.cheap in let short = s.short.rounds in let cost = s.short.cheap in
    let l = length-more rounds ns in let u = units-append rounds ns in
    record {
      closes = c.keeps ns s.closes;
      short = omega (arith, l, few, short);
      cheap = omega (arith, u, cheap, cost);
      plain = list_all-append is_plain_node rounds ns ∙ ap (λ t. t && list_all is_plain_node ns) c.plain
          ∙ s.short.plain;
    }

-- Where no fact is out of reach, all facts hold at the values.
abbrev range_at : Point → Range
range_at p = record { lo = p.value; hi = p.value }

has-numbered : (facts : List Fact) (n : ℕ) (f : Fact) → numbered facts n ≡ Some f → Has facts f
has-numbered facts zero f e = cc
has-numbered [] (suc n) f e = cc
has-numbered (g ∷ facts) (suc zero) f e = inl cc
has-numbered (g ∷ facts) (suc (suc n)) f e = inr (has-numbered facts (suc n) f e)

points-bounded : (facts : List Fact) (n : ℕ) (points : List Point) → ArePoints facts n points →
    AreBounded n (map range_at points) facts
points-bounded facts n [] h = tt
points-bounded facts n (p ∷ points) h = (
  has-numbered facts p.least (at_least n p.value) h.0.least,
  has-numbered facts p.most (at_most n p.value) h.0.most,
  points-bounded facts (suc n) points h.1,
)

int-le-refl : (z : ℤ) → int_le z z ≡ true
int-le-refl z = grind (arith, ints)

points-sound : (points : List Point) → ((q : ℕ) → unsigned_abs (number_at (values_in points) q) ≤ 2 ^ 62) →
    list_all is_sound_range (map range_at points) ≡ true
points-sound [] h = refl
points-sound (p ∷ points) h =
    let z : ℕ = unsigned_abs p.value in
    ap (λ t. (t && (nat_le z (2 ^ 62) && nat_le z (2 ^ 62))) && list_all is_sound_range (map range_at points))
    (int-le-refl p.value)
    ∙ ap (λ t. (t && nat_le z (2 ^ 62)) && list_all is_sound_range (map range_at points)) (le-true z (2 ^ 62) (h 0))
    ∙ ap (λ t. t && list_all is_sound_range (map range_at points)) (le-true z (2 ^ 62) (h 0))
    ∙ points-sound points (λ q. h (suc q))

points-fixed : (n : ℕ) (points : List Point) → first_cut n (map range_at points) ≡ None
points-fixed n [] = refl
points-fixed n (p ∷ points) =
    ap (λ t. cond t (first_cut (suc n) (map range_at points)) (Some (record { place = n; at = middle (range_at p) })))
    (int-le-refl p.value) ∙ points-fixed (suc n) points

points-values : (points : List Point) → map (λ (r : Range). r.lo) (map range_at points) ≡ values_in points
points-values [] = refl
points-values (p ∷ points) = ap (λ zs. p.value ∷ zs) (points-values points)

pub points-meet : (count : ℕ) (ws : List ℕ) → list_all is_weight ws ≡ true → (old facts : List Fact)
    (rounds : List Node) (k : ℕ) → Chained count old facts rounds k → (points : List Point) → Pointed ws facts points →
    length points ≡ count → some_out_of_reach facts ≡ false → list_all (fact_holds (values_in points)) old ≡ true
points-meet count ws limits old facts rounds k c points p long reach =
    let tame : (q : ℕ) → unsigned_abs (number_at (values_in points) q) ≤ 2 ^ 62 = λ q.
    (let a = p.within q in let b = weight-small ws limits q in omega (arith, a, b)) in
    let all = leaf-facts facts (map range_at points)
    (ap (λ n. are_exact n facts) (length-map range_at points ∙ long) ∙ c.exact) c.slender (points-sound points tame)
    (points-bounded facts 0 points p.are) reach (points-fixed 0 points) in
    let holds : Fact → Bool = fact_holds (values_in points) in
    let here : list_all holds facts ≡ true =
    ap (λ zs. list_all (fact_holds zs) facts) (sym (points-values points)) ∙ all in
    (and_parts (list_all holds old) (list_all holds c.more)
    (sym (ap (list_all holds) c.is ∙ list_all-append holds old c.more) ∙ here)).0

-- The two rounds of the next added variable.
module _ (count : ℕ) (ws : List ℕ) (limits : list_all is_weight ws ≡ true) (old : List Fact) (us : List Variable)
    (k : ℕ) (inside : length us < count) (l : Line) (m : ℕ) (i j : ℕ) (long : length l.factors ≡ length us)
    (low : slice_get old i ≡ Some (fact_with l (neg_ℤ (pos (suc m)))))
    (high : slice_get old j ≡ Some (fact_with (raised (negated us l) (pos (suc m) -ℤ pos 1)) (pos (suc m))))
    (weight : line_weight ws l ≤ suc m * weight_in ws (length us)) where
  abbrev pub turned : Line
  turned = raised (negated us l) (pos (suc m) -ℤ pos 1)

  pub turned-long : length turned.factors ≡ length us
  turned-long = length-plus (negsuc 0) (zeros us) l.factors ∙ length-zeros us

  module _ (facts : List Fact) (rounds : List Node) (points : List Point) (c : Chained count old facts rounds k)
      (pointed : Pointed ws facts points) (size : length points ≡ length us) where
    abbrev pub worth : ℤ
    worth = l.constant +ℤ sum_of (values_in points) (sparse 0 l.factors)

    abbrev pub value : ℤ
    value = int_div_euclid worth (pos (suc m))

    abbrev pub low-node : Node
    low-node = Node.Round (pos (suc m)) ((pos 1, suc i) ∷ map (pair_at points) (sparse 0 l.factors))

    abbrev pub high-node : Node
    high-node = Node.Round (pos (suc m)) ((pos 1, suc j) ∷ map (pair_at points) (sparse 0 turned.factors))

    worth-within : unsigned_abs worth ≤ suc m * weight_in ws (length us)
    worth-within =
        let w = sum-within ws (values_in points) pointed.within 0 l.factors in
        let a = abs-plus l.constant (sum_of (values_in points) (sparse 0 l.factors)) in
        omega (arith, w, a, weight)

    value-within : unsigned_abs value ≤ weight_in ws (length us)
    value-within = part-within worth m (weight_in ws (length us)) worth-within

    pub value-small : unsigned_abs value ≤ 2 ^ 62
    value-small =
        let a = value-within in let b = weight-small ws limits (length us) in omega (arith, a, b)

    abbrev pub facts1 : List Fact
    facts1 = facts ++ at_most (length us) value ∷ []

    first-round : Chained count old facts1 (rounds ++ low-node ∷ []) (suc k)
    first-round =
        subst (λ p. Chained count old (facts ++ at_most p value ∷ []) (rounds ++ low-node ∷ []) (suc k)) long
        (round-chained count ws limits old facts rounds k c points pointed l m (negsuc m) (negsuc 0) i low
        (long ∙ sym size) (subst (λ p. p < count) (sym long) inside) (unit-below m) refl value-small)

    abbrev pub facts2 : List Fact
    facts2 = facts1 ++ at_least (length us) value ∷ []

    pub other : int_div_euclid (turned.constant +ℤ sum_of (values_in points) (sparse 0 turned.factors)) (pos (suc m)) ≡
        neg_ℤ value
    other = part-turned worth (turned.constant +ℤ sum_of (values_in points) (sparse 0 turned.factors)) m
        (turned-sum us l (values_in points) m long)

    points-later : Pointed ws facts1 points
    points-later = record {
      are = points-more facts (at_most (length us) value ∷ []) 0 points pointed.are;
      within = pointed.within;
    }

    pub next-chained : Chained count old facts2 ((rounds ++ low-node ∷ []) ++ high-node ∷ []) (suc (suc k))
    next-chained =
        subst (λ p. Chained count old (facts1 ++ at_least p value ∷ []) ((rounds ++ low-node ∷ []) ++ high-node ∷ [])
        (suc (suc k))) turned-long
        (subst (λ z. Chained count old (facts1 ++ record {
          factors = (length turned.factors, pos 1) ∷ [];
          constant = z;
        } ∷ []) ((rounds ++ low-node ∷ []) ++ high-node ∷ []) (suc (suc k))) other
        (round-chained count ws limits old facts1 (rounds ++ low-node ∷ []) (suc k) first-round points points-later
        turned m (pos (suc m)) (pos 1) j high
        (turned-long ∙ sym size) (subst (λ p. p < count) (sym turned-long) inside) (unit-above m) refl
        (let n = ap unsigned_abs other in let a = abs-neg value in let v = value-small in omega (arith, n, a, v))))

    abbrev pub point : Point
    point = record { value = value; least = suc (suc (length facts)); most = suc (length facts) }

    pub next-pointed : Pointed ws facts2 (points ++ point ∷ [])
    next-pointed =
        let zero-plus : 0 + length points ≡ length us = omega (arith, size) in
        let n = length-more facts (at_most (length us) value ∷ []) in
        let two : suc (length facts) ≡ length facts1 = omega (arith, n) in
        record {
          are = points-last facts2 0 points point
              (points-more facts1 (at_least (length us) value ∷ []) 0 points points-later.are)
              (subst (λ v. IsPoint facts2 v point) (sym zero-plus) (record {
                least = ap (slice_get facts2) two ∙ get-last facts1 (at_least (length us) value);
                most = get-more facts1 (at_least (length us) value ∷ []) (length facts) (at_most (length us) value)
                    (get-last facts (at_most (length us) value));
              }));
          within = value-last points point (weight_in ws) pointed.within
              (subst (λ q. unsigned_abs value ≤ weight_in ws q) (sym size) value-within);
        }

-- The rounds of some of the added variables, and the points of all variables so far.
record Stage (count : ℕ) (ws : List ℕ) (old : List Fact) (n k : ℕ) : Type 0 where
  facts : List Fact
  rounds : List Node
  chained : Chained count old facts rounds k
  points : List Point
  long : length points ≡ n
  pointed : Pointed ws facts points

-- All added variables, one after the other.
pub no-rounds : (count : ℕ) (old : List Fact) → are_exact count old ≡ true → list_all is_slender old ≡ true →
    Chained count old old [] 0
no-rounds count old exact slender = record {
  more = [];
  is = sym (append-none old);
  exact = exact;
  slender = slender;
  keeps = λ ns h. h;
  few = refl;
  cheap = omega arith;
  plain = refl;
}

module _ (vs : List Variable) (count : ℕ) (ws : List ℕ) (limits : list_all is_weight ws ≡ true)
    (old : List Fact) (own : List Point) (long : length own ≡ length vs) (pointed : Pointed ws old own)
    (exact : are_exact count old ≡ true) (slender : list_all is_slender old ≡ true) where
  fix-one : (us : List Variable) (k : ℕ) → length us < count → (t : IsTaken ws us old) → (d : ℤ) →
      t.divisor ≡ d → pos 1 ≤ℤ d → Stage count ws old (length us) k → Stage count ws old (suc (length us)) (suc (suc k))
  fix-one us k inside t (pos zero) e h s = absurd (omega (arith, ints, h))
  fix-one us k inside t (pos (suc m)) e h s =
      let low = t.low ∙ ap (λ x. Some (fact_with t.line (neg_ℤ x))) e in
      let high = t.high ∙ ap (λ x. Some (fact_with (raised (negated us t.line) (x -ℤ pos 1)) x)) e in
      let weight : line_weight ws t.line ≤ suc m * weight_in ws (length us) =
      (let w = t.weight in let n = ap (λ x. unsigned_abs x * weight_in ws (length us)) e in omega (arith, w, n)) in
      let l = length-more s.points (point count ws limits old us k inside t.line m t.place (suc t.place) t.long low high
      weight s.facts s.rounds s.points s.chained s.pointed s.long ∷ []) in
      let n = s.long in
      record {
        facts = _;
        rounds = _;
        chained = next-chained count ws limits old us k inside t.line m t.place (suc t.place) t.long low high weight
            s.facts s.rounds s.points s.chained s.pointed s.long;
        points = _;
        long = omega (arith, l, n);
        pointed = next-pointed count ws limits old us k inside t.line m t.place (suc t.place) t.long low high weight
            s.facts s.rounds s.points s.chained s.pointed s.long;
      }
  fix-one us k inside t (negsuc m) e h s = absurd (omega (arith, ints, h))

  fix-all : (n : ℕ) → length vs + n ≤ count → AreTaken ws vs n old → Stage count ws old (length vs + n) (2 * n)
  fix-all zero h t =
      let z : length vs ≡ length vs + 0 = omega arith in
      subst (λ p. Stage count ws old p 0) z (record {
        facts = old;
        rounds = [];
        chained = no-rounds count old exact slender;
        points = own;
        long = long;
        pointed = pointed;
      })
  fix-all (suc n) h t =
      let w = scope-length vs n in
      let z : suc (length (scope vs n)) ≡ length vs + suc n = omega (arith, w) in
      let k : suc (suc (2 * n)) ≡ 2 * suc n = omega arith in
      subst (λ q. Stage count ws old (length vs + suc n) q) k
      (subst (λ p. Stage count ws old p (suc (suc (2 * n)))) z
      (fix-one (scope vs n) (2 * n) (omega (arith, w, h)) t.1 t.1.divisor refl t.1.positive
      (subst (λ p. Stage count ws old p (2 * n)) (sym w) (fix-all n (omega (arith, h)) t.0))))

-- The obligation's own variables.
record Own (facts : List Fact) (n : ℕ) (rs : List Range) : Type 0 where
  points : List Point
  are : ArePoints facts n points
  values : values_in points ≡ map (λ (r : Range). r.lo) rs

has-number : (facts : List Fact) (f : Fact) → Has facts f → (n : ℕ) × (numbered facts n ≡ Some f)
has-number [] f h = absurd h
has-number (g ∷ facts) f (inl e) = (1, ap Some e)
has-number (g ∷ facts) f (inr h) = next (has-number facts f h)
  where
    next : (n : ℕ) × (numbered facts n ≡ Some f) → (n : ℕ) × (numbered (g ∷ facts) n ≡ Some f)
    next (zero, e) = cc
    next (suc n, e) = (suc (suc n), e)

own-points : (facts : List Fact) (n m : ℕ) (rs : List Range) → AreBounded n rs facts →
    list_all is_sound_range rs ≡ true → first_cut m rs ≡ None → Own facts n rs
own-points facts n m [] b s e = record { points = []; are = tt; values = refl }
own-points facts n m (r ∷ rs) b s e =
    let one = one-value r rs m s e in
    let low = has-number facts (at_least n r.lo) b.0 in
    let high = has-number facts (at_most n r.lo) (subst (λ z. Has facts (at_most n z)) one.0 b.1) in
    let sounds = and_parts (is_sound_range r) (list_all is_sound_range rs) s in
    let rest = own-points facts (suc n) (suc m) rs b.2 sounds.1 one.1 in
    record {
      points = record { value = r.lo; least = low.0; most = high.0 } ∷ rest.points;
      are = (record { least = low.1; most = high.1 }, rest.are);
      values = ap (λ zs. r.lo ∷ zs) rest.values;
    }

-- What a leaf comes to: a chain closes it after rounds, or all its facts hold at values of all variables.
pub data LeafEnds (count : ℕ) (old : List Fact) (k : ℕ) : Type 0 where
  closes_leaf : (nodes : List Node) → LeafChain count old k nodes → LeafEnds count old k
  meets_leaf : (values : List ℤ) → length values ≡ count → list_all (fact_holds values) old ≡ true →
      LeafEnds count old k

pub leaf-outcome : (vs : List Variable) (rs : List Range) (n : ℕ) (ws : List ℕ) → list_all is_weight ws ≡ true →
    (old : List Fact) → length rs ≡ length vs → AreBounded 0 rs old → list_all is_sound_range rs ≡ true →
    first_cut 0 rs ≡ None → are_ranges_within ws 0 rs ≡ true →
    are_exact (length vs + n) old ≡ true → list_all is_slender old ≡ true →
    ((facts : List Fact) → are_exact (length vs + n) facts ≡ true → some_out_of_reach facts ≡ true →
    (ns : List Node) × ClosesShortly (length vs + n) facts ns) → AreTaken ws vs n old →
    LeafEnds (length vs + n) old (2 * n)
leaf-outcome vs rs n ws limits old long bounded sound fixed within exact slender reached taken =
    let own = own-points old 0 0 rs bounded sound fixed in
    let a = ap (λ (zs : List ℤ). length zs) own.values in
    let b = length-map (λ (p : Point). p.value) own.points in let c = length-map (λ (r : Range). r.lo) rs in
    let zero-plus : (p : ℕ) → 0 + p ≡ p = λ p. omega arith in
    ended (fix-all vs count ws limits old own.points (omega (arith, a, b, c, long)) (record {
      are = own.are;
      within = λ p. subst (λ zs. unsigned_abs (number_at zs p) ≤ weight_in ws p) (sym own.values)
          (subst (λ q. unsigned_abs (number_at (map (λ (r : Range). r.lo) rs) p) ≤ weight_in ws q) (zero-plus p)
          (low-within ws 0 rs within p));
    }) exact slender n (le_refl count) taken)
  where
    count : ℕ
    count = length vs + n

    by_reach : (s : Stage count ws old count (2 * n)) → (t : Bool) → some_out_of_reach s.facts ≡ t →
        LeafEnds count old (2 * n)
    by_reach s true e =
        let r = reached s.facts s.chained.exact e in
        closes_leaf (s.rounds ++ r.0) (closed-after count old s.facts s.rounds (2 * n) s.chained r.0 r.1)
    by_reach s false e =
        meets_leaf (values_in s.points) (length-map (λ (p : Point). p.value) s.points ∙ s.long)
        (points-meet count ws limits old s.facts s.rounds (2 * n) s.chained s.points s.pointed s.long e)

    ended : Stage count ws old count (2 * n) → LeafEnds count old (2 * n)
    ended s = by_reach s (some_out_of_reach s.facts) refl
