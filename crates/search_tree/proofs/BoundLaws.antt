-- Facts that bound one variable, as the code finds them.
use Rattle.std.proofs.Common.{◌≡◌, ℕ, zero, suc, ◌+◌, ◌≤◌, ◌<◌, ℤ, Bool, true, false, Some, None, inl, inr}
use Rattle.std.proofs.Common.{nat_le, pos, negsuc, ◌++◌, map, take}
use Rattle.std.specs.List.{list_all}
use Rattle.std.proofs.lemmas.Bool.{and_parts}
use Rattle.core_terms.specs.declared.trees.Range.{Range}
use Rattle.std.proofs.Common.{List, [], ◌∷◌, length, drop, get_or, slice_get, arith, refl, sym, ap, subst, ◌∙◌}
use Rattle.obligations.specs.declared.branches.Fact.{Fact}
use Rattle.certificate_rules.specs.Sums.{numbered}
use Rattle.linear_prover.specs.Chains.{is_plain_number, is_plain_factor}
use Rattle.obligations.specs.Obligations.{is_sound_range}
use Rattle.obligations.specs.Opening.{at_least, at_most}
use Rattle.obligations.specs.Plain.{first_cut}
use Rattle.obligations.specs.Reach.{is_within}
use Rattle.search_tree.specs.declared.points.Point.{Point}
use Rattle.search_tree.specs.Points.{values_in, pair_at, IsPoint, ArePoints, ends_in, IsFirst, front, last_size}
use Rattle.search_tree.specs.Points.{worth_at, quotient_at, IsReadable}
use Rattle.search_tree.specs.Searching.{Has, AreBounded, widths, is_slender}
use Rattle.search_tree.proofs.LeafLaws.{one-value, Slight, slender-at}
use Rattle.search_tree.proofs.PointLaws.{points-last}
use Rattle.search_tree.proofs.SlenderLaws.{abs-plus}
use Rattle.search_tree.proofs.ValueLaws.{sum-next}
use Rattle.core_terms.specs.Values.{number_at}
use Rattle.obligations.specs.LinearForms.{sum_of}
use Rattle.std.specs.Int.RustNames.{unsigned_abs}
use Rattle.std.proofs.lemmas.Int.{ints, unsigned_abs-mul, to_z-of_z}
use Rattle.std.proofs.Common.{FitsSigned, to_z, of_z}
use mir.Syntax.{w128}
use Rattle.std.proofs.Common.{◌*◌, ◌-◌, ◌^◌, ◌+ℤ◌, ◌*ℤ◌, ◌≤ℤ◌, ◌&&◌, nat_eq, mul-le-mul, le_refl}
use Rattle.std.specs.Int.{int_div_euclid}

pub gt-is : (a b : ℕ) → nat_le a b ≡ false → b < a
gt-is a b h = grind arith

le-is : (a b : ℕ) → nat_le a b ≡ true → a ≤ b
le-is a b h = grind arith

pub one-factor : (f : Fact) (v : ℕ) (s c : ℤ) (g : ℕ × ℤ) → f.factors ≡ g ∷ [] → g.0 ≡ v → g.1 ≡ s → f.constant ≡ c →
    f ≡ record { factors = (v, s) ∷ []; constant = c }
one-factor f v s c g e p q r =
    ap (λ fs. record { factors = fs; constant = f.constant }) e
    ∙ ap (λ z. record { factors = (z, g.1) ∷ []; constant = f.constant }) p
    ∙ ap (λ z. record { factors = (v, z) ∷ []; constant = f.constant }) q
    ∙ ap (λ z. record { factors = (v, s) ∷ []; constant = z }) r

pub ruleset is_bound_laws = one-factor

pub has-next : (facts : List Fact) (i : ℕ) (d f : Fact) → i < length facts → Has (drop i facts) f →
    (get_or facts i d ≡ f → ⊥) → Has (drop (i + 1) facts) f
has-next [] i d f h k n = absurd (omega arith)
has-next (g ∷ facts) zero d f h (inl e) n = absurd (n e)
has-next (g ∷ facts) zero d f h (inr k) n =
    let one : 1 ≡ 0 + 1 = omega arith in subst (λ j. Has (drop j (g ∷ facts)) f) one k
has-next (g ∷ facts) (suc i) d f h k n =
    let one : suc (i + 1) ≡ suc i + 1 = omega arith in
    subst (λ j. Has (drop j (g ∷ facts)) f) one (has-next facts i d f (omega (arith, h)) k n)

pub has-end : (facts : List Fact) (i : ℕ) (f : Fact) → length facts ≤ i → Has (drop i facts) f → ⊥
has-end [] zero f h k = k
has-end [] (suc i) f h k = k
has-end (g ∷ facts) zero f h k = absurd (omega arith)
has-end (g ∷ facts) (suc i) f h k = has-end facts i f (omega (arith, h)) k

pub numbered-here : (facts : List Fact) (i n : ℕ) (d f : Fact) → i < length facts → get_or facts i d ≡ f →
    n ≡ i + 1 → numbered facts n ≡ Some f
numbered-here facts i n d f h e q =
    let one : n ≡ suc i = omega (arith, q) in
    ap (numbered facts) one ∙ here facts i d f h e
  where
    here : (facts : List Fact) (i : ℕ) (d f : Fact) → i < length facts → get_or facts i d ≡ f → slice_get facts i ≡
        Some f
    here [] i d f h e = absurd (omega arith)
    here (g ∷ facts) zero d f h e = ap Some e
    here (g ∷ facts) (suc i) d f h e = here facts i d f (omega (arith, h)) e

pub ruleset bound_laws = (has-next, has-end, numbered-here)

-- Points, one after the other.
pub own-facts : (facts : List Fact) (rs : List Range) (n m i : ℕ) (d : Range) → AreBounded n rs facts →
    list_all is_sound_range rs ≡ true → first_cut m rs ≡ None → i < length rs →
    Has facts (at_least (n + i) (get_or rs i d).lo) × Has facts (at_most (n + i) (get_or rs i d).lo)
own-facts facts [] n m i d b s e h = absurd (omega arith)
own-facts facts (r ∷ rs) n m zero d b s e h =
    let one = one-value r rs m s e in let z : n ≡ n + 0 = omega arith in (
      subst (λ k. Has facts (at_least k r.lo)) z b.0,
      subst (λ k. Has facts (at_most k r.lo)) z (subst (λ x. Has facts (at_most n x)) one.0 b.1),
    )
own-facts facts (r ∷ rs) n m (suc i) d b s e h =
    let one = one-value r rs m s e in let z : suc n + i ≡ n + suc i = omega arith in
    let k = own-facts facts rs (suc n) (suc m) i d b.2 (and_parts (is_sound_range r) (list_all is_sound_range rs) s).1
    one.1 (omega (arith, h)) in (
      subst (λ j. Has facts (at_least j (get_or rs i d).lo)) z k.0,
      subst (λ j. Has facts (at_most j (get_or rs i d).lo)) z k.1,
    )

pub own-least : (facts : List Fact) (rs : List Range) (i : ℕ) (d : Range) → AreBounded 0 rs facts →
    list_all is_sound_range rs ≡ true → first_cut 0 rs ≡ None → i < length rs →
    Has facts (at_least i (get_or rs i d).lo)
own-least facts rs i d b s e h =
    let z : 0 + i ≡ i = omega arith in
    subst (λ k. Has facts (at_least k (get_or rs i d).lo)) z (own-facts facts rs 0 0 i d b s e h).0

pub own-most : (facts : List Fact) (rs : List Range) (i : ℕ) (d : Range) → AreBounded 0 rs facts →
    list_all is_sound_range rs ≡ true → first_cut 0 rs ≡ None → i < length rs →
    Has facts (at_most i (get_or rs i d).lo)
own-most facts rs i d b s e h =
    let z : 0 + i ≡ i = omega arith in
    subst (λ k. Has facts (at_most k (get_or rs i d).lo)) z (own-facts facts rs 0 0 i d b s e h).1

pub points-next : (facts : List Fact) (old new : List Point) (p : Point) (i : ℕ) → new ≡ old ++ p ∷ [] →
    ArePoints facts 0 old → length old ≡ i → IsPoint facts i p → ArePoints facts 0 new
points-next facts old new p i e h l is =
    let z : i ≡ 0 + length old = omega (arith, l) in
    subst (ArePoints facts 0) (sym e) (points-last facts 0 old p h (subst (λ k. IsPoint facts k p) z is))

pub long-next : (old new : List Point) (p : Point) (i : ℕ) → new ≡ old ++ p ∷ [] → length old ≡ i → length new ≡ i + 1
long-next old new p i e l = ap (λ (ps : List Point). length ps) e ∙ last old ∙ omega (arith, l)
  where
    last : (ps : List Point) → length (ps ++ p ∷ []) ≡ length ps + 1
    last [] = refl
    last (q ∷ ps) = let ih = last ps in omega (arith, ih)

take-get : {A : Type 0} (xs : List A) (i : ℕ) (d : A) → i < length xs →
    take (i + 1) xs ≡ take i xs ++ get_or xs i d ∷ []
take-get [] i d h = absurd (omega arith)
take-get (x ∷ xs) zero d h = let one : 0 + 1 ≡ 1 = omega arith in ap (λ k. take k (x ∷ xs)) one
take-get (x ∷ xs) (suc i) d h =
    let one : suc i + 1 ≡ suc (i + 1) = omega arith in
    ap (λ k. take k (x ∷ xs)) one ∙ ap (λ ys. x ∷ ys) (take-get xs i d (omega (arith, h)))

map-last : {A B : Type 0} (h : A → B) (xs : List A) (x : A) → map h (xs ++ x ∷ []) ≡ map h xs ++ h x ∷ []
map-last h [] x = refl
map-last h (y ∷ xs) x = ap (λ ys. h y ∷ ys) (map-last h xs x)

pub values-next : (old new : List Point) (p : Point) (rs : List Range) (i : ℕ) (d : Range) → new ≡ old ++ p ∷ [] →
    values_in old ≡ map (λ (r : Range). r.lo) (take i rs) → i < length rs → p.value ≡ (get_or rs i d).lo →
    values_in new ≡ map (λ (r : Range). r.lo) (take (i + 1) rs)
values-next old new p rs i d e h l v =
    ap values_in e ∙ map-last (λ (q : Point). q.value) old p ∙ ap (λ zs. zs ++ p.value ∷ []) h
    ∙ ap (λ z. map (λ (r : Range). r.lo) (take i rs) ++ z ∷ []) v
    ∙ sym (ap (map (λ (r : Range). r.lo)) (take-get rs i d l) ∙ map-last (λ (r : Range). r.lo) (take i rs)
    (get_or rs i d))

pub take-all : {A : Type 0} (xs : List A) (i : ℕ) → length xs ≤ i → take i xs ≡ xs
take-all [] zero h = refl
take-all [] (suc i) h = refl
take-all (x ∷ xs) zero h = absurd (omega arith)
take-all (x ∷ xs) (suc i) h = ap (λ ys. x ∷ ys) (take-all xs i (omega (arith, h)))

pub values-all : (zs : List ℤ) (rs : List Range) (i : ℕ) → length rs ≤ i →
    zs ≡ map (λ (r : Range). r.lo) (take i rs) → zs ≡ map (λ (r : Range). r.lo) rs
values-all zs rs i h e = e ∙ ap (map (λ (r : Range). r.lo)) (take-all rs i h)

pub ruleset points_laws = (own-least, own-most, points-next, values-next, values-all)

-- Factors of a list.
pub factor-known : (n : ℕ) (fs : List (ℕ × ℤ)) (i : ℕ) (d : ℕ × ℤ) → is_within n fs ≡ true → i < length fs →
    (get_or fs i d).0 < n
factor-known n [] i d w h = absurd (omega arith)
factor-known n (f ∷ fs) zero d w h =
    let a = and_parts (nat_le (suc f.0) n) (is_within n fs) w in let b = le-is (suc f.0) n a.0 in omega (arith, b)
factor-known n (f ∷ fs) (suc i) d w h =
    factor-known n fs i d (and_parts (nat_le (suc f.0) n) (is_within n fs) w).1 (omega (arith, h))

pub factor-plain : (fs : List (ℕ × ℤ)) (i : ℕ) (d : ℕ × ℤ) → list_all is_plain_factor fs ≡ true → i < length fs →
    is_plain_number (get_or fs i d).1 ≡ true
factor-plain [] i d w h = absurd (omega arith)
factor-plain (f ∷ fs) zero d w h = (and_parts (is_plain_factor f) (list_all is_plain_factor fs) w).0
factor-plain (f ∷ fs) (suc i) d w h =
    factor-plain fs i d (and_parts (is_plain_factor f) (list_all is_plain_factor fs) w).1 (omega (arith, h))

pub pairs-next : (points : List Point) (fs : List (ℕ × ℤ)) (i n : ℕ) (d : ℕ × ℤ) (old new : List (ℤ × ℕ)) (p : ℤ × ℕ) →
    old ≡ (pos 1, n) ∷ map (pair_at points) (take i fs) → new ≡ old ++ p ∷ [] → i < length fs →
    p ≡ pair_at points (get_or fs i d) → new ≡ (pos 1, n) ∷ map (pair_at points) (take (i + 1) fs)
pairs-next points fs i n d old new p e q h s =
    q ∙ ap (λ ps. ps ++ p ∷ []) e ∙ ap (λ x. ((pos 1, n) ∷ map (pair_at points) (take i fs)) ++ x ∷ []) s
    ∙ ap (λ ps. (pos 1, n) ∷ ps) (sym (ap (map (pair_at points)) (take-get fs i d h)
    ∙ map-last (pair_at points) (take i fs) (get_or fs i d)))

pub pairs-all : (points : List Point) (fs : List (ℕ × ℤ)) (i n : ℕ) (ps : List (ℤ × ℕ)) → length fs ≤ i →
    ps ≡ (pos 1, n) ∷ map (pair_at points) (take i fs) → ps ≡ (pos 1, n) ∷ map (pair_at points) fs
pairs-all points fs i n ps h e = e ∙ ap (λ gs. (pos 1, n) ∷ map (pair_at points) gs) (take-all fs i h)

pub ruleset round_laws = (factor-known, factor-plain, pairs-next, pairs-all)

-- Sums of factors times values.
pub value-at : (points : List Point) (v : ℕ) (d : Point) → v < length points → number_at (values_in points) v ≡
    (get_or points v d).value
value-at [] v d h = absurd (omega arith)
value-at (p ∷ points) zero d h = refl
value-at (p ∷ points) (suc v) d h = value-at points v d (omega (arith, h))

pub factor-size : (fs : List (ℕ × ℤ)) (i : ℕ) (d : ℕ × ℤ) → i < length fs → unsigned_abs (get_or fs i d).1 ≤ widths fs
factor-size [] i d h = absurd (omega arith)
factor-size (f ∷ fs) zero d h = omega arith
factor-size (f ∷ fs) (suc i) d h = let ih = factor-size fs i d (omega (arith, h)) in omega (arith, ih)

sum-size : (values : List ℤ) → ((p : ℕ) → unsigned_abs (number_at values p) ≤ 2 ^ 62) → (fs : List (ℕ × ℤ)) →
    unsigned_abs (sum_of values fs) ≤ widths fs * 2 ^ 62
sum-size values tame [] = omega arith
sum-size values tame (f ∷ fs) =
    let a = abs-plus (f.1 *ℤ number_at values f.0) (sum_of values fs) in
    let m = unsigned_abs-mul f.1 (number_at values f.0) in
    let k = mul-le-mul (le_refl (unsigned_abs f.1)) (tame f.0) in
    let ih = sum-size values tame fs in
    omega (arith, a, m, k, ih)

widths-drop : (fs : List (ℕ × ℤ)) (i : ℕ) → widths (drop i fs) ≤ widths fs
widths-drop [] zero = omega arith
widths-drop [] (suc i) = omega arith
widths-drop (f ∷ fs) zero = omega arith
widths-drop (f ∷ fs) (suc i) = let ih = widths-drop fs i in omega (arith, ih)

sum-small : (values : List ℤ) → ((p : ℕ) → unsigned_abs (number_at values p) ≤ 2 ^ 62) → (fs : List (ℕ × ℤ)) (i : ℕ) →
    widths fs ≤ 2 ^ 63 → unsigned_abs (sum_of values (drop i fs)) ≤ 2 ^ 125
sum-small values tame fs i w =
    let a = sum-size values tame (drop i fs) in let b = widths-drop fs i in
    let most : widths (drop i fs) ≤ 2 ^ 63 = omega (arith, b, w) in
    let c : widths (drop i fs) * 2 ^ 62 ≤ 2 ^ 63 * 2 ^ 62 = mul-le-mul most (le_refl (2 ^ 62)) in
    omega (arith, a, c)

pub product-small : (a v : ℤ) → unsigned_abs a ≤ 2 ^ 63 → unsigned_abs v ≤ 2 ^ 62 → unsigned_abs (a *ℤ v) ≤ 2 ^ 125
product-small a v h k =
    let m = unsigned_abs-mul a v in let b : unsigned_abs a * unsigned_abs v ≤ 2 ^ 63 * 2 ^ 62 = mul-le-mul h k in
    omega (arith, m, b)

pub total-small : (points : List Point) (fs : List (ℕ × ℤ)) (i : ℕ) (sum : ℤ) →
    ((p : ℕ) → unsigned_abs (number_at (values_in points) p) ≤ 2 ^ 62) → widths fs ≤ 2 ^ 63 →
    sum ≡ sum_of (values_in points) (drop i fs) → unsigned_abs sum ≤ 2 ^ 125
total-small points fs i sum tame w e =
    let a = sum-small (values_in points) tame fs i w in let b = ap unsigned_abs e in omega (arith, a, b)

pub same-sum : (z : ℤ) → unsigned_abs z ≤ 2 ^ 125 → to_z w128 (of_z w128 z) ≡ z
same-sum z h = let fits : FitsSigned w128 z = small-fits z h in to_z-of_z w128 z fits
  where
    small-fits : (z : ℤ) → unsigned_abs z ≤ 2 ^ 125 → FitsSigned w128 z
    small-fits (pos n) h = record { sfits = omega (arith, h) }
    small-fits (negsuc n) h = record { sfits = omega (arith, h) }

pub sum-more : (values : List ℤ) (fs : List (ℕ × ℤ)) (left : ℕ) (d : ℕ × ℤ) (sum same next : ℤ) → 0 < left →
    left ≤ length fs → sum ≡ sum_of values (drop left fs) →
    next ≡ (get_or fs (left - 1) d).1 *ℤ number_at values (get_or fs (left - 1) d).0 +ℤ same → sum ≡ same →
    next ≡ sum_of values (drop (left - 1) fs)
sum-more values fs left d sum same next h k e n q =
    sum-next values fs left d same next h k (sym q ∙ e) n

pub factor-wide : (fs : List (ℕ × ℤ)) (i : ℕ) (d : ℕ × ℤ) → i < length fs → widths fs ≤ 2 ^ 63 →
    unsigned_abs (get_or fs i d).1 ≤ 2 ^ 63
factor-wide fs i d h w = let a = factor-size fs i d h in omega (arith, a, w)

pub none-left : (values : List ℤ) (fs : List (ℕ × ℤ)) (i : ℕ) → length fs ≤ i → pos 0 ≡ sum_of values (drop i fs)
none-left values [] zero h = refl
none-left values [] (suc i) h = refl
none-left values (f ∷ fs) zero h = absurd (omega arith)
none-left values (f ∷ fs) (suc i) h = none-left values fs i (omega (arith, h))

pub all-left : (values : List ℤ) (fs : List (ℕ × ℤ)) (i : ℕ) (sum : ℤ) → i ≤ 0 → sum ≡ sum_of values (drop i fs) →
    sum ≡ sum_of values fs
all-left values fs zero sum h e = e
all-left values fs (suc i) sum h e = absurd (omega arith)

pub ruleset total_laws = (factor-known, factor-wide, total-small, none-left, all-left)

pub ruleset value_laws = value-at

pub ruleset product_laws = product-small

-- The last factor of a fact.
pub last-plain : (fs : List (ℕ × ℤ)) (d : ℕ × ℤ) → list_all is_plain_factor fs ≡ true → 0 < length fs →
    is_plain_number (get_or fs (length fs - 1) d).1 ≡ true
last-plain fs d w h = factor-plain fs (length fs - 1) d w (omega (arith, h))

pub last-is : (fs : List (ℕ × ℤ)) (d : ℕ × ℤ) → 0 < length fs →
    unsigned_abs (get_or fs (length fs - 1) d).1 ≡ last_size fs
last-is [] d h = absurd (omega arith)
last-is (f ∷ []) d h = let z : 1 - 1 ≡ 0 = omega arith in ap (λ i. unsigned_abs (get_or (f ∷ []) i d).1) z
last-is (f ∷ g ∷ fs) d h =
    let z : suc (suc (length fs)) - 1 ≡ suc (suc (length fs) - 1) = omega arith in
    ap (λ i. unsigned_abs (get_or (f ∷ g ∷ fs) i d).1) z ∙ last-is (g ∷ fs) d (omega arith)

pub ruleset size_laws = (last-plain, last-is)

-- What can be read from a fact.
pub size-some : (fs : List (ℕ × ℤ)) → 0 < last_size fs → 0 < length fs
size-some [] h = h
size-some (f ∷ fs) h = omega arith

pub read-some : (points : List Point) (f : Fact) → IsReadable points f → 0 < length f.factors
read-some points f r = size-some f.factors r.some

front-plain : (fs : List (ℕ × ℤ)) (i : ℕ) → list_all is_plain_factor fs ≡ true →
    list_all is_plain_factor (take i fs) ≡ true
front-plain fs zero h = refl
front-plain [] (suc i) h = refl
front-plain (f ∷ fs) (suc i) h =
    let a = and_parts (is_plain_factor f) (list_all is_plain_factor fs) h in
    ap (λ t. t && list_all is_plain_factor (take i fs)) a.0 ∙ front-plain fs i a.1

front-widths : (fs : List (ℕ × ℤ)) (i : ℕ) → widths (take i fs) ≤ widths fs
front-widths fs zero = omega arith
front-widths [] (suc i) = omega arith
front-widths (f ∷ fs) (suc i) = let ih = front-widths fs i in omega (arith, ih)

slight : (f : Fact) → is_slender f ≡ true → Slight f
slight f e = slender-at (f ∷ []) 0 f (ap (λ t. t && true) e) refl

pub read-all-plain : (points : List Point) (f : Fact) → IsReadable points f → list_all is_plain_factor f.factors ≡ true
read-all-plain points f r = (slight f r.slender).0

pub read-plain : (points : List Point) (f : Fact) → IsReadable points f →
    list_all is_plain_factor (front f.factors) ≡ true
read-plain points f r = front-plain f.factors (length f.factors - 1) (slight f r.slender).0

pub read-wide : (points : List Point) (f : Fact) → IsReadable points f → widths (front f.factors) ≤ 2 ^ 63
read-wide points f r =
    let a = front-widths f.factors (length f.factors - 1) in let b = (slight f r.slender).1 in omega (arith, a, b)

pub read-constant : (points : List Point) (f : Fact) → IsReadable points f → unsigned_abs f.constant ≤ 2 ^ 64
read-constant points f r = (slight f r.slender).2

pub sum-fits : (a b : ℤ) → unsigned_abs a ≤ 2 ^ 64 → unsigned_abs b ≤ 2 ^ 125 → unsigned_abs (a +ℤ b) ≤ 2 ^ 126
sum-fits a b h k = let s = abs-plus a b in omega (arith, s, h, k)

pub ruleset worth_laws = (read-some, read-wide, read-constant, sum-fits)

pub read-divisor : (points : List Point) (f : Fact) (d : ℤ) → IsReadable points f → d ≡ pos (last_size f.factors) →
    pos 1 ≤ℤ d
read-divisor points f d r e =
    let some = r.some in let one : 1 ≤ last_size f.factors = omega (arith, some) in
    subst (λ z. pos 1 ≤ℤ z) (sym e) (at_least_one (last_size f.factors) one)
  where
    at_least_one : (n : ℕ) → 1 ≤ n → pos 1 ≤ℤ pos n
    at_least_one n h = omega (arith, ints, h)

pub read-quotient : (points : List Point) (f : Fact) (d w : ℤ) → IsReadable points f →
    d ≡ pos (last_size f.factors) → w ≡ worth_at points f → unsigned_abs (int_div_euclid w d) ≤ 2 ^ 62
read-quotient points f d w r e q =
    subst (λ z. unsigned_abs z ≤ 2 ^ 62)
    (sym (ap (λ z. int_div_euclid z d) q ∙ ap (int_div_euclid (worth_at points f)) e)) r.small

pub quotient-is : (points : List Point) (f : Fact) (d w : ℤ) →
    d ≡ pos (last_size f.factors) → w ≡ worth_at points f → int_div_euclid w d ≡ quotient_at points f
quotient-is points f d w e q = ap (λ z. int_div_euclid z d) q ∙ ap (int_div_euclid (worth_at points f)) e

pub ruleset quotient_laws = (read-some, read-all-plain, read-divisor, read-quotient, quotient-is)

pub ruleset rounded_laws = (read-some, read-all-plain, read-plain)

pub ends-some : (v : ℕ) (fs : List (ℕ × ℤ)) (d : ℕ × ℤ) → 0 < length fs →
    nat_eq (get_or fs (length fs - 1) d).0 v ≡ ends_in v fs
ends-some v [] d h = absurd (omega arith)
ends-some v (f ∷ []) d h = let z : 1 - 1 ≡ 0 = omega arith in ap (λ i. nat_eq (get_or (f ∷ []) i d).0 v) z
ends-some v (f ∷ g ∷ fs) d h =
    let z : suc (suc (length fs)) - 1 ≡ suc (suc (length fs) - 1) = omega arith in
    ap (λ i. nat_eq (get_or (f ∷ g ∷ fs) i d).0 v) z ∙ ends-some v (g ∷ fs) d (omega arith)

pub ends-none : (v : ℕ) (fs : List (ℕ × ℤ)) → length fs ≤ 0 → ends_in v fs ≡ false
ends-none v [] h = refl
ends-none v (f ∷ fs) h = absurd (omega arith)

pub ruleset last_laws = (ends-some, ends-none)

within-ends : (v : ℕ) (fs : List (ℕ × ℤ)) → is_within v fs ≡ true → ends_in v fs ≡ false
within-ends v [] h = refl
within-ends v (f ∷ []) h =
    let a = and_parts (nat_le (suc f.0) v) true h in let b = le-is (suc f.0) v a.0 in apart f.0 v (omega (arith, b))
  where
    apart : (a b : ℕ) → a < b → nat_eq a b ≡ false
    apart a b h = grind arith
within-ends v (f ∷ g ∷ fs) h =
    within-ends v (g ∷ fs) (and_parts (nat_le (suc f.0) v) (is_within v (g ∷ fs)) h).1

pub before-ends : (v i : ℕ) (facts : List Fact) (index : ℕ) (d : Fact) →
    list_all (λ (f : Fact). is_within v f.factors) (take i facts) ≡ true → index < i → index < length facts →
    ends_in v (get_or facts index d).factors ≡ false
before-ends v i [] index d h k l = absurd (omega arith)
before-ends v zero (f ∷ facts) index d h k l = absurd (omega (arith, k))
before-ends v (suc i) (f ∷ facts) zero d h k l =
    within-ends v f.factors (and_parts (is_within v f.factors)
    (list_all (λ (g : Fact). is_within v g.factors) (take i facts)) h).0
before-ends v (suc i) (f ∷ facts) (suc index) d h k l =
    before-ends v i facts index d (and_parts (is_within v f.factors)
    (list_all (λ (g : Fact). is_within v g.factors) (take i facts)) h).1 (omega (arith, k)) (omega (arith, l))

pub get-inside : (facts : List Fact) (i : ℕ) (f : Fact) → slice_get facts i ≡ Some f → i < length facts
get-inside [] i f e = cc
get-inside (g ∷ facts) zero f e = omega arith
get-inside (g ∷ facts) (suc i) f e = let h = get-inside facts i f e in omega (arith, h)

pub get-same : (facts : List Fact) (i : ℕ) (f d : Fact) → slice_get facts i ≡ Some f → get_or facts i d ≡ f
get-same [] i f d e = cc
get-same (g ∷ facts) zero f d e = cc
get-same (g ∷ facts) (suc i) f d e = get-same facts i f d e

pub first-start : (facts : List Fact) (v : ℕ) → ((i : ℕ) × IsFirst facts v i) →
    (i : ℕ) × IsFirst facts v i × (0 ≤ i)
first-start facts v f = (f.0, f.1, omega arith)

pub first-here : (facts : List Fact) (v index : ℕ) (d : Fact) → ((i : ℕ) × IsFirst facts v i × (index ≤ i)) →
    index < length facts → ends_in v (get_or facts index d).factors ≡ true → IsFirst facts v index
first-here facts v index d f h e = by_place (nat_le (suc index) f.0) refl
  where
    by_place : (t : Bool) → nat_le (suc index) f.0 ≡ t → IsFirst facts v index
    by_place true q =
        let a = le-is (suc index) f.0 q in
        let b = before-ends v f.0 facts index d f.1.before (omega (arith, a)) h in absurd cc
    by_place false q =
        let a = f.2 in let b = gt-is (suc index) f.0 q in
        let same : f.0 ≡ index = omega (arith, a, b) in subst (IsFirst facts v) same f.1

pub first-next : (facts : List Fact) (v index : ℕ) (d : Fact) → ((i : ℕ) × IsFirst facts v i × (index ≤ i)) →
    index < length facts → ends_in v (get_or facts index d).factors ≡ false →
    (i : ℕ) × IsFirst facts v i × (index + 1 ≤ i)
first-next facts v index d f h e = by_place (nat_le (suc index) f.0) refl
  where
    by_place : (t : Bool) → nat_le (suc index) f.0 ≡ t → (i : ℕ) × IsFirst facts v i × (index + 1 ≤ i)
    by_place true q = let a = le-is (suc index) f.0 q in (f.0, f.1, omega (arith, a))
    by_place false q =
        let a = f.2 in let b = gt-is (suc index) f.0 q in
        let same : f.0 ≡ index = omega (arith, a, b) in
        let here = get-same facts index f.1.fact d (ap (slice_get facts) (sym same) ∙ f.1.there) in
        let ends = ap (λ (x : Fact). ends_in v x.factors) here ∙ f.1.names in absurd cc

pub first-end : (facts : List Fact) (v index : ℕ) → ((i : ℕ) × IsFirst facts v i × (index ≤ i)) →
    length facts ≤ index → ⊥
first-end facts v index f h =
    let a = f.2 in let b = get-inside facts f.0 f.1.fact f.1.there in absurd (omega (arith, a, b, h))

pub ruleset first_laws = (first-start, first-here, first-next, first-end)
