-- The cases of a step, and their numbers.
use Rattle.std.proofs.Common.{◌≡◌, ℕ, zero, suc, ◌+◌, ◌*◌, ◌<◌, ◌≤◌, ◌/◌, ◌%◌, min, ℤ, pos, negsuc, ◌+ℤ◌, ◌-ℤ◌}
use Rattle.std.proofs.Common.{◌≤ℤ◌, List, [], ◌∷◌, ◌++◌, map, length, drop, slice_get, slice_set, get_or}
use Rattle.std.proofs.Common.{◌&&◌, IsTrue, Some, refl, sym, ap, ◌∙◌, subst, arith, ◌⊎◌, inl, inr}
use Rattle.std.specs.List.{flat_map}
use Rattle.std.specs.Int.RustNames.{int_le}
use Rattle.std.proofs.lemmas.Int.{ints}
use Rattle.std.proofs.lemmas.Nat.{div-add-mod'}
use Rattle.std.proofs.Math.Nat.{mul-le-mul_left}
use Rattle.meaning_states.proofs.StepTheorems.{both_true}
use Rattle.meaning_executions.specs.Counting.{natural, count_up}
use Rattle.meaning_executions.specs.Counting.{range_size}
use Rattle.core_terms.specs.declared.trees.Range.{Range}
use Rattle.core_terms.proofs.BoolLaws.{le_passes}
use Rattle.fair_rounds.specs.Records.{are_in_ranges}
use Rattle.trace_watch.specs.Cases.{size_of, numbers_in, environments, case_count}

-- items of lists

get_left : {X : Type 0} (xs ys : List X) (n : ℕ) (x : X) → slice_get xs n ≡ Some x → slice_get (xs ++ ys) n ≡ Some x
get_left [] ys n x e = cc
get_left (y ∷ xs) ys zero x e = e
get_left (y ∷ xs) ys (suc n) x e = get_left xs ys n x e

get_right : {X : Type 0} (xs ys : List X) (n m : ℕ) → m ≡ length xs + n → slice_get (xs ++ ys) m ≡ slice_get ys n
get_right [] ys n m h = let same : m ≡ n = omega arith in ap (slice_get ys) same
get_right (x ∷ xs) ys n zero h = absurd (omega arith)
get_right (x ∷ xs) ys n (suc m) h = get_right xs ys n m (omega arith)

pub get_map : {X Y : Type 0} (f : X → Y) (xs : List X) (n : ℕ) (x : X) → slice_get xs n ≡ Some x →
    slice_get (map f xs) n ≡ Some (f x)
get_map f [] n x e = cc
get_map f (y ∷ xs) zero x e = let same : y ≡ x = cc in ap (λ z. Some (f z)) same
get_map f (y ∷ xs) (suc n) x e = get_map f xs n x e

-- the numbers of a range

pub get_up : (low : ℤ) (n place : ℕ) → place < n → slice_get (count_up low n) place ≡ Some (low +ℤ pos place)
get_up low zero place h = absurd (omega arith)
get_up low (suc n) zero h = let same : low ≡ low +ℤ pos 0 = omega (arith, ints) in ap Some same
get_up low (suc n) (suc place) h =
    let same : low +ℤ pos 1 +ℤ pos place ≡ low +ℤ pos (suc place) = omega (arith, ints) in
    get_up (low +ℤ pos 1) n place (omega arith) ∙ ap Some same

up_length : (low : ℤ) (n : ℕ) → length (count_up low n) ≡ n
up_length low zero = refl
up_length low (suc n) = ap (λ m. suc m) (up_length (low +ℤ pos 1) n)

-- a number at a place of a range is at most its end
pub up_to_end : (low high : ℤ) (place : ℕ) → place < range_size (low, high) → (low +ℤ pos place) ≤ℤ high
up_to_end low high place h = go (high +ℤ pos 1 -ℤ low) refl h
  where
    go : (w : ℤ) → high +ℤ pos 1 -ℤ low ≡ w → place < natural w → (low +ℤ pos place) ≤ℤ high
    go (pos n) e less = omega (arith, ints)
    go (negsuc n) e less = absurd (omega arith)

pub no_size : (low high : ℤ) → high ≤ℤ (low -ℤ pos 1) → range_size (low, high) ≡ 0
no_size low high h = go (high +ℤ pos 1 -ℤ low) refl
  where
    go : (w : ℤ) → high +ℤ pos 1 -ℤ low ≡ w → natural w ≡ 0
    go (pos n) e = omega (arith, ints)
    go (negsuc n) e = refl

pub some_size : (low high : ℤ) (n : ℕ) → pos n ≡ high -ℤ low +ℤ pos 1 → range_size (low, high) ≡ n
some_size low high n h = ap natural same
  where
    same : high +ℤ pos 1 -ℤ low ≡ pos n
    same = omega (arith, ints)

-- the numbers of a range lie in it
up_in : (low high : ℤ) (place : ℕ) (z : ℤ) → slice_get (count_up low (range_size (low, high))) place ≡ Some z →
    IsTrue (int_le low z && int_le z high)
up_in low high place z e =
    let inside = within (count_up low (range_size (low, high))) place z e in
    let less : place < range_size (low, high) = omega (arith, inside, up_length low (range_size (low, high))) in
    let same : low +ℤ pos place ≡ z = some_is (low +ℤ pos place) z
    (sym (get_up low (range_size (low, high)) place less) ∙ e) in
    let end = up_to_end low high place less in
    both_true (int_le low z) (int_le z high) (le_passes low z (omega (arith, ints)))
    (le_passes z high (omega (arith, ints)))
  where
    within : (xs : List ℤ) (n : ℕ) (x : ℤ) → slice_get xs n ≡ Some x → n < length xs
    within [] n x e = cc
    within (y ∷ xs) zero x e = omega arith
    within (y ∷ xs) (suc n) x e = let rest = within xs n x e in omega (arith, rest)

    some_is : (x y : ℤ) → Some x ≡ Some y → x ≡ y
    some_is x y e = cc

-- the numbers of the cases

flat_length : (f : ℤ → List (List ℤ)) (n : ℕ) → ((z : ℤ) → length (f z) ≡ n) → (zs : List ℤ) →
    length (flat_map f zs) ≡ length zs * n
flat_length f n each [] = let none : 0 ≡ 0 * n = omega arith in none
flat_length f n each (z ∷ zs) =
    let rest = flat_length f n each zs in
    length_join (f z) (flat_map f zs) ∙ sums (length (f z)) (length (flat_map f zs)) (length zs) (each z) rest
  where
    length_join : (xs ys : List (List ℤ)) → length (xs ++ ys) ≡ length xs + length ys
    length_join [] ys = omega arith
    length_join (x ∷ xs) ys = let rest = length_join xs ys in omega (arith, rest)

    sums : (a b m : ℕ) → a ≡ n → b ≡ m * n → a + b ≡ suc m * n
    sums a b m e h = omega (arith, e, h)

map_length : {X Y : Type 0} (f : X → Y) (xs : List X) → length (map f xs) ≡ length xs
map_length f [] = refl
map_length f (x ∷ xs) = ap (λ n. suc n) (map_length f xs)

pub count_is : (params : List Range) → length (environments params) ≡ case_count params
count_is [] = refl
count_is (r ∷ rest) =
    flat_length (λ z. map (λ e. z ∷ e) (environments rest)) (case_count rest)
    (λ z. map_length (λ e. z ∷ e) (environments rest) ∙ count_is rest) (numbers_in r)
    ∙ ap (λ n. n * case_count rest) (up_length r.lo (size_of r))

get_flat : (f : ℤ → List (List ℤ)) (n : ℕ) → ((z : ℤ) → length (f z) ≡ n) → (zs : List ℤ) (i j m : ℕ) (z : ℤ)
    (e : List ℤ) → slice_get zs i ≡ Some z → slice_get (f z) j ≡ Some e → m ≡ i * n + j →
    slice_get (flat_map f zs) m ≡ Some e
get_flat f n each [] i j m z e there here same = cc
get_flat f n each (y ∷ zs) zero j m z e there here same =
    let is : y ≡ z = cc in
    let at : j ≡ m = omega (arith, same) in
    get_left (f y) (flat_map f zs) m e (subst (λ k. slice_get (f y) k ≡ Some e) at
    (subst (λ x. slice_get (f x) j ≡ Some e) (sym is) here))
get_flat f n each (y ∷ zs) (suc i) j m z e there here same =
    get_right (f y) (flat_map f zs) (i * n + j) m (omega (arith, same, each y))
    ∙ get_flat f n each zs i j (i * n + j) z e there here refl

environment_at : (r : Range) (rest : List Range) (place low case : ℕ) (z : ℤ) (e : List ℤ) →
    slice_get (numbers_in r) place ≡ Some z → slice_get (environments rest) low ≡ Some e →
    case ≡ place * case_count rest + low → slice_get (environments (r ∷ rest)) case ≡ Some (z ∷ e)
environment_at r rest place low case z e there here same =
    get_flat (λ y. map (λ x. y ∷ x) (environments rest)) (case_count rest)
    (λ y. map_length (λ x. y ∷ x) (environments rest) ∙ count_is rest) (numbers_in r) place low case z (z ∷ e) there
    (get_map (λ x. z ∷ x) (environments rest) low e here) same

-- the numbers of each case lie in their ranges

in_flat : (f : ℤ → List (List ℤ)) (P : List ℤ → Type 0) (zs : List ℤ) → ((i : ℕ) (z : ℤ) → slice_get zs i ≡ Some z →
    (j : ℕ) (e : List ℤ) → slice_get (f z) j ≡ Some e → P e) → (m : ℕ) (e : List ℤ) →
    slice_get (flat_map f zs) m ≡ Some e → P e
in_flat f P [] each m e there = cc
in_flat f P (z ∷ zs) each m e there =
    split (f z) m there (each zero z refl) (λ k h. in_flat f P zs (λ i y g. each (suc i) y g) k e h)
  where
    split : (xs : List (List ℤ)) (n : ℕ) → slice_get (xs ++ flat_map f zs) n ≡ Some e →
        ((j : ℕ) (d : List ℤ) → slice_get xs j ≡ Some d → P d) →
        ((k : ℕ) → slice_get (flat_map f zs) k ≡ Some e → P e) → P e
    split [] n h here later = later n h
    split (x ∷ xs) zero h here later = here zero e h
    split (x ∷ xs) (suc n) h here later = split xs n h (λ j d g. here (suc j) d g) later

in_map : {X : Type 0} (f : X → List ℤ) (P : List ℤ → Type 0) (xs : List X) → ((i : ℕ) (x : X) →
    slice_get xs i ≡ Some x → P (f x)) → (m : ℕ) (e : List ℤ) → slice_get (map f xs) m ≡ Some e → P e
in_map f P [] each m e there = cc
in_map f P (x ∷ xs) each zero e there =
    let same : f x ≡ e = cc in subst P same (each zero x refl)
in_map f P (x ∷ xs) each (suc m) e there = in_map f P xs (λ i y g. each (suc i) y g) m e there

pub environments_in : (params : List Range) (case : ℕ) (e : List ℤ) → slice_get (environments params) case ≡ Some e →
    IsTrue (are_in_ranges params e)
environments_in [] zero e there = let same : [] ≡ e = cc in subst (λ d. IsTrue (are_in_ranges [] d)) same refl
environments_in [] (suc n) e there = cc
environments_in (r ∷ rest) case e there =
    in_flat (λ z. map (λ d. z ∷ d) (environments rest)) (λ d. IsTrue (are_in_ranges (r ∷ rest) d)) (numbers_in r)
    (λ i z at. in_map (λ d. z ∷ d) (λ d. IsTrue (are_in_ranges (r ∷ rest) d)) (environments rest)
    (λ j d g. both_true (int_le r.lo z && int_le z r.hi) (are_in_ranges rest d) (up_in r.lo r.hi i z at)
    (environments_in rest j d g)))
    case e there

-- numbers are given to the parameters from the last to the first

-- those from a place on have their numbers, and `rest` is the number of the case among those of the earlier ones
pub record CaseFrom (params : List Range) (into : List ℤ) (case rest place : ℕ) : Type 0 where
  pub low : ℕ
  pub below : low < case_count (drop place params)
  pub is : case ≡ rest * case_count (drop place params) + low
  pub there : slice_get (environments (drop place params)) low ≡ Some (drop place into)

drop_end : {X : Type 0} (xs : List X) (n : ℕ) → length xs ≤ n → drop n xs ≡ []
drop_end [] zero h = refl
drop_end [] (suc n) h = refl
drop_end (x ∷ xs) zero h = absurd (omega arith)
drop_end (x ∷ xs) (suc n) h = drop_end xs n (omega arith)

pub case_begun : (params : List Range) (into : List ℤ) (case : ℕ) → length into ≡ length params →
    CaseFrom params into case case (length params)
case_begun params into case size =
    let none : drop (length params) params ≡ [] = drop_end params (length params) (omega arith) in
    let empty : drop (length params) into ≡ [] = drop_end into (length params) (omega arith) in
    let one : case_count (drop (length params) params) ≡ 1 = ap case_count none in
    record {
      low = 0;
      below = omega (arith, one);
      is = let times : case ≡ case * 1 + 0 = omega arith in times ∙ ap (λ k. case * k + 0) (sym one);
      there = ap (λ ps. slice_get (environments ps) 0) none ∙ ap Some (sym empty);
    }

drop_from : {X : Type 0} (xs : List X) (n : ℕ) (x : X) → slice_get xs n ≡ Some x → drop n xs ≡ x ∷ drop (suc n) xs
drop_from [] n x e = cc
drop_from (y ∷ xs) zero x e = let same : y ≡ x = cc in ap (λ z. z ∷ xs) same
drop_from (y ∷ xs) (suc n) x e = drop_from xs n x e

drop_set : (xs : List ℤ) (n : ℕ) (z : ℤ) → n < length xs → drop n (slice_set xs n z) ≡ z ∷ drop (suc n) xs
drop_set [] n z h = absurd (omega arith)
drop_set (x ∷ xs) zero z h = refl
drop_set (x ∷ xs) (suc n) z h = drop_set xs n z (omega arith)

digits : (rest size n low case : ℕ) → case ≡ rest * n + low → rest / size * size + rest % size ≡ rest →
    case ≡ rest / size * (size * n) + (rest % size * n + low)
digits rest size n low case is whole = go (rest / size) (rest % size) whole
  where
    go : (q d : ℕ) → q * size + d ≡ rest → case ≡ q * (size * n) + (d * n + low)
    go q d e = is ∙ ap (λ m. m * n + low) (sym e) ∙ omega arith

below_product : (d size n low : ℕ) → d < size → low < n → d * n + low < size * n
below_product d size n low less small =
    let more : suc d * n ≤ size * n = times (suc d) size less in omega arith
  where
    times : (a b : ℕ) → a ≤ b → a * n ≤ b * n
    times a b h = let one = mul-le-mul_left n h in omega (arith, one)

pub case_step : (params : List Range) (into : List ℤ) (m : ℕ) (r : Range) (case rest : ℕ) (z : ℤ) →
    slice_get params m ≡ Some r → m < length into → rest % size_of r < size_of r →
    slice_get (numbers_in r) (rest % size_of r) ≡ Some z → CaseFrom params into case rest (suc m) →
    CaseFrom params (slice_set into m z) case (rest / size_of r) m
case_step params into m r case rest z there inside less number from =
    let parts = drop_from params m r there in
    let n = case_count (drop (suc m) params) in
    let count : size_of r * n ≡ case_count (drop m params) = ap case_count (sym parts) in
    record {
      low = rest % size_of r * n + from.low;
      below = subst (λ k. rest % size_of r * n + from.low < k) count
          (below_product (rest % size_of r) (size_of r) n from.low less from.below);
      is = subst (λ k. case ≡ rest / size_of r * k + (rest % size_of r * n + from.low)) count
          (digits rest (size_of r) n from.low case from.is (div-add-mod' rest (size_of r)));
      there = ap (λ ps. slice_get (environments ps) (rest % size_of r * n + from.low)) parts
          ∙ environment_at r (drop (suc m) params) (rest % size_of r) from.low (rest % size_of r * n + from.low) z
          (drop (suc m) into) number from.there refl
          ∙ ap Some (sym (drop_set into m z inside));
    }

-- a product of which a part is 0 is 0
pub some_in_each : (params : List Range) (m case : ℕ) (r : Range) → case < case_count params →
    slice_get params m ≡ Some r → 0 < size_of r
some_in_each [] m case r h e = cc
some_in_each (q ∷ params) zero case r h e =
    let same : q ≡ r = cc in subst (λ (x : Range). 0 < size_of x) same (first (size_of q) h)
  where
    first : (n : ℕ) → case < n * case_count params → 0 < n
    first zero h = absurd (omega arith)
    first (suc n) h = omega arith
some_in_each (q ∷ params) (suc m) case r h e =
    some_in_each params m 0 r (second (case_count params) h) e
  where
    second : (n : ℕ) → case < size_of q * n → 0 < n
    second zero h = absurd (omega arith)
    second (suc n) h = omega arith

pub case_found : (params : List Range) (into : List ℤ) (case rest : ℕ) → case < case_count params →
    CaseFrom params into case rest 0 → slice_get (environments params) case ≡ Some into
case_found params into case rest h from = go rest from.is
  where
    go : (n : ℕ) → case ≡ n * case_count params + from.low → slice_get (environments params) case ≡ Some into
    go zero e =
        let same : from.low ≡ case = omega arith in
        subst (λ k. slice_get (environments params) k ≡ Some into) same from.there
    go (suc n) e = absurd (omega arith)

-- counts that stop at a limit

pub product_stops : (a b m : ℕ) → 0 < m → min (min a m * min b m) m ≡ min (a * b) m
product_stops a b m some = go (le_or a m) (le_or b m)
  where
    le_or : (x y : ℕ) → (x ≤ y) ⊎ (y ≤ x)
    le_or zero y = inl (omega arith)
    le_or (suc x) zero = inr (omega arith)
    le_or (suc x) (suc y) = elim (le_or x y) [
      | inl h ↦ inl (omega arith)
      | inr h ↦ inr (omega arith)
    ]

    great : (x y : ℕ) → m ≤ x → 0 < y → m ≤ x * y
    great x (suc y) h more = let one = mul-le-mul_left x more in omega (arith, one)
    great x zero h more = absurd (omega arith)

    go : (a ≤ m) ⊎ (m ≤ a) → (b ≤ m) ⊎ (m ≤ b) → min (min a m * min b m) m ≡ min (a * b) m
    go (inl low) (inl small) =
        let one : min a m ≡ a = omega arith in
        let two : min b m ≡ b = omega arith in
        ap (λ x. min (x * min b m) m) one ∙ ap (λ y. min (a * y) m) two
    go (inl low) (inr large) =
        let one : min a m ≡ a = omega arith in
        let two : min b m ≡ m = omega arith in
        ap (λ x. min (x * min b m) m) one ∙ ap (λ y. min (a * y) m) two ∙ times a
      where
        times : (x : ℕ) → min (x * m) m ≡ min (x * b) m
        times zero = omega arith
        times (suc x) = let over : m ≤ suc x * m = omega arith in
            let more : m ≤ suc x * b = omega (arith, great b (suc x) large (omega arith)) in omega arith
    go (inr high) small = over (min b m) refl
      where
        over : (y : ℕ) → min b m ≡ y → min (min a m * min b m) m ≡ min (a * b) m
        over zero e =
            let none : b ≡ 0 = omega arith in
            ap (λ y. min (min a m * y) m) e ∙ omega (arith) ∙ ap (λ y. min (a * y) m) (sym none)
        over (suc y) e =
            let one : min a m ≡ m = omega arith in
            let some_b : 0 < b = omega arith in
            let more : m ≤ a * b = great a b high some_b in
            let less : m ≤ m * suc y = omega arith in
            ap (λ x. min (x * min b m) m) one ∙ ap (λ x. min (m * x) m) e ∙ omega arith

pub sum_stops : (a b m : ℕ) → min (min a m + min b m) m ≡ min (a + b) m
sum_stops a b m = omega arith

-- what a list of ranges has at a place

abbrev pub no_range : Range
no_range = record { lo = pos 0; hi = pos 0 }

pub range_there : (params : List Range) (n : ℕ) → n < length params →
    slice_get params n ≡ Some (get_or params n no_range)
range_there [] n h = absurd (omega arith)
range_there (r ∷ params) zero h = refl
range_there (r ∷ params) (suc n) h = range_there params n (omega arith)

-- a number of a range, as it is computed
pub number_wide : (low high : ℤ) (place : ℕ) (given made : ℤ) → place < range_size (low, high) → given ≡ low →
    made ≡ given +ℤ pos place →
    slice_get (count_up low (range_size (low, high))) place ≡ Some made
number_wide low high place given made h same is =
    get_up low (range_size (low, high)) place h ∙ ap (λ z. Some (z +ℤ pos place)) (sym same) ∙ ap Some (sym is)
