-- Lists whose items differ in pairs.
use Rattle.std.proofs.Common.{◌≡◌, ℕ, zero, suc, List, [], ◌∷◌, ◌++◌, map, Some, refl, subst, arith, All, slice_get}
use Rattle.std.proofs.lemmas.List.Elements.{All-nil, All-cons, All-head, All-tail, All-append, All-map, All-weaker}
use Rattle.core_terms.specs.Conditions.{EachPair}

-- any two items have the relation, the earlier one first: by the first item
abbrev pub Pairs : {X : Type 0} → (X → X → Type 0) → List X → Type 0
Pairs R [] = Unit {0}
Pairs R (x ∷ xs) = All (R x) xs × Pairs R xs

pub all_at : {X : Type 0} (P : X → Type 0) (xs : List X) → All P xs → (j : ℕ) (y : X) → slice_get xs j ≡ Some y → P y
all_at P [] h j y e = cc e
all_at P (x ∷ xs) h zero y e = let same : x ≡ y = cc in subst P same (All-head P x xs h)
all_at P (x ∷ xs) h (suc j) y e = all_at P xs (All-tail P x xs h) j y e

pub each_pair : {X : Type 0} (R : X → X → Type 0) (xs : List X) → Pairs R xs → EachPair R xs
each_pair R [] h i j x y below first second = cc first
each_pair R (z ∷ zs) h zero zero x y below first second = absurd (omega arith)
each_pair R (z ∷ zs) h zero (suc j) x y below first second =
    let same : z ≡ x = cc in subst (λ w. R w y) same (all_at (R z) zs h.0 j y second)
each_pair R (z ∷ zs) h (suc i) zero x y below first second = absurd (omega arith)
each_pair R (z ∷ zs) h (suc i) (suc j) x y below first second = each_pair R zs h.1 i j x y (omega arith) first second

all_from : {X : Type 0} (P : X → Type 0) (xs : List X) → ((j : ℕ) (y : X) → slice_get xs j ≡ Some y → P y) → All P xs
all_from P [] h = All-nil P
all_from P (x ∷ xs) h = All-cons P x xs (h 0 x refl) (all_from P xs (λ j y e. h (suc j) y e))

pub pairs_of : {X : Type 0} (R : X → X → Type 0) (xs : List X) → EachPair R xs → Pairs R xs
pairs_of R [] h = tt
pairs_of R (x ∷ xs) h = (
  all_from (R x) xs (λ j y e. h 0 (suc j) x y (omega arith) refl e),
  pairs_of R xs (λ i j y z below first second. h (suc i) (suc j) y z (omega arith) first second),
)

pub pairs_on : {X : Type 0} (R : X → X → Type 0) (xs ys : List X) → Pairs R xs → Pairs R ys →
    All (λ x. All (R x) ys) xs → Pairs R (xs ++ ys)
pairs_on R [] ys h k c = k
pairs_on R (x ∷ xs) ys h k c = (
  All-append (R x) xs ys h.0 (All-head (λ z. All (R z) ys) x xs c),
  pairs_on R xs ys h.1 k (All-tail (λ z. All (R z) ys) x xs c),
)

pub pairs_weaker : {X : Type 0} (R S : X → X → Type 0) → ((x y : X) → R x y → S x y) → (xs : List X) → Pairs R xs →
    Pairs S xs
pairs_weaker R S f [] h = tt
pairs_weaker R S f (x ∷ xs) h =
    (All-weaker (R x) (S x) (f x) xs h.0, pairs_weaker R S f xs h.1)

pub pairs_map : {X Y : Type 0} (R : Y → Y → Type 0) (f : X → Y) (xs : List X) → Pairs (λ x y. R (f x) (f y)) xs →
    Pairs R (map f xs)
pairs_map R f [] h = tt
pairs_map R f (x ∷ xs) h = (All-map (R (f x)) f xs h.0, pairs_map R f xs h.1)

-- pairs of which each has a property
pub pairs_with : {X : Type 0} (P : X → Type 0) (R S : X → X → Type 0) → ((x y : X) → P x → P y → R x y → S x y) →
    (xs : List X) → All P xs → Pairs R xs → Pairs S xs
pairs_with P R S f [] p h = tt
pairs_with P R S f (x ∷ xs) p h = (
  all_with xs (All-tail P x xs p) h.0,
  pairs_with P R S f xs (All-tail P x xs p) h.1,
)
  where
    all_with : (ys : List _) → All P ys → All (R x) ys → All (S x) ys
    all_with [] q r = All-nil (S x)
    all_with (y ∷ ys) q r = All-cons (S x) y ys
        (f x y (All-head P x xs p) (All-head P y ys q) (All-head (R x) y ys r))
        (all_with ys (All-tail P y ys q) (All-tail (R x) y ys r))

-- what holds of all pairs of two lists
pub all_both : {X Y : Type 0} (P : X → Type 0) (Q : Y → Type 0) (R : X → Y → Type 0) →
    ((x : X) (y : Y) → P x → Q y → R x y) → (xs : List X) (ys : List Y) → All P xs → All Q ys →
    All (λ x. All (R x) ys) xs
all_both P Q R f xs ys p q =
    All-weaker P (λ x. All (R x) ys) (λ x h. All-weaker Q (R x) (λ y k. f x y h k) ys q) xs p
