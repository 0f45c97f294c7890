-- Lists whose items differ in pairs.
use Rattle.std.proofs.Common.{◌≡◌, ℕ, zero, suc, ◌≤◌, List, [], ◌∷◌, ◌++◌, map, length, length-append, Bool, true}
use Rattle.std.proofs.Common.{false, Some, refl, ap, ◌∙◌, subst, arith, All, slice_get}
use Rattle.std.specs.List.{flat_map}
use Rattle.std.proofs.lemmas.List.Elements.{All-nil, All-cons, All-head, All-tail, All-weaker}
use Rattle.std.specs.Prelude.{◌||◌}
use Rattle.std.specs.Str.{bytes_eq}
use Rattle.std.proofs.lemmas.List.Folds.{list_any-append}
use Rattle.expand_declarations.specs.Texts.{Texts}
use Rattle.expand_correct.specs.Declared.WordLaws.{is_among}
use Rattle.core_terms.specs.Conditions.{EachPair}

-- any two items have the relation, the earlier one first: by the first item
abbrev pub Pairs : {X : Type 0} → (X → X → Type 0) → List X → Type 0
Pairs R [] = Unit {0}
Pairs R (x ∷ xs) = All (R x) xs × Pairs R xs

all_at : {X : Type 0} (P : X → Type 0) (xs : List X) → All P xs → (j : ℕ) (y : X) → slice_get xs j ≡ Some y → P y
all_at P [] h j y e = cc e
all_at P (x ∷ xs) h zero y e = let same : x ≡ y = cc in subst P same (All-head P x xs h)
all_at P (x ∷ xs) h (suc j) y e = all_at P xs (All-tail P x xs h) j y e

pub each_pair : {X : Type 0} (R : X → X → Type 0) (xs : List X) → Pairs R xs → EachPair R xs
each_pair R [] h i j x y below first second = cc first
each_pair R (z ∷ zs) h zero zero x y below first second = absurd (omega arith)
each_pair R (z ∷ zs) h zero (suc j) x y below first second =
    let same : z ≡ x = cc in subst (λ w. R w y) same (all_at (R z) zs h.0 j y second)
each_pair R (z ∷ zs) h (suc i) zero x y below first second = absurd (omega arith)
each_pair R (z ∷ zs) h (suc i) (suc j) x y below first second = each_pair R zs h.1 i j x y (omega arith) first second

-- some of the texts
pub record IsPart (some whole : Texts) : Type 0 where
  pub short : length some ≤ length whole
  pub among : (t : List ℕ) → is_among some t ≡ true → is_among whole t ≡ true

among_left : (a b : Bool) → a ≡ true → (a || b) ≡ true
among_left true b h = refl
among_left false b h = cc h

among_right : (a b : Bool) → b ≡ true → (a || b) ≡ true
among_right true b h = refl
among_right false b h = h

pub part_left : (xs ys : Texts) → IsPart xs (xs ++ ys)
part_left xs ys = record {
  short = rw (length-append xs ys) (omega arith);
  among = λ t h. list_any-append (bytes_eq t) xs ys ∙ among_left (is_among xs t) (is_among ys t) h;
}

pub part_right : (xs ys : Texts) → IsPart ys (xs ++ ys)
part_right xs ys = record {
  short = rw (length-append xs ys) (omega arith);
  among = λ t h. list_any-append (bytes_eq t) xs ys ∙ among_right (is_among xs t) (is_among ys t) h;
}

pub part_cons : (x : List ℕ) (xs : Texts) → IsPart xs (x ∷ xs)
part_cons x xs = record { short = omega arith; among = λ t h. among_right (bytes_eq t x) (is_among xs t) h }

pub part_trans : (xs ys zs : Texts) → IsPart xs ys → IsPart ys zs → IsPart xs zs
part_trans xs ys zs a b = let x = a.short in let y = b.short in
    record { short = omega arith; among = λ t h. b.among t (a.among t h) }

pub each_part : {X : Type 0} (f : X → Texts) (xs : List X) → All (λ x. IsPart (f x) (flat_map f xs)) xs
each_part f [] = All-nil (λ x. IsPart (f x) [])
each_part f (x ∷ xs) = All-cons (λ y. IsPart (f y) (f x ++ flat_map f xs)) x xs (part_left (f x) (flat_map f xs))
    (All-weaker (λ y. IsPart (f y) (flat_map f xs)) (λ y. IsPart (f y) (f x ++ flat_map f xs))
    (λ y h. part_trans (f y) (flat_map f xs) (f x ++ flat_map f xs) h (part_right (f x) (flat_map f xs))) xs
    (each_part f xs))

pub length_mapped : {X Y : Type 0} (f : X → Y) (xs : List X) → length (map f xs) ≡ length xs
length_mapped f [] = refl
length_mapped f (x ∷ xs) = ap suc (length_mapped f xs)
