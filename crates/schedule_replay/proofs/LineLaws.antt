-- The texts of lines, as they are put.
use Rattle.std.proofs.Common.{◌≡◌, ◌+◌, ◌<◌, ◌≤◌, ◌++◌, ℕ, zero, suc, ℤ, pos, negsuc, true, false, List, [], ◌∷◌, map}
use Rattle.std.proofs.Common.{codes, decimal, refl, sym, ap, ◌∙◌, length, take, drop, get_or, arith, append_assoc}
use Rattle.std.proofs.Common.{append-nil}
use Rattle.std.specs.List.{flat_map, join_with_byte}
use Rattle.std.specs.Fmt.{signed_decimal}
use Rattle.std.specs.Int.RustNames.{int_lt, unsigned_abs}
use borrow.Author.Differences.{lt-true, lt-false}
use Rattle.schedule_replay.specs.Lines.{indices_text}

flat_map_next : {X : Type 0} (f : X → List ℕ) (xs : List X) (i : ℕ) (d : X) → i < length xs →
    flat_map f (take i xs) ++ f (get_or xs i d) ≡ flat_map f (take (suc i) xs)
flat_map_next f [] i d h = absurd (omega arith)
flat_map_next f (x ∷ xs) zero d h = sym (append-nil (f x))
flat_map_next f (x ∷ xs) (suc i) d h =
    append_assoc (f x) (flat_map f (take i xs)) (f (get_or xs i d))
    ∙ ap (λ t. f x ++ t) (flat_map_next f xs i d (omega arith))

pub flat_map_more : {X : Type 0} (f : X → List ℕ) (xs : List X) (i : ℕ) (d : X) → i < length xs →
    flat_map f (take i xs) ++ f (get_or xs i d) ≡ flat_map f (take (i + 1) xs)
flat_map_more f xs i d h =
    let one : suc i ≡ i + 1 = omega arith in
    flat_map_next f xs i d h ∙ ap (λ k. flat_map f (take k xs)) one

-- what comes after the first index, each with a comma
more_indices : List ℤ → List ℕ
more_indices zs = flat_map (λ z. codes "," ++ signed_decimal z) zs

join_more : (z : ℤ) (zs : List ℤ) →
    signed_decimal z ++ more_indices zs ≡ join_with_byte 44 (map signed_decimal (z ∷ zs))
unfolding more_indices
join_more z [] = append-nil (signed_decimal z)
join_more z (y ∷ ys) = ap (λ t. signed_decimal z ++ (44 ∷ t)) (join_more y ys)

pub indices_joined : (zs : List ℤ) → 1 ≤ length zs →
    codes "[" ++ (signed_decimal (get_or zs 0 (pos 0)) ++ flat_map (λ z. codes "," ++ signed_decimal z) (drop 1 zs))
    ++ codes "]"
    ≡ indices_text zs
unfolding more_indices
indices_joined [] h = absurd (omega arith)
indices_joined (z ∷ zs) h = ap (λ t. codes "[" ++ t ++ codes "]") (join_more z zs)

pub negative_text : (z : ℤ) → int_lt z (pos 0) ≡ true → 45 ∷ decimal (unsigned_abs z) ≡ signed_decimal z
negative_text (pos n) h = absurd (omega (arith, lt-true (pos n) (pos 0) h))
negative_text (negsuc n) h = refl

pub positive_text : (z : ℤ) → int_lt z (pos 0) ≡ false → decimal (unsigned_abs z) ≡ signed_decimal z
positive_text (pos n) h = refl
positive_text (negsuc n) h = absurd (omega (arith, lt-false (negsuc n) (pos 0) h))
