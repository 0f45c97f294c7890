-- Lists to which items are added at the end, and which are cut back: what stands at a place stays there.
use Rattle.std.proofs.Common.{◌≡◌, ℕ, zero, suc, ◌<◌, ◌≤◌, List, [], ◌∷◌, ◌++◌, map, length, take, get_or, All}
use Rattle.std.proofs.Common.{Bool, true, false}
use Rattle.std.proofs.Common.{Option, Some, None, refl, sym, ap, ◌∙◌, subst, arith, ◌⊎◌, inl, inr, IsTrue}
use Rattle.std.specs.Prelude.{slice_get, nat_lt, not, if◌then◌else◌}
use Rattle.std.proofs.lemmas.Bool.{ltb-true, ltb-false}
use Rattle.std.specs.List.{position_or_len, list_any}
use Rattle.std.specs.Option.{option_map}
use Rattle.std.proofs.Math.ListN.{get_or-append}
use Rattle.std.proofs.Math.Seq.{get_or-append_seam}
use Rattle.std.proofs.lemmas.Option.{slice_get_within, get_or_from_slice_get, slice_get-get_or, slice_get-map}
use Rattle.std.proofs.lemmas.List.{length-append, length-take, get_or-take}
use Rattle.std.proofs.lemmas.List.Elements.{All-head, All-tail}
use Rattle.std.proofs.lemmas.List.Sums.{position_or_len_is}
use Rattle.core_terms.specs.Pools.{Keeps, IsOnce}
use Rattle.core_terms.proofs.BoolLaws.{or_first, or_second}

or_else : {X : Type 0} → X → Option X → X
or_else x None = x
or_else x (Some y) = y

pub same_item : {X : Type 0} (x y : X) → Some x ≡ Some y → x ≡ y
unfolding or_else
same_item x y e = ap (or_else x) e

module _ {X : Type 0} where
  -- at a place below the length stands an item, and only there
  pub stands : (xs : List X) (i : ℕ) (x d : X) → i < length xs → get_or xs i d ≡ x → slice_get xs i ≡ Some x
  stands xs i x d h e = slice_get-get_or xs i d h ∙ ap Some e

  pub read : (xs : List X) (i : ℕ) (x d : X) → slice_get xs i ≡ Some x → get_or xs i d ≡ x
  read xs i x d h = get_or_from_slice_get xs i x d h

  pub keeps_more : (xs more : List X) → Keeps xs (xs ++ more)
  keeps_more xs more i x h =
      let low = slice_get_within xs i x h in
      stands (xs ++ more) i x x (omega (arith, low, length-append xs more))
      (get_or-append xs more x i low ∙ read xs i x x h)

  pub keeps_front : (n : ℕ) (xs : List X) → Keeps (take n xs) xs
  keeps_front n xs i x h =
      let low = slice_get_within (take n xs) i x h in
      let size = length-take n xs in
      stands xs i x x (omega (arith, low, size))
      (sym (get_or-take n xs i x (omega (arith, low, size))) ∙ read (take n xs) i x x h)

  pub last_stands : (xs : List X) (x : X) → slice_get (xs ++ x ∷ []) (length xs) ≡ Some x
  last_stands xs x =
      stands (xs ++ x ∷ []) (length xs) x x (omega (arith, length-append xs (x ∷ []))) (get_or-append_seam xs x [] x)

  pub put_last : (xs ys : List X) (x : X) (n : ℕ) → n ≡ length xs → ys ≡ xs ++ x ∷ [] → slice_get ys n ≡ Some x
  put_last xs ys x n e p = ap (λ l. slice_get l n) p ∙ ap (λ k. slice_get (xs ++ x ∷ []) k) e ∙ last_stands xs x

  pub keeps_length : (xs ys : List X) → Keeps xs ys → length xs ≤ length ys
  keeps_length [] ys h = omega arith
  keeps_length (x ∷ xs) ys h =
      let there = slice_get-get_or (x ∷ xs) (length xs) x (omega arith) in
      let inside = slice_get_within ys (length xs) (get_or (x ∷ xs) (length xs) x)
      (h (length xs) (get_or (x ∷ xs) (length xs) x) there) in
      omega (arith, inside)

  -- the front that both have is the same
  pub front_all : (P : X → Type 0) (xs ys : List X) (n : ℕ) → n ≤ length xs → Keeps xs ys → All P (take n xs) →
      All P (take n ys)
  front_all P xs ys n h keeps all k d low =
      let inside : k < n = omega (arith, low, length-take n ys) in
      let there = keeps k (get_or xs k d) (slice_get-get_or xs k d (omega (arith, inside, h))) in
      let same = get_or-take n ys k d inside ∙ read ys k (get_or xs k d) d there ∙ sym (get_or-take n xs k d inside) in
      subst P (sym same) (all k d (omega (arith, inside, h, length-take n xs)))

  -- the front of a front
  pub shorter_front : (P : X → Type 0) (xs : List X) (n m : ℕ) → n ≤ m → All P (take n xs) → All P (take n (take m xs))
  shorter_front P xs n m h all k d low =
      let inside : k < n = omega (arith, low, length-take n (take m xs)) in
      let same = get_or-take n (take m xs) k d inside ∙ get_or-take m xs k d (omega (arith, inside, h))
      ∙ sym (get_or-take n xs k d inside) in
      subst P (sym same) (all k d (omega (arith, low, length-take n (take m xs), length-take m xs, length-take n xs)))

  pub at_place : (P : X → Type 0) (xs : List X) (i : ℕ) (x : X) → All P xs → slice_get xs i ≡ Some x → P x
  at_place P xs i x all h = subst P (read xs i x x h) (all i x (slice_get_within xs i x h))

  -- an item of a list with one item more is one of the list, or that one
  pub old_or_last : (xs : List X) (y x : X) (i : ℕ) → slice_get (xs ++ y ∷ []) i ≡ Some x →
      (slice_get xs i ≡ Some x) ⊎ ((i ≡ length xs) × (y ≡ x))
  old_or_last xs y x i h = by (nat_lt i (length xs)) refl
    where
      by : (b : Bool) → nat_lt i (length xs) ≡ b → (slice_get xs i ≡ Some x) ⊎ ((i ≡ length xs) × (y ≡ x))
      by true e =
          let low = ltb-true i (length xs) e in
          inl (stands xs i x x low (sym (get_or-append xs (y ∷ []) x i low) ∙ read (xs ++ y ∷ []) i x x h))
      by false e =
          let high = ltb-false i (length xs) e in
          let low = slice_get_within (xs ++ y ∷ []) i x h in
          let place : i ≡ length xs = omega (arith, high, low, length-append xs (y ∷ [])) in
          inr (place, same_item y x (sym (last_stands xs y) ∙ ap (λ k. slice_get (xs ++ y ∷ []) k) (sym place) ∙ h))

  pub once_more : (xs : List X) (y : X) → IsOnce xs → ((i : ℕ) → slice_get xs i ≡ Some y → ⊥) → IsOnce (xs ++ y ∷ [])
  once_more xs y once new i j x h k = by (old_or_last xs y x i h) (old_or_last xs y x j k)
    where
      by : (slice_get xs i ≡ Some x) ⊎ ((i ≡ length xs) × (y ≡ x)) →
          (slice_get xs j ≡ Some x) ⊎ ((j ≡ length xs) × (y ≡ x)) → i ≡ j
      by (inl a) (inl b) = once i j x a b
      by (inl a) (inr b) = absurd (new i (a ∙ ap Some (sym b.1)))
      by (inr a) (inl b) = absurd (new j (b ∙ ap Some (sym a.1)))
      by (inr a) (inr b) = a.0 ∙ sym b.0

  pub once_in_front : (n : ℕ) (xs : List X) → IsOnce xs → IsOnce (take n xs)
  once_in_front n xs once i j x h k = once i j x (keeps_front n xs i x h) (keeps_front n xs j x k)

  -- where no item stands twice, a test of equality finds an item at its place
  pub found : (test : X → X → Bool) → ((x y : X) → IsTrue (test x y) → x ≡ y) → ((x : X) → IsTrue (test x x)) →
      (xs : List X) (d : X) (i : ℕ) → IsOnce xs → i < length xs → position_or_len (test (get_or xs i d)) xs ≡ i
  found test exact self xs d i once h =
      position_or_len_is (test (get_or xs i d)) xs i d (omega (arith, h)) earlier (λ _. self (get_or xs i d))
    where
      earlier : (k : ℕ) → k < i → test (get_or xs i d) (get_or xs k d) ≡ false
      earlier k low = by (test (get_or xs i d) (get_or xs k d)) refl
        where
          by : (b : Bool) → test (get_or xs i d) (get_or xs k d) ≡ b → b ≡ false
          by true e =
              let same = exact (get_or xs i d) (get_or xs k d) e in
              let place = once k i (get_or xs k d) (slice_get-get_or xs k d (omega (arith, low, h)))
              (slice_get-get_or xs i d h ∙ ap Some same) in
              absurd (omega (arith, low, place))
          by false e = refl

pub same_map : {X Y : Type 0} (f g : X → Y) (xs : List X) → All (λ x. f x ≡ g x) xs → map f xs ≡ map g xs
same_map f g [] h = refl
same_map f g (x ∷ xs) h =
    λ i. All-head (λ x. f x ≡ g x) x xs h i ∷ same_map f g xs (All-tail (λ x. f x ≡ g x) x xs h) i

-- what an item of a mapped list is made of
pub made_of : {X Y : Type 0} (f : X → Y) (xs : List X) (i : ℕ) (y : Y) → slice_get (map f xs) i ≡ Some y →
    (x : X) × (slice_get xs i ≡ Some x) × (f x ≡ y)
made_of {X} {Y} f xs i y h = by (slice_get xs i) refl (sym (slice_get-map f xs i) ∙ h)
  where
    by : (m : Option X) → slice_get xs i ≡ m → option_map f (slice_get xs i) ≡ Some y →
        (x : X) × (slice_get xs i ≡ Some x) × (f x ≡ y)
    by None e h = absurd (none_is (ap (option_map f) (sym e) ∙ h))
      where
        none_is : option_map f None ≡ Some y → ⊥
        none_is e = cc e
    by (Some x) e h = (x, e, same_item (f x) y (ap (option_map f) (sym e) ∙ h))

-- what an insertion into a set leaves of its keys, and that a new key was not among them
module _ {X : Type 0} (same : X → X → Bool) (reflects : (x : X) → same x x ≡ true) where
  any_at : (xs : List X) (i : ℕ) (x : X) → slice_get xs i ≡ Some x → list_any (same x) xs ≡ true
  any_at xs i x h = by xs i (slice_get_within xs i x h) (read xs i x x h)
    where
      by : (ys : List X) (k : ℕ) → k < length ys → get_or ys k x ≡ x → list_any (same x) ys ≡ true
      by [] k low e = absurd (omega (arith, low))
      by (y ∷ ys) zero low e = or_first (same x y) (list_any (same x) ys) (ap (same x) e ∙ reflects x)
      by (y ∷ ys) (suc k) low e = or_second (same x y) (list_any (same x) ys) (by ys k (omega (arith, low)) e)

  pub no_place : (xs : List X) (x : X) → list_any (same x) xs ≡ false → (i : ℕ) → slice_get xs i ≡ Some x → ⊥
  no_place xs x none i h = false_true (sym none ∙ any_at xs i x h)
    where
      false_true : false ≡ true → ⊥
      false_true e = cc e

  not_false : (b : Bool) → true ≡ not b → b ≡ false
  not_false true e = cc e
  not_false false e = refl

  -- of a set into which a key was put that was not there
  pub inserted : (xs ys : List X) (x : X) (b : Bool) → b ≡ true → b ≡ not (list_any (same x) xs) →
      ys ≡ (if list_any (same x) xs then xs else xs ++ x ∷ []) →
      ((i : ℕ) → slice_get xs i ≡ Some x → ⊥) × (ys ≡ xs ++ x ∷ [])
  inserted xs ys x b t added keys =
      let none = not_false (list_any (same x) xs) (sym t ∙ added) in
      (no_place xs x none, keys ∙ ap (λ c. if c then xs else xs ++ x ∷ []) none)

  not_true : (b : Bool) → false ≡ not b → b ≡ true
  not_true true e = refl
  not_true false e = cc e

  -- of a set in which the key was already
  pub there_before : ((x y : X) → same x y ≡ true → x ≡ y) → (xs ys : List X) (x : X) (b : Bool) (i : ℕ) →
      b ≡ false → b ≡ not (list_any (same x) xs) → ys ≡ (if list_any (same x) xs then xs else xs ++ x ∷ []) →
      (y : X) → slice_get ys i ≡ Some y → same x y ≡ true → slice_get xs i ≡ Some x
  there_before exact xs ys x b i f added keys y at told =
      let some = not_true (list_any (same x) xs) (sym f ∙ added) in
      let kept = keys ∙ ap (λ c. if c then xs else xs ++ x ∷ []) some in
      ap (λ l. slice_get l i) (sym kept) ∙ at ∙ ap (λ k. Some k) (sym (exact x y told))
