-- What holds of each item of a list, by recursion.
use Rattle.std.proofs.Common.{◌≡◌, ℕ, zero, suc, List, [], ◌∷◌, ◌++◌, Bool, true, false, Some, IsTrue, refl, subst}
use Rattle.std.proofs.Common.{slice_get, arith}
use Rattle.std.specs.Prelude.{All}
use Rattle.std.specs.List.{find}

abbrev pub Each : {X : Type 0} → (X → Type 0) → List X → Type 0
Each P [] = Unit {0}
Each P (x ∷ xs) = P x × Each P xs

pub from_all : {X : Type 0} (P : X → Type 0) (xs : List X) → All P xs → Each P xs
from_all P [] all = tt
from_all P (x ∷ xs) all = (all zero x (omega arith), from_all P xs (λ k d h. all (suc k) d (omega arith)))

pub each_parts : {X : Type 0} (P : X → Type 0) (xs ys : List X) → Each P (xs ++ ys) → Each P xs × Each P ys
each_parts P [] ys h = (tt, h)
each_parts P (x ∷ xs) ys h = let rest = each_parts P xs ys h.1 in ((h.0, rest.0), rest.1)

pub each_join : {X : Type 0} (P : X → Type 0) (xs ys : List X) → Each P xs → Each P ys → Each P (xs ++ ys)
each_join P [] ys h k = k
each_join P (x ∷ xs) ys h k = (h.0, each_join P xs ys h.1 k)

pub each_at : {X : Type 0} (P : X → Type 0) (xs : List X) → Each P xs → (place : ℕ) (x : X) →
    slice_get xs place ≡ Some x → P x
each_at P [] h place x e = cc
each_at P (y ∷ xs) h zero x e = let same : y ≡ x = cc in subst P same h.0
each_at P (y ∷ xs) h (suc place) x e = each_at P xs h.1 place x e

pub each_map : {X : Type 0} (P Q : X → Type 0) (xs : List X) → ((x : X) → P x → Q x) → Each P xs → Each Q xs
each_map P Q [] f h = tt
each_map P Q (x ∷ xs) f h = (f x h.0, each_map P Q xs f h.1)

-- what is found stands in the list, and passes the test
pub record Found {X : Type 0} (test : X → Bool) (xs : List X) (x : X) : Type 0 where
  pub place : ℕ
  pub there : slice_get xs place ≡ Some x
  pub passes : IsTrue (test x)

found_by : {X : Type 0} (test : X → Bool) (y : X) (xs : List X) (x : X) → (b : Bool) → test y ≡ b →
    (find test xs ≡ Some x → Found test xs x) → find test (y ∷ xs) ≡ Some x → Found test (y ∷ xs) x
found_by test y xs x true t rest e =
    let first : Some y ≡ Some x = rw t at e in
    let same : y ≡ x = cc in
    record { place = 0; there = first; passes = subst (λ z. IsTrue (test z)) same t }
found_by test y xs x false t rest e =
    let further : find test xs ≡ Some x = rw t at e in
    let more = rest further in
    record { place = suc more.place; there = more.there; passes = more.passes }

pub found_in : {X : Type 0} (test : X → Bool) (xs : List X) (x : X) → find test xs ≡ Some x → Found test xs x
found_in test [] x e = cc
found_in test (y ∷ xs) x e = found_by test y xs x (test y) refl (λ h. found_in test xs x h) e
