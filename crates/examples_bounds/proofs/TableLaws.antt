-- Lists that grow by an item at the end.
use Rattle.std.proofs.Common.{◌≡◌, ℕ, zero, suc, ◌+◌, ◌<◌, ◌⊎◌, inl, inr, List, [], ◌∷◌, ◌++◌, Bool, true, false}
use Rattle.std.proofs.Common.{◌||◌, Some}
use Rattle.std.proofs.Common.{IsTrue, refl, slice_get, length, arith, subst, sym, ap, ◌∙◌, nat_eq}
use Rattle.std.specs.Prelude.{All}
use Rattle.std.specs.List.{list_any}
use Rattle.std.proofs.lemmas.Option.{slice_get_within, get_or_from_slice_get}
use Rattle.std.proofs.lemmas.Bool.Decides.{eqb_tells}
use Rattle.core_terms.specs.declared.programs.CStmt.{CStmt}
use Rattle.core_terms.specs.Conditions.{AreApart, EachPair, is_shown}
use Rattle.examples_bounds.specs.Tables.{AreNumbered}

-- what stands in the longer list stands in the old one, or is the new item
last_or_before : {X : Type 0} (xs : List X) (y : X) (place : ℕ) (x : X) → slice_get (xs ++ y ∷ []) place ≡ Some x →
    (slice_get xs place ≡ Some x) ⊎ ((x ≡ y) × (place ≡ length xs))
last_or_before [] y zero x e = inr (cc, refl)
last_or_before [] y (suc place) x e = cc
last_or_before (z ∷ xs) y zero x e = inl e
last_or_before (z ∷ xs) y (suc place) x e = elim (last_or_before xs y place x e) [
  | inl w ↦ inl w
  | inr w ↦ inr (w.0, ap suc w.1)
]

pub pairs_push : {X : Type 0} (R : X → X → Type 0) (xs : List X) (y : X) → EachPair R xs →
    ((place : ℕ) (x : X) → slice_get xs place ≡ Some x → R x y) → EachPair R (xs ++ y ∷ [])
pairs_push R xs y pairs more i j x z h e f = elim (last_or_before xs y j z f) [
  | inl there ↦ elim (last_or_before xs y i x e) [
    | inl here ↦ pairs i j x z h here there
    | inr here ↦ let within = slice_get_within xs j z there in absurd (omega (arith, h, here.1, within))
  ]
  | inr there ↦ elim (last_or_before xs y i x e) [
    | inl here ↦ subst (λ u. R x u) (sym there.0) (more i x here)
    | inr here ↦ absurd (omega (arith, h, here.1, there.1))
  ]
]

pub labels_push : (ss : List CStmt) (s : CStmt) → AreNumbered ss → s.label ≡ length ss → AreNumbered (ss ++ s ∷ [])
labels_push ss s are e place t there = elim (last_or_before ss s place t there) [
  | inl here ↦ are place t here
  | inr here ↦ ap (λ (u : CStmt). u.label) here.0 ∙ e ∙ sym here.1
]

pub are_apart : (ss : List CStmt) → AreNumbered ss → EachPair AreApart ss
are_apart ss are i j s t h e f =
    let one = are i s e in
    let other = are j t f in
    record {
      differ = λ same alike. absurd (omega (arith, h, one, other, same));
      alike = λ same. absurd (omega (arith, h, one, other, same));
    }

or_any : (b more all : Bool) → (IsTrue more → IsTrue all) → IsTrue (b || more) → IsTrue (b || all)
or_any true more all f h = refl
or_any false more all f h = f h

or_right : (b more : Bool) → IsTrue more → IsTrue (b || more)
or_right true more h = refl
or_right false more h = h

any_left : (p : ℕ → Bool) (xs ys : List ℕ) → IsTrue (list_any p xs) → IsTrue (list_any p (xs ++ ys))
any_left p [] ys h = cc
any_left p (x ∷ xs) ys h = or_any (p x) (list_any p xs) (list_any p (xs ++ ys)) (any_left p xs ys) h

any_last : (n : ℕ) (xs : List ℕ) → IsTrue (list_any (λ m. nat_eq m n) (xs ++ n ∷ []))
any_last n [] = elim (eqb_tells n n) [
  | inl w ↦ rw w.0 refl
  | inr w ↦ absurd (w.1 refl)
]
any_last n (x ∷ xs) = or_right (nat_eq x n) (list_any (λ m. nat_eq m n) (xs ++ n ∷ [])) (any_last n xs)

pub shown_push : (shown : List ℕ) (slot : ℕ) → ((n : ℕ) → n < slot → IsTrue (is_shown shown n)) →
    (n : ℕ) → n < slot + 1 → IsTrue (is_shown (shown ++ slot ∷ []) n)
shown_push shown slot all n h = elim (eqb_tells n slot) [
  | inl w ↦ subst (λ m. IsTrue (is_shown (shown ++ slot ∷ []) m)) (sym w.1) (any_last slot shown)
  | inr w ↦
      let other : n ≡ slot → ⊥ = w.1 in
      any_left (λ m. nat_eq m n) shown (slot ∷ []) (all n (omega arith))
]

pub all_at : {X : Type 0} (P : X → Type 0) (xs : List X) → All P xs → (place : ℕ) (x : X) →
    slice_get xs place ≡ Some x → P x
all_at P xs all place x e =
    subst P (get_or_from_slice_get xs place x x e) (all place x (slice_get_within xs place x e))

pub all_raised : (xs : List ℕ) (n : ℕ) → All (λ m. m < n) xs → All (λ m. m < n + 1) xs
all_raised xs n all place d h = let less = all place d h in omega (arith, less)

pub no_pairs : {X : Type 0} (R : X → X → Type 0) → EachPair R []
no_pairs R i j x y h e f = cc

pub no_items : {X : Type 0} (P : X → Type 0) → All P []
no_items P place d h = absurd (omega arith)
