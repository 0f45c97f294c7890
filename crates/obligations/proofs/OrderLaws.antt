-- Variables in order: those that `make` finds are, and what is sought among them is found by halves.
use Rattle.std.proofs.Common.{◌≡◌, ℕ, zero, suc, nat_eq, nat_lt, ◌+◌, ◌<◌, ◌≤◌, Bool, true, false, cond, not, ◌&&◌}
use Rattle.std.proofs.Common.{◌||◌, Some, List, [], ◌∷◌, ◌++◌, length, drop, take, slice_index_or, slice_get, eq-eqb}
use Rattle.std.proofs.Common.{arith, refl, sym, ap, ◌∙◌}
use Rattle.std.specs.List.{filter, list_all}
use Rattle.std.proofs.lemmas.Bool.{and_parts, not-true}
use Rattle.std.proofs.lemmas.Bool.Decides.{nat_tests}
use Rattle.std.proofs.lemmas.List.Folds.{list_all-append}
use Rattle.core_terms.specs.declared.trees.CForm.{CForm}
use Rattle.core_terms.specs.declared.trees.Range.{Range}
use Rattle.obligations.specs.declared.branches.Variable.{Variable}
use Rattle.obligations.specs.LinearForms.{is_named, place_of}
use Rattle.obligations.specs.Variables.{form_has, numbered, occurring, variables_of}
use Rattle.obligations.specs.Obligations.{is_lower, is_before, are_in_order}

-- Filtered lists.
cond-all : {A : Type 0} (p : A → Bool) (b : Bool) (x : A) (xs : List A) → p x ≡ true → list_all p xs ≡ true →
    list_all p (cond b (x ∷ xs) xs) ≡ true
cond-all p true x xs e h = ap (λ z. z && list_all p xs) e ∙ h
cond-all p false x xs e h = h

pub filter-all : {A : Type 0} (p q : A → Bool) (xs : List A) → list_all p xs ≡ true → list_all p (filter q xs) ≡ true
filter-all p q [] h = refl
filter-all p q (x ∷ xs) h =
    let s = and_parts (p x) (list_all p xs) h in cond-all p (q x) x (filter q xs) s.0 (filter-all p q xs s.1)

cond-passes : {A : Type 0} (p : A → Bool) (b : Bool) (x : A) (xs : List A) → p x ≡ b → list_all p xs ≡ true →
    list_all p (cond b (x ∷ xs) xs) ≡ true
cond-passes p true x xs e h = ap (λ z. z && list_all p xs) e ∙ h
cond-passes p false x xs e h = h

pub filter-passes : {A : Type 0} (p : A → Bool) (xs : List A) → list_all p (filter p xs) ≡ true
filter-passes p [] = refl
filter-passes p (x ∷ xs) = cond-passes p (p x) x (filter p xs) refl (filter-passes p xs)

-- Numbered variables are in order.
lt-true : (a b : ℕ) → a < b → nat_lt a b ≡ true
lt-true a b h = grind arith

before-later : (param : Bool) (n k : ℕ) (r s : Range) → n < k →
    is_before (record { param = param; number = n; range = r }) (record { param = param; number = k; range = s }) ≡
    true
before-later true n k r s h = lt-true n k h
before-later false n k r s h = lt-true n k h

numbered-later : (param : Bool) (n k : ℕ) (r : Range) (rs : List Range) → n < k →
    list_all (is_before (record { param = param; number = n; range = r })) (numbered param k rs) ≡ true
numbered-later param n k r [] h = refl
numbered-later param n k r (s ∷ rs) h =
    ap (λ z. z && list_all (is_before (record { param = param; number = n; range = r })) (numbered param (suc k) rs))
    (before-later param n k r s h) ∙ numbered-later param n (suc k) r rs (omega arith)

cond-order : (b : Bool) (v : Variable) (vs : List Variable) → list_all (is_before v) vs ≡ true →
    are_in_order vs ≡ true → are_in_order (cond b (v ∷ vs) vs) ≡ true
cond-order true v vs e h = ap (λ z. z && are_in_order vs) e ∙ h
cond-order false v vs e h = h

numbered-order : (q : Variable → Bool) (param : Bool) (k : ℕ) (rs : List Range) →
    are_in_order (filter q (numbered param k rs)) ≡ true
numbered-order q param k [] = refl
numbered-order q param k (r ∷ rs) =
    let v : Variable = record { param = param; number = k; range = r } in
    cond-order (q v) v (filter q (numbered param (suc k) rs))
    (filter-all (is_before v) q (numbered param (suc k) rs) (numbered-later param k (suc k) r rs (omega arith)))
    (numbered-order q param (suc k) rs)

numbered-slots : (k : ℕ) (rs : List Range) → list_all (λ (v : Variable). not v.param) (numbered false k rs) ≡ true
numbered-slots k [] = refl
numbered-slots k (r ∷ rs) = numbered-slots (suc k) rs

numbered-params : (k : ℕ) (rs : List Range) → list_all (λ (v : Variable). v.param) (numbered true k rs) ≡ true
numbered-params k [] = refl
numbered-params k (r ∷ rs) = numbered-params (suc k) rs

slot-before : (p q : Bool) (m n : ℕ) → not p ≡ true → q ≡ true → cond p (q && nat_lt m n) (q || nat_lt m n) ≡ true
slot-before true q m n h e = cc
slot-before false q m n h e = ap (λ z. z || nat_lt m n) e

slot-before-params : (v : Variable) (ws : List Variable) → not v.param ≡ true →
    list_all (λ (w : Variable). w.param) ws ≡ true → list_all (is_before v) ws ≡ true
slot-before-params v [] h e = refl
slot-before-params v (w ∷ ws) h e =
    let s = and_parts w.param (list_all (λ (w : Variable). w.param) ws) e in
    ap (λ z. z && list_all (is_before v) ws) (slot-before v.param w.param v.number w.number h s.0)
    ∙ slot-before-params v ws h s.1

slots-then-params : (vs ws : List Variable) → are_in_order vs ≡ true → are_in_order ws ≡ true →
    list_all (λ (v : Variable). not v.param) vs ≡ true → list_all (λ (v : Variable). v.param) ws ≡ true →
    are_in_order (vs ++ ws) ≡ true
slots-then-params [] ws h k e f = k
slots-then-params (v ∷ vs) ws h k e f =
    let s = and_parts (list_all (is_before v) vs) (are_in_order vs) h in
    let t = and_parts (not v.param) (list_all (λ (v : Variable). not v.param) vs) e in
    ap (λ z. z && are_in_order (vs ++ ws)) (list_all-append (is_before v) vs ws
    ∙ ap (λ z. z && list_all (is_before v) ws) s.0 ∙ slot-before-params v ws t.0 f)
    ∙ slots-then-params vs ws s.1 k t.1 f

pub variables-order : (f : CForm) (slots params : List Range) → are_in_order (variables_of f slots params) ≡ true
variables-order f slots params =
    let has : Variable → Bool = λ v. form_has v.param v.number f in
    slots-then-params (occurring f (numbered false 0 slots)) (occurring f (numbered true 0 params))
    (numbered-order has false 0 slots) (numbered-order has true 0 params)
    (filter-all (λ (v : Variable). not v.param) has (numbered false 0 slots) (numbered-slots 0 slots))
    (filter-all (λ (v : Variable). v.param) has (numbered true 0 params) (numbered-params 0 params))

-- The order of slots and parameters.
lower-lower : (p q r : Bool) (m n l : ℕ) → is_lower p m q n ≡ true → is_lower q n r l ≡ true → is_lower p m r l ≡ true
lower-lower true true true m n l e f = grind (arith, nat_tests)
lower-lower true true false m n l e f = f
lower-lower true false r m n l e f = absurd (cc)
lower-lower false true true m n l e f = refl
lower-lower false true false m n l e f = absurd (cc)
lower-lower false false true m n l e f = refl
lower-lower false false false m n l e f = grind (arith, nat_tests)

lower-unnamed : (p q : Bool) (m n : ℕ) → is_lower p m q n ≡ true → (cond p q (not q) && nat_eq m n) ≡ false
lower-unnamed true true m n e = grind (arith, nat_tests)
lower-unnamed true false m n e = refl
lower-unnamed false true m n e = refl
lower-unnamed false false m n e = grind (arith, nat_tests)

higher : (p q : Bool) (m n : ℕ) → is_lower p m q n ≡ false → (cond p q (not q) && nat_eq m n) ≡ false →
    is_lower q n p m ≡ true
higher true true m n e f = grind (arith, nat_tests)
higher true false m n e f = refl
higher false true m n e f = absurd (cc)
higher false false m n e f = grind (arith, nat_tests)

by-test : (b : Bool) → (b ≡ true → false ≡ true) → b ≡ false
by-test true h = sym (h refl)
by-test false h = refl

-- What is sought by halves.
module _ (param : Bool) (number : ℕ) where
  abbrev L : Variable → Bool
  L v = is_lower v.param v.number param number

  abbrev named : Variable → Bool
  named v = is_named v param number

  at-item : (p : Variable → Bool) (vs : List Variable) (i : ℕ) (d : Variable) → i < length vs →
      list_all p vs ≡ true → p (slice_index_or vs i d) ≡ true
  at-item p [] i d h e = absurd (omega arith)
  at-item p (v ∷ vs) zero d h e = (and_parts (p v) (list_all p vs) e).0
  at-item p (v ∷ vs) (suc i) d h e = at-item p vs i d (omega arith) (and_parts (p v) (list_all p vs) e).1

  -- all up to a lower one are lower
  pub lower-to : (vs : List Variable) (i : ℕ) (d : Variable) → are_in_order vs ≡ true → i < length vs →
      L (slice_index_or vs i d) ≡ true → list_all L (take (i + 1) vs) ≡ true
  lower-to [] i d o h e = absurd (omega arith)
  lower-to (v ∷ vs) zero d o h e = ap (λ z. z && true) e
  lower-to (v ∷ vs) (suc i) d o h e =
      let s = and_parts (list_all (is_before v) vs) (are_in_order vs) o in
      let k : suc i + 1 ≡ suc (i + 1) = omega arith in
      let w : Variable = slice_index_or vs i d in
      let first = lower-lower v.param w.param param v.number w.number number
      (at-item (is_before v) vs i d (omega arith) s.0) e in
      ap (λ n. list_all L (take n (v ∷ vs))) k ∙ ap (λ z. z && list_all L (take (i + 1) vs)) first
      ∙ lower-to vs i d s.1 (omega arith) e

  none-lower : (v : Variable) (vs : List Variable) → list_all (is_before v) vs ≡ true → L v ≡ false →
      list_all (λ w. not (L w)) vs ≡ true
  none-lower v [] o e = refl
  none-lower v (w ∷ vs) o e =
      let s = and_parts (is_before v w) (list_all (is_before v) vs) o in
      let this : L w ≡ false = by-test (L w)
      (λ t. sym e ∙ lower-lower v.param w.param param v.number w.number number s.0 t) in
      ap (λ z. not z && list_all (λ w. not (L w)) vs) this ∙ none-lower v vs s.1 e

  -- all from one that is not lower on are not
  pub upper-from : (vs : List Variable) (i : ℕ) (d : Variable) → are_in_order vs ≡ true → i < length vs →
      L (slice_index_or vs i d) ≡ false → list_all (λ w. not (L w)) (drop i vs) ≡ true
  upper-from [] i d o h e = absurd (omega arith)
  upper-from (v ∷ vs) zero d o h e =
      let s = and_parts (list_all (is_before v) vs) (are_in_order vs) o in
      ap (λ z. not z && list_all (λ w. not (L w)) vs) e ∙ none-lower v vs s.0 e
  upper-from (v ∷ vs) (suc i) d o h e =
      let s = and_parts (list_all (is_before v) vs) (are_in_order vs) o in
      upper-from vs i d s.1 (omega arith) e

  -- the variable is where those before it are lower
  pub place-here : (vs : List Variable) (i : ℕ) (d : Variable) → i < length vs → list_all L (take i vs) ≡ true →
      named (slice_index_or vs i d) ≡ true → i ≡ place_of vs param number
  place-here [] i d h l e = absurd (omega arith)
  place-here (v ∷ vs) zero d h l e = sym (ap (λ b. cond b zero (suc (place_of vs param number))) e)
  place-here (v ∷ vs) (suc i) d h l e =
      let s = and_parts (L v) (list_all L (take i vs)) l in
      ap suc (place-here vs i d (omega arith) s.1 e)
      ∙ sym (ap (λ b. cond b zero (suc (place_of vs param number)))
      (lower-unnamed v.param param v.number number s.0))

  no-place-after : (v : Variable) (vs : List Variable) → is_lower param number v.param v.number ≡ true →
      list_all (is_before v) vs ≡ true → place_of vs param number ≡ length vs
  no-place-after v [] h o = refl
  no-place-after v (w ∷ vs) h o =
      let s = and_parts (is_before v w) (list_all (is_before v) vs) o in
      let below = lower-lower param v.param w.param number v.number w.number h s.0 in
      ap (λ b. cond b zero (suc (place_of vs param number))) (unnamed-lower w.param param w.number number below)
      ∙ ap suc (no-place-after v vs h s.1)
    where
      unnamed-lower : (p q : Bool) (m n : ℕ) → is_lower q n p m ≡ true → (cond p q (not q) && nat_eq m n) ≡ false
      unnamed-lower true true m n e = grind (arith, nat_tests)
      unnamed-lower true false m n e = refl
      unnamed-lower false true m n e = refl
      unnamed-lower false false m n e = grind (arith, nat_tests)

  -- and else it is nowhere
  pub no-place : (vs : List Variable) (i : ℕ) (d : Variable) → are_in_order vs ≡ true → i ≤ length vs →
      list_all L (take i vs) ≡ true → list_all (λ w. not (L w)) (drop i vs) ≡ true →
      (i < length vs → named (slice_index_or vs i d) ≡ false) → length vs ≡ place_of vs param number
  no-place [] i d o h l u e = refl
  no-place (v ∷ vs) zero d o h l u e =
      let s = and_parts (list_all (is_before v) vs) (are_in_order vs) o in
      let t = and_parts (not (L v)) (list_all (λ w. not (L w)) vs) u in
      let here = e (omega arith) in
      sym (ap (λ b. cond b zero (suc (place_of vs param number))) here
      ∙ ap suc (no-place-after v vs (higher v.param param v.number number (not-true (L v) t.0) here) s.0))
  no-place (v ∷ vs) (suc i) d o h l u e =
      let s = and_parts (list_all (is_before v) vs) (are_in_order vs) o in
      let t = and_parts (L v) (list_all L (take i vs)) l in
      ap suc (no-place vs i d s.1 (omega arith) t.1 u (λ k. e (omega (arith, k))))
      ∙ sym (ap (λ b. cond b zero (suc (place_of vs param number)))
      (lower-unnamed v.param param v.number number t.0))

-- what is so of all items is so of each
pub all-get : {A : Type 0} (p : A → Bool) (xs : List A) (i : ℕ) (x : A) → slice_get xs i ≡ Some x →
    list_all p xs ≡ true → p x ≡ true
all-get p [] i x e h = absurd (cc)
all-get p (y ∷ xs) zero x e h = let same : y ≡ x = cc in ap p (sym same) ∙ (and_parts (p y) (list_all p xs) h).0
all-get p (y ∷ xs) (suc i) x e h = all-get p xs i x e (and_parts (p y) (list_all p xs) h).1

pub each-all : {A : Type 0} (p : A → Bool) (xs : List A) →
    ((i : ℕ) (x : A) → slice_get xs i ≡ Some x → p x ≡ true) → list_all p xs ≡ true
each-all p [] h = refl
each-all p (x ∷ xs) h = ap (λ z. z && list_all p xs) (h 0 x refl) ∙ each-all p xs (λ i y e. h (suc i) y e)

-- a variable's own name has its own place
pub own-place : (vs : List Variable) (i : ℕ) (v : Variable) → are_in_order vs ≡ true → slice_get vs i ≡ Some v →
    place_of vs v.param v.number ≡ i
own-place [] i v o e = absurd (cc)
own-place (w ∷ vs) zero v o e =
    let same : w ≡ v = cc in
    ap (λ b. cond b zero (suc (place_of vs v.param v.number)))
    (ap (λ x. is_named x v.param v.number) same ∙ self v.param v.number)
  where
    self : (p : Bool) (n : ℕ) → (cond p p (not p) && nat_eq n n) ≡ true
    self true n = eq-eqb n n refl
    self false n = eq-eqb n n refl
own-place (w ∷ vs) (suc i) v o e =
    let s = and_parts (list_all (is_before w) vs) (are_in_order vs) o in
    ap (λ b. cond b zero (suc (place_of vs v.param v.number)))
    (lower-unnamed w.param v.param w.number v.number (all-get (is_before w) vs i v e s.0))
    ∙ ap suc (own-place vs i v s.1 e)
