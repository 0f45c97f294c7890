-- Sets of classes, and what tokens begin with.
use Rattle.std.proofs.Common.{◌≡◌, ℕ, Bool, true, false, not, ◌&&◌, ◌||◌, eqb, List, [], ◌∷◌, ◌++◌, refl, sym, ◌∙◌}
use Rattle.std.proofs.Common.{eq-eqb, eqb-true}
use Rattle.grammar_theory.specs.Ebnf.{Terminal, place_of, has}
use Rattle.grammar_theory.specs.LookAhead.{apart}
use Rattle.grammar_theory.specs.Reader.{begins}

pub and_left : (a b : Bool) → (a && b) ≡ true → a ≡ true
and_left true b h = refl
and_left false b h = h

pub and_right : (a b : Bool) → (a && b) ≡ true → b ≡ true
and_right true b h = h
and_right false b h = cc

pub or_left : (a b : Bool) → a ≡ true → (a || b) ≡ true
or_left true b h = refl
or_left false b h = cc

pub or_right : (a b : Bool) → b ≡ true → (a || b) ≡ true
or_right true b h = refl
or_right false b h = h

pub or_false_left : (a b : Bool) → (a || b) ≡ false → a ≡ false
or_false_left true b h = h
or_false_left false b h = refl

pub or_false_right : (a b : Bool) → (a || b) ≡ false → b ≡ false
or_false_right true b h = cc
or_false_right false b h = h

pub not_true : (a : Bool) → not a ≡ true → a ≡ false
not_true true h = sym h
not_true false h = refl

pub has_append : (xs ys : List ℕ) (n : ℕ) → has (xs ++ ys) n ≡ (has xs n || has ys n)
has_append [] ys n = refl
has_append (x ∷ xs) ys n = go (eqb x n) (has_append xs ys n)
  where
    go : (b : Bool) → has (xs ++ ys) n ≡ (has xs n || has ys n) → (b || has (xs ++ ys) n) ≡
        ((b || has xs n) || has ys n)
    go true h = refl
    go false h = h

pub has_left : (xs ys : List ℕ) (n : ℕ) → has xs n ≡ true → has (xs ++ ys) n ≡ true
has_left xs ys n h = has_append xs ys n ∙ or_left (has xs n) (has ys n) h

pub has_right : (xs ys : List ℕ) (n : ℕ) → has ys n ≡ true → has (xs ++ ys) n ≡ true
has_right xs ys n h = has_append xs ys n ∙ or_right (has xs n) (has ys n) h

-- a class is in the set of itself
pub has_itself : (c n : ℕ) → n ≡ c → has (c ∷ []) n ≡ true
has_itself c n h = or_left (eqb c n) false (eq-eqb c n (sym h))

pub has_one : (c n : ℕ) → has (c ∷ []) n ≡ true → n ≡ c
has_one c n h = go (eqb c n) refl h
  where
    go : (b : Bool) → eqb c n ≡ b → (b || false) ≡ true → n ≡ c
    go true q e = sym (eqb-true c n q)
    go false q e = cc

pub begins_append : (xs ys : List ℕ) (ts : List Terminal) → begins (xs ++ ys) ts ≡ (begins xs ts || begins ys ts)
begins_append xs ys [] = refl
begins_append xs ys (t ∷ ts) = has_append xs ys t.class

pub none_left : (xs ys : List ℕ) (ts : List Terminal) → begins (xs ++ ys) ts ≡ false → begins xs ts ≡ false
none_left xs ys ts h = or_false_left (begins xs ts) (begins ys ts) (sym (begins_append xs ys ts) ∙ h)

pub none_right : (xs ys : List ℕ) (ts : List Terminal) → begins (xs ++ ys) ts ≡ false → begins ys ts ≡ false
none_right xs ys ts h = or_false_right (begins xs ts) (begins ys ts) (sym (begins_append xs ys ts) ∙ h)

pub apart_has : (xs ys : List ℕ) (n : ℕ) → apart xs ys ≡ true → has xs n ≡ true → has ys n ≡ false
apart_has [] ys n h e = cc
apart_has (x ∷ xs) ys n h e = go (apart_has xs ys n (and_right (not (has ys x)) (apart xs ys) h)) (eqb x n) refl e
  where
    go : (has xs n ≡ true → has ys n ≡ false) → (b : Bool) → eqb x n ≡ b → (b || has xs n) ≡ true → has ys n ≡ false
    go again true q e = rw (← eqb-true x n q) (not_true (has ys x) (and_left (not (has ys x)) (apart xs ys) h))
    go again false q e = again e

pub apart_begins : (xs ys : List ℕ) (ts : List Terminal) → apart xs ys ≡ true → begins xs ts ≡ true → begins ys ts ≡
    false
apart_begins xs ys [] h e = refl
apart_begins xs ys (t ∷ ts) h e = apart_has xs ys t.class h e

-- the first token alone tells how tokens begin, and where
pub begins_same : (classes : List ℕ) (us : List Terminal) (t : Terminal) (was now : List Terminal) → begins classes
    (us ++ t ∷ was) ≡ begins classes (us ++ t ∷ now)
begins_same classes [] t was now = refl
begins_same classes (u ∷ us) t was now = refl

pub place_same : (us : List Terminal) (t : Terminal) (was now : List Terminal) → place_of (us ++ t ∷ was) ≡ place_of
    (us ++ t ∷ now)
place_same [] t was now = refl
place_same (u ∷ us) t was now = refl
