-- What holds of all items of a list, and lists side by side.
use Rattle.std.proofs.Common.{◌≡◌, ℕ, zero, suc, nat_eq, List, [], ◌∷◌, map, Bool, true}
use Rattle.std.proofs.Common.{false, Option, Some}
use Rattle.std.proofs.Common.{refl, sym, ap, subst, inl, inr}
use Rattle.std.specs.Prelude.{unwrap_or}
use Rattle.std.specs.Str.{bytes_eq}
use Rattle.std.proofs.lemmas.Bool.Decides.{eqb_tells}
use Rattle.std.proofs.lemmas.Slice.Eq.{bytes_eq-Decides}
use Rattle.core_terms.proofs.BoolLaws.{self_equal}
use Rattle.expand_declarations.specs.Texts.{Texts}
use Rattle.expand_declarations.specs.WordNumbers.{with_texts, word_number}
use Rattle.expand_correct.specs.Declared.WordLaws.{is_among}
use Rattle.expand_correct.proofs.Declared.Found.{words_found, numbers_tell, or_left, or_right}
use Rattle.schedule_replay.specs.Lines.{word_text}
use Rattle.expand_correct.specs.Exact.Parts.{EachItem}

pub weaker : {X : Type 0} (P Q : X → Type 0) → ((x : X) → P x → Q x) → (xs : List X) → EachItem P xs →
    EachItem Q xs
weaker P Q f xs h place x e = f x (h place x e)

pub behind : {X : Type 0} (P : X → Type 0) (x : X) (xs : List X) → EachItem P (x ∷ xs) → EachItem P xs
behind P x xs h place y e = h (suc place) y e

pub none_of : {X : Type 0} (P : X → Type 0) → EachItem P []
none_of P place x e = cc e

pub some_same : {X : Type 0} (x y : X) → Some x ≡ Some y → x ≡ y
some_same x y e = cc e

pub first_same : {X : Type 0} (x y : X) (xs ys : List X) → x ∷ xs ≡ y ∷ ys → x ≡ y
first_same x y xs ys e = cc e

pub rest_same : {X : Type 0} (x y : X) (xs ys : List X) → x ∷ xs ≡ y ∷ ys → xs ≡ ys
rest_same x y xs ys e = cc e

-- numbers and words

pub nat_same : (m n : ℕ) → nat_eq m n ≡ true → m ≡ n
nat_same m n t = elim (eqb_tells m n) [
  | inl w ↦ w.1
  | inr w ↦ let no = w.0 in cc
]

pub same_nat : (m n : ℕ) → m ≡ n → nat_eq m n ≡ true
same_nat m n e = subst (λ (k : ℕ). nat_eq m k ≡ true) e (self_equal m)

pub same_text : (a b : List ℕ) → bytes_eq a b ≡ true → a ≡ b
same_text a b h = (bytes_eq-Decides a b).0 h

pub text_same : (a b : List ℕ) → a ≡ b → bytes_eq a b ≡ true
text_same a b h = (bytes_eq-Decides a b).1 h

-- each text that is gathered from items is among them
pub each_among : {X : Type 0} (f : X → List ℕ) (xs : List X) →
    EachItem (λ x. is_among (map f xs) (f x) ≡ true) xs
each_among f [] place x e = cc e
each_among f (y ∷ ys) zero x e = let same : y ≡ x = cc in
    or_left (bytes_eq (f x) (f y)) (is_among (map f ys) (f x)) (text_same (f x) (f y) (ap f (sym same)))
each_among f (y ∷ ys) (suc place) x e =
    or_right (bytes_eq (f x) (f y)) (is_among (map f ys) (f x)) (each_among f ys place x e)

-- the number of a gathered text is that of its word
pub word_is : (texts : Texts) (text : List ℕ) → is_among texts text ≡ true →
    word_text (with_texts [] texts) (word_number (with_texts [] texts) text) ≡ text
word_is texts text h = ap (λ (o : Option (List ℕ)). unwrap_or o []) (words_found texts text h)

both_ways : (a b : Bool) → (a ≡ true → b ≡ true) → (b ≡ true → a ≡ true) → a ≡ b
both_ways true b f g = sym (f refl)
both_ways false true f g = g refl
both_ways false false f g = refl

-- gathered texts are the same where their numbers are
pub numbers_as_texts : (texts : Texts) (one other : List ℕ) → is_among texts one ≡ true →
    is_among texts other ≡ true →
    nat_eq (word_number (with_texts [] texts) one) (word_number (with_texts [] texts) other) ≡ bytes_eq one other
numbers_as_texts texts one other h k = let number = word_number (with_texts [] texts) in
    both_ways (nat_eq (number one) (number other)) (bytes_eq one other)
    (λ t. text_same one other (numbers_tell texts one other h k (nat_same (number one) (number other) t)))
    (λ t. same_nat (number one) (number other) (ap number (same_text one other t)))
