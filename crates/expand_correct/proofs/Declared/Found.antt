-- The number of a word finds it.
use Rattle.std.proofs.Common.{◌≡◌, ℕ, suc, ◌+◌, ◌<◌, List, [], ◌∷◌, ◌++◌, length, Bool, true, false, cond, not}
use Rattle.std.proofs.Common.{nat_lt, Some, None, refl, sym, ap, ◌∙◌, subst, arith, slice_get}
use Rattle.std.specs.Prelude.{◌||◌, unwrap_or}
use Rattle.std.specs.List.{list_any, position_or_len}
use Rattle.std.specs.Str.{bytes_eq}
use Rattle.std.proofs.lemmas.Slice.Eq.{bytes_eq-Decides}
use Rattle.std.proofs.lemmas.List.Folds.{list_any-append}
use borrow.Author.Tests.{ltb-false}
use Rattle.expand_declarations.specs.Texts.{Texts}
use Rattle.expand_declarations.specs.WordNumbers.{with_text, with_texts, word_number}
use Rattle.expand_correct.specs.Declared.WordLaws.{is_among, WordsFound, NumbersTell}

-- a text that stands at this place
pub record StandsAt (texts : Texts) (text : List ℕ) (place : ℕ) : Type 0 where
  pub within : place < length texts
  pub found : slice_get texts place ≡ Some text

stands : (texts : Texts) (text : List ℕ) → is_among texts text ≡ true →
    StandsAt texts text (position_or_len (bytes_eq text) texts)
stands [] text h = cc h
stands (t ∷ ts) text h = by (bytes_eq text t) (bytes_eq-Decides text t).0 h (stands ts text)
  where
    by : (b : Bool) → (b ≡ true → text ≡ t) → (b || is_among ts text) ≡ true →
        (is_among ts text ≡ true → StandsAt ts text (position_or_len (bytes_eq text) ts)) →
        StandsAt (t ∷ ts) text (cond (not b) (1 + position_or_len (bytes_eq text) ts) 0)
    by true same h rest = record { within = omega arith; found = ap (λ x. Some x) (sym (same refl)) }
    by false same h rest = let place = position_or_len (bytes_eq text) ts in let r = rest h in
        let more : suc place ≡ 1 + place = omega arith in
        subst (λ (n : ℕ). StandsAt (t ∷ ts) text n) more (record
        { within = omega (arith, r.within); found = r.found })

placed : (b : Bool) (place count : ℕ) → nat_lt place count ≡ b → place < count →
    unwrap_or (cond b (Some place) None) 0 ≡ place
placed true place count e h = refl
placed false place count e h = absurd (omega (arith, ltb-false place count e))

-- a text of a table stands at its number
pub stands_at_number : (texts : Texts) (text : List ℕ) → is_among texts text ≡ true →
    StandsAt texts text (word_number texts text)
stands_at_number texts text h = let s = stands texts text h in
    subst (λ (n : ℕ). StandsAt texts text n)
    (sym (placed _ (position_or_len (bytes_eq text) texts) (length texts) refl s.within)) s

pub or_left : (a b : Bool) → a ≡ true → (a || b) ≡ true
or_left true b h = refl
or_left false b h = cc h

pub or_right : (a b : Bool) → b ≡ true → (a || b) ≡ true
or_right true b h = refl
or_right false b h = h

kept_one : (words : Texts) (more text : List ℕ) → is_among words text ≡ true →
    is_among (with_text words more) text ≡ true
kept_one words more text h = by (list_any (bytes_eq more) words)
  where
    by : (b : Bool) → is_among (cond b words (words ++ more ∷ [])) text ≡ true
    by true = h
    by false = list_any-append (bytes_eq text) words (more ∷ []) ∙ or_left (is_among words text) _ h

kept : (words more : Texts) (text : List ℕ) → is_among words text ≡ true → is_among (with_texts words more) text ≡
    true
kept words [] text h = h
kept words (t ∷ ts) text h = kept (with_text words t) ts text (kept_one words t text h)

entered : (words : Texts) (text : List ℕ) → is_among (with_text words text) text ≡ true
entered words text = by (list_any (bytes_eq text) words) refl
  where
    by : (b : Bool) → is_among words text ≡ b → is_among (cond b words (words ++ text ∷ [])) text ≡ true
    by true h = h
    by false h = list_any-append (bytes_eq text) words (text ∷ [])
        ∙ or_right (is_among words text) (bytes_eq text text || false)
        (or_left (bytes_eq text text) false ((bytes_eq-Decides text text).1 refl))

-- each text that is gathered is in the table
pub gathered : (words more : Texts) (text : List ℕ) → is_among more text ≡ true →
    is_among (with_texts words more) text ≡ true
gathered words [] text h = cc h
gathered words (t ∷ ts) text h =
    by (bytes_eq text t) (bytes_eq-Decides text t).0 h (gathered (with_text words t) ts text)
  where
    by : (b : Bool) → (b ≡ true → text ≡ t) → (b || is_among ts text) ≡ true →
        (is_among ts text ≡ true → is_among (with_texts (with_text words t) ts) text ≡ true) →
        is_among (with_texts (with_text words t) ts) text ≡ true
    by true same h rest = kept (with_text words t) ts text
        (subst (λ (u : List ℕ). is_among (with_text words u) text ≡ true) (same refl) (entered words text))
    by false same h rest = rest h

pub words_found : WordsFound
words_found texts text h = (stands_at_number (with_texts [] texts) text (gathered [] texts text h)).found

pub numbers_tell : NumbersTell
numbers_tell texts one other h k e =
    let here = words_found texts one h in let there = words_found texts other k in
    let both : Some one ≡ Some other =
    sym here ∙ ap (slice_get (with_texts [] texts)) e ∙ there in cc
