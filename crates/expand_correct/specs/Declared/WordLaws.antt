-- The number of a word finds it, and tells it from others.
use Rattle.std.specs.Prelude.{◌≡◌, ℕ, List, [], Bool, true, Some, slice_get}
use Rattle.std.specs.List.{list_any}
use Rattle.std.specs.Str.{bytes_eq}
use Rattle.expand_declarations.specs.Texts.{Texts}
use Rattle.expand_declarations.specs.WordNumbers.{with_texts, word_number}

-- whether a text is among others
abbrev pub is_among : Texts → List ℕ → Bool
is_among texts text = list_any (bytes_eq text) texts

-- a text that was gathered stands at its number
abbrev pub WordsFound : Type 0
WordsFound = (texts : Texts) (text : List ℕ) → is_among texts text ≡ true →
    slice_get (with_texts [] texts) (word_number (with_texts [] texts) text) ≡ Some text

-- so texts with one number are equal
abbrev pub NumbersTell : Type 0
NumbersTell = (texts : Texts) (one other : List ℕ) → is_among texts one ≡ true → is_among texts other ≡ true →
    word_number (with_texts [] texts) one ≡ word_number (with_texts [] texts) other → one ≡ other
