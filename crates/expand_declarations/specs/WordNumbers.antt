-- The numbers of words: the places of their texts in a table.
use Rattle.std.specs.Prelude.{ℕ, List, [], ◌∷◌, ◌++◌, cond, fold, position, unwrap_or}
use Rattle.std.specs.List.{list_any}
use Rattle.std.specs.Str.{bytes_eq}
use Rattle.unity_syntax.specs.declared.document.Document.{Document}
use Rattle.expand_declarations.specs.Texts.{Texts, document_texts}

-- a table with one more text, where it is new
abbrev pub with_text : Texts → List ℕ → Texts
with_text words text = cond (list_any (bytes_eq text) words) words (words ++ text ∷ [])

-- a table with further texts, each once, in order of first appearance
abbrev pub with_texts : Texts → Texts → Texts
with_texts words texts = fold with_text words texts

-- the words of a document, each once, in order of first appearance
abbrev pub document_words : Document → Texts
document_words d = with_texts [] (document_texts d)

-- the number of a word is its place; 0 where it is not there
abbrev pub word_number : Texts → List ℕ → ℕ
word_number words text = unwrap_or (position (bytes_eq text) words) 0
