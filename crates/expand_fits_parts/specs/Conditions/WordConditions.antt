-- Each number of a word in the core form of a document's programs is the place of that word.
use Rattle.std.specs.Prelude.{◌≡◌, ℕ, List, true, Some, slice_get, All}
use Rattle.unity_syntax.specs.declared.document.Document.{Document}
use Rattle.core_terms.specs.Conditions.{ProgramWords}
use Rattle.expand_declarations.specs.Texts.{document_texts}
use Rattle.expand_declarations.specs.WordNumbers.{document_words, word_number}
use Rattle.expand_correct.specs.Declared.WordLaws.{is_among}
use Rattle.expand_correct.specs.from_expand_documents.Cores.{core_document}

-- a text that the core form names has its place,
abbrev pub TextsHavePlaces : Type 0
TextsHavePlaces = (d : Document) (text : List ℕ) → is_among (document_texts d) text ≡ true →
    slice_get (document_words d) (word_number (document_words d) text) ≡ Some text

-- and two texts with one number are equal
abbrev pub NumbersTellTexts : Type 0
NumbersTellTexts = (d : Document) (one other : List ℕ) → is_among (document_texts d) one ≡ true →
    is_among (document_texts d) other ≡ true →
    word_number (document_words d) one ≡ word_number (document_words d) other → one ≡ other

-- the names of programs and the labels of their statements are words
abbrev pub ProgramsHaveWords : Type 0
ProgramsHaveWords = (d : Document) → All (ProgramWords (document_words d)) (core_document d).programs
