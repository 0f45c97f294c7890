-- The slots of a well-named document meet the conditions on slots.
use Rattle.std.specs.Prelude.{◌<◌, ◌≤◌, List, length, All}
use Rattle.unity_syntax.specs.declared.declaration.Var.{Var}
use Rattle.unity_syntax.specs.declared.document.Document.{Document}
use Rattle.core_terms.specs.declared.programs.CSlot.{CSlot}
use Rattle.core_terms.specs.Conditions.{EachPair, IsSlot, IsWord, PrintWords}
use Rattle.names_rules.specs.WellNamed.{IsWellNamed}
use Rattle.expand_declarations.specs.Texts.{Texts, document_texts}
use Rattle.expand_declarations.specs.WordNumbers.{document_words}
use Rattle.expand_declarations.specs.Slots.{document_slots, DeclaredNear}
use Rattle.expand_declarations.specs.Shown.{shown_slots}

-- so few words that the number of each may be an end of a range; each stands at a byte of its own
pub record HasFewWords (d : Document) : Type 0 where
  pub few : length (document_texts d) ≤ 1000000000

-- each slot has a range, and as many words as its range has numbers where it prints words
abbrev pub SlotsAreSound : Type 0
SlotsAreSound = (d : Document) (words : Texts) → IsWellNamed d → HasFewWords d →
    All IsSlot (document_slots words d.parts)

-- no end of an array's indices is too large
abbrev pub IndicesAreNear : Type 0
IndicesAreNear = (d : Document) → IsWellNamed d → DeclaredNear d.parts

-- a slot's name, and the words that it prints, are words of the document
abbrev pub SlotsHaveWords : Type 0
SlotsHaveWords = (d : Document) → All (λ s. IsWord (document_words d) s.name × PrintWords (document_words d) s.print)
    (document_slots (document_words d) d.parts)

-- the slots that a program shows exist, each once and in order
abbrev pub ShownExist : Type 0
ShownExist = (words : Texts) (vs : List Var) (slots : List CSlot) →
    All (λ n. n < length slots) (shown_slots words vs slots)

abbrev pub ShownRise : Type 0
ShownRise = (words : Texts) (vs : List Var) (slots : List CSlot) → EachPair (λ m n. m < n) (shown_slots words vs slots)
