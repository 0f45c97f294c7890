-- The slots that programs show, and the schedule.
use Rattle.std.specs.Prelude.{◌<◌, length, All}
use Rattle.unity_syntax.specs.declared.document.Document.{Document}
use Rattle.core_terms.specs.Conditions.{EachPair, ScheduleFits}
use Rattle.names_rules.specs.WellNamed.{IsWellNamed}
use Rattle.expand_declarations.specs.WordNumbers.{document_words}
use Rattle.expand_correct.specs.from_expand_documents.Cores.{core_document}

-- the slots that a program shows exist,
abbrev pub ShownSlotsExist : Type 0
ShownSlotsExist = (d : Document) →
    All (λ c. All (λ n. n < length (core_document d).slots) c.shown) (core_document d).programs

-- each once, in order
abbrev pub ShownSlotsRise : Type 0
ShownSlotsRise = (d : Document) → All (λ c. EachPair (λ m n. m < n) c.shown) (core_document d).programs

-- a schedule is of a program, and its labels are words
abbrev pub SchedulesFit : Type 0
SchedulesFit = (d : Document) → IsWellNamed d →
    ScheduleFits (document_words d) (core_document d).programs (core_document d).schedule
