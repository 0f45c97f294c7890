-- The slots and the words of the core form are those of what a document means.
use Rattle.std.specs.Prelude.{◌≡◌, ℤ, List, [], map, length}
use Rattle.unity_syntax.specs.declared.document.Part.{Part}
use Rattle.meaning_documents.specs.Setting.{Setting, setting_of, programs_among, with_declarations, slot_count}
use Rattle.meaning_documents.specs.Setting.{slot_ranges}
use Rattle.core_terms.specs.declared.programs.CSlot.{CSlot}
use Rattle.expand_declarations.specs.Texts.{Texts}
use Rattle.expand_declarations.specs.Slots.{declared_by, document_slots}
use Rattle.expand_declarations.specs.Start.{enumeration_words}

-- what the programs among parts declare together
abbrev pub setting_by : List Part → Setting
setting_by parts = setting_of (programs_among parts)

-- the lowest and the highest number of a slot
abbrev pub slot_ends : CSlot → ℤ × ℤ
slot_ends s = (s.range.lo, s.range.hi)

-- the variables that are laid out are those of what the document means,
abbrev pub VariablesAgree : Type 0
VariablesAgree = (parts : List Part) → with_declarations [] (declared_by parts) ≡ (setting_by parts).variables

-- so are the words of enumerations,
abbrev pub WordsAgree : Type 0
WordsAgree = (parts : List Part) → enumeration_words parts ≡ (setting_by parts).words

-- the ranges of the slots,
abbrev pub RangesAgree : Type 0
RangesAgree = (words : Texts) (parts : List Part) →
    map slot_ends (document_slots words parts) ≡ slot_ranges (setting_by parts).variables

-- and their number
abbrev pub CountsAgree : Type 0
CountsAgree = (words : Texts) (parts : List Part) →
    length (document_slots words parts) ≡ slot_count (setting_by parts).variables
