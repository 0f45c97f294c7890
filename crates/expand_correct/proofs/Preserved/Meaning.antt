-- Programs and their core programs have the same executions.
use Rattle.expand_correct.proofs.Values.Matching.{matches_alike}
use Rattle.meaning_documents.specs.Setting.{programs_among}
use Rattle.expand_correct.proofs.Declared.Agreed.{ranges_agree}
use Rattle.expand_declarations.specs.WordNumbers.{document_words}
use Rattle.expand_documents.specs.Cores.{core_document}
use Rattle.expand_correct.specs.Preserved.Meaning.{SlotsMatch, ProgramsAlike}

pub slots_match : SlotsMatch
slots_match d = ranges_agree (document_words d) d.parts

pub programs_alike : ProgramsAlike
programs_alike d name c p h =
    matches_alike (programs_among d.parts) c p (core_document d).slots h.matches (slots_match d)
