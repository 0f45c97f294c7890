use Rattle.certificate_roundtrip.proofs.SectionLaws.{section_is_read}
use Rattle.certificate_roundtrip.proofs.PlaceLaws.{front_is_read, whole_is_read}
use Rattle.certificate_roundtrip.proofs.PlainLaws.{refuting_is_small}
use Rattle.certificate_roundtrip.proofs.SmallLaws.{small_are_readable}
use Rattle.certificate_roundtrip.proofs.sections.section_laws.Goals as goal

pub returns-clause-refuting : goal.returns-clause-refuting
returns-clause-refuting c = refuting_is_small

pub returns-clause-numbers : goal.returns-clause-numbers
returns-clause-numbers c = small_are_readable

pub returns-clause-section : goal.returns-clause-section
returns-clause-section c = section_is_read

pub returns-clause-front : goal.returns-clause-front
returns-clause-front c = front_is_read

pub returns-clause-whole : goal.returns-clause-whole
returns-clause-whole c = whole_is_read
