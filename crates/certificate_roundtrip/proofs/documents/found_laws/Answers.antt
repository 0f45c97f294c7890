use Rattle.certificate_roundtrip.proofs.FoundDocuments.{found_is_read}
use Rattle.certificate_roundtrip.proofs.FoundByTokens.{found_by_tokens}
use Rattle.certificate_roundtrip.proofs.SectionRead.{section_is_derived}
use Rattle.certificate_roundtrip.proofs.documents.found_laws.Goals as goal

pub returns-clause-section : goal.returns-clause-section
returns-clause-section c = section_is_derived

pub returns-clause-tokens : goal.returns-clause-tokens
returns-clause-tokens c = found_by_tokens

pub returns-clause-found : goal.returns-clause-found
returns-clause-found c = found_is_read
