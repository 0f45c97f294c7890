use Rattle.expand_correct.proofs.Preserved.Matching.{programs_match, cores_match}
use Rattle.expand_correct.proofs.Preserved.Meaning.{slots_match, programs_alike}
use Rattle.expand_correct.proofs.documents.program_laws.Goals as goal

pub returns-clause-programs : goal.returns-clause-programs
returns-clause-programs c = programs_match

pub returns-clause-cores : goal.returns-clause-cores
returns-clause-cores c = cores_match

pub returns-clause-slots : goal.returns-clause-slots
returns-clause-slots c = slots_match

pub returns-clause-alike : goal.returns-clause-alike
returns-clause-alike c = programs_alike
