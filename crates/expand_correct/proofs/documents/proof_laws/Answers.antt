use Rattle.expand_correct.proofs.Preserved.Proofs.{proofs_match, proofs_found}
use Rattle.expand_correct.proofs.documents.proof_laws.Goals as goal

pub returns-clause-proofs : goal.returns-clause-proofs
returns-clause-proofs c = proofs_match

pub returns-clause-found : goal.returns-clause-found
returns-clause-found c = proofs_found
