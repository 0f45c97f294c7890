use Rattle.meaning_documents.proofs.SystemTheorems.{union_is_together}
use Rattle.meaning_documents.proofs.laws.union_laws.Goals as goal

pub returns-clause-together : goal.returns-clause-together
returns-clause-together c = union_is_together
