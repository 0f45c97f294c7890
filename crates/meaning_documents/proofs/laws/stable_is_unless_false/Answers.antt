use Rattle.meaning_documents.proofs.SystemTheorems.{stable_is_unless_false}
use Rattle.meaning_documents.proofs.laws.stable_is_unless_false.Goals as goal

pub returns : goal.returns
returns c = stable_is_unless_false
