use Rattle.expand_correct.proofs.Preserved.Terms.{terms_say}
use Rattle.expand_correct.proofs.documents.term_laws.Goals as goal

pub returns : goal.returns
returns c = terms_say
