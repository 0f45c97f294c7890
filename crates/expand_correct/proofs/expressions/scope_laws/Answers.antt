use Rattle.expand_correct.proofs.Values.Agreeing.{document_agrees}
use Rattle.expand_correct.proofs.expressions.scope_laws.Goals as goal

pub returns : goal.returns
returns c = document_agrees
