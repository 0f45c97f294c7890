use Rattle.expand_correct.proofs.Preserved.ExactPrograms.{programs_exact}
use Rattle.expand_correct.proofs.documents.exact_laws.Goals as goal

pub returns : goal.returns
returns c = programs_exact
