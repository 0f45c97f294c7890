use Rattle.expand_correct.proofs.Exact.Formulas.{formulas_by_names}
use Rattle.expand_correct.proofs.exactness.exact_proof_laws.Goals as goal

pub returns : goal.returns
returns c = formulas_by_names
