use Rattle.expand_correct.proofs.Exact.Statements.{statements_seen, initially_seen}
use Rattle.expand_correct.proofs.Exact.Formulas.{formulas_seen}
use Rattle.expand_correct.proofs.exactness.seen_laws.Goals as goal

pub returns-clause-statements : goal.returns-clause-statements
returns-clause-statements c = statements_seen

pub returns-clause-initially : goal.returns-clause-initially
returns-clause-initially c = initially_seen

pub returns-clause-formulas : goal.returns-clause-formulas
returns-clause-formulas c = formulas_seen
