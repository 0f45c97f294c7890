use Rattle.expand_correct.proofs.Exact.Statements.{statements_by_names, initially_by_names, always_by_names}
use Rattle.expand_correct.proofs.exactness.exact_program_laws.Goals as goal

pub returns-clause-statements : goal.returns-clause-statements
returns-clause-statements c = statements_by_names

pub returns-clause-initially : goal.returns-clause-initially
returns-clause-initially c = initially_by_names

pub returns-clause-always : goal.returns-clause-always
returns-clause-always c = always_by_names
