use Rattle.expand_correct.proofs.Preserved.References.{using_refers, rules_refer, helpers_refer}
use Rattle.expand_correct.proofs.documents.reference_laws.Goals as goal

pub returns-clause-using : goal.returns-clause-using
returns-clause-using c = using_refers

pub returns-clause-rules : goal.returns-clause-rules
returns-clause-rules c = rules_refer

pub returns-clause-helpers : goal.returns-clause-helpers
returns-clause-helpers c = helpers_refer
