use Rattle.meaning_documents.proofs.SystemTheorems.{every_state_in_range, source_alike}
use Rattle.meaning_documents.proofs.laws.system_laws.Goals as goal

pub returns-clause-range : goal.returns-clause-range
returns-clause-range c = every_state_in_range

pub returns-clause-source : goal.returns-clause-source
returns-clause-source c = source_alike
