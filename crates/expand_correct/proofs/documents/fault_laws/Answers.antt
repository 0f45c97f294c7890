use Rattle.expand_correct.proofs.Preserved.Faultless.{slots_are_few, headings_faultless, bodies_faultless}
use Rattle.expand_correct.proofs.documents.fault_laws.Goals as goal

pub returns-clause-slots : goal.returns-clause-slots
returns-clause-slots c = slots_are_few

pub returns-clause-headings : goal.returns-clause-headings
returns-clause-headings c = headings_faultless

pub returns-clause-bodies : goal.returns-clause-bodies
returns-clause-bodies c = bodies_faultless
