use Rattle.expand_correct.proofs.Declared.Names.{programs_differ, proofs_differ, steps_differ, params_have_ranges}
use Rattle.expand_correct.proofs.declarations.name_laws.Goals as goal

pub returns-clause-programs : goal.returns-clause-programs
returns-clause-programs c = programs_differ

pub returns-clause-proofs : goal.returns-clause-proofs
returns-clause-proofs c = proofs_differ

pub returns-clause-steps : goal.returns-clause-steps
returns-clause-steps c = steps_differ

pub returns-clause-params : goal.returns-clause-params
returns-clause-params c = params_have_ranges
