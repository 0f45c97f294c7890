use Rattle.expand_correct.proofs.Exact.Standing.{programs_stand, proofs_stand, steps_faultless}
use Rattle.expand_correct.proofs.exactness.part_laws.Goals as goal

pub returns-clause-programs : goal.returns-clause-programs
returns-clause-programs c = programs_stand

pub returns-clause-proofs : goal.returns-clause-proofs
returns-clause-proofs c = proofs_stand

pub returns-clause-steps : goal.returns-clause-steps
returns-clause-steps c = steps_faultless
