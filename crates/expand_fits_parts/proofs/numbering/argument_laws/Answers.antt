use Rattle.expand_fits_parts.proofs.Conditions.StepNumbers.{steps_fit}
use Rattle.expand_fits_parts.proofs.Conditions.HelperIndices.{helpers_indexed}
use Rattle.expand_fits_parts.proofs.numbering.argument_laws.Goals as goal

pub returns-clause-steps : goal.returns-clause-steps
returns-clause-steps c = steps_fit

pub returns-clause-helpers : goal.returns-clause-helpers
returns-clause-helpers c = helpers_indexed
