use Rattle.expand_fits_parts.proofs.Conditions.Walk.{statements_apart, proofs_named}
use Rattle.expand_fits_parts.proofs.numbering.naming_laws.Goals as goal

pub returns-clause-statements : goal.returns-clause-statements
returns-clause-statements c = statements_apart

pub returns-clause-proofs : goal.returns-clause-proofs
returns-clause-proofs c = proofs_named
