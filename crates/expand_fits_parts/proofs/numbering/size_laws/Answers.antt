use Rattle.expand_fits_parts.proofs.Conditions.Sizes.{slots_are_few, statements_are_few}
use Rattle.expand_fits_parts.proofs.numbering.size_laws.Goals as goal

pub returns-clause-slots : goal.returns-clause-slots
returns-clause-slots c = slots_are_few

pub returns-clause-statements : goal.returns-clause-statements
returns-clause-statements c = statements_are_few
