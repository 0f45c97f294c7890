use Rattle.expand_fits_parts.proofs.Conditions.Counted.{instances_counted}
use Rattle.expand_fits_parts.proofs.Conditions.Instances.{instances_apart, instances_labelled}
use Rattle.expand_fits_parts.proofs.numbering.statement_laws.Goals as goal

pub returns-clause-counted : goal.returns-clause-counted
returns-clause-counted c = instances_counted

pub returns-clause-apart : goal.returns-clause-apart
returns-clause-apart c = instances_apart

pub returns-clause-labelled : goal.returns-clause-labelled
returns-clause-labelled c = instances_labelled
