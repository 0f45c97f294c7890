use Rattle.expand_fits_parts.proofs.Conditions.Programs.{program_names_differ, unions_fit}
use Rattle.expand_fits_parts.proofs.numbering.program_laws.Goals as goal

pub returns-clause-names : goal.returns-clause-names
returns-clause-names c = program_names_differ

pub returns-clause-unions : goal.returns-clause-unions
returns-clause-unions c = unions_fit
