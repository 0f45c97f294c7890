use Rattle.expand_fits_parts.proofs.Conditions.Proofs.{proof_programs_differ, step_names_differ, parameters_have_ranges}
use Rattle.expand_fits_parts.proofs.Conditions.Proofs.{kinds_fit}
use Rattle.expand_fits_parts.proofs.numbering.proof_laws.Goals as goal

pub returns-clause-programs : goal.returns-clause-programs
returns-clause-programs c = proof_programs_differ

pub returns-clause-names : goal.returns-clause-names
returns-clause-names c = step_names_differ

pub returns-clause-params : goal.returns-clause-params
returns-clause-params c = parameters_have_ranges

pub returns-clause-kinds : goal.returns-clause-kinds
returns-clause-kinds c = kinds_fit
