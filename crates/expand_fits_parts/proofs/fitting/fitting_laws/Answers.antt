use Rattle.expand_fits_parts.proofs.Forms.Scopes.{formulas_fit, numbers_fit, instances_fit, definitions_fit}
use Rattle.expand_fits_parts.proofs.fitting.fitting_laws.Goals as goal

pub returns-clause-formulas : goal.returns-clause-formulas
returns-clause-formulas c = formulas_fit

pub returns-clause-numbers : goal.returns-clause-numbers
returns-clause-numbers c = numbers_fit

pub returns-clause-instances : goal.returns-clause-instances
returns-clause-instances c = instances_fit

pub returns-clause-definitions : goal.returns-clause-definitions
returns-clause-definitions c = definitions_fit
