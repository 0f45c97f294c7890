use Rattle.expand_fits_parts.proofs.Forms.Bodies.{documents_fit, programs_fit}
use Rattle.expand_fits_parts.proofs.fitting.document_laws.Goals as goal

pub returns-clause-scopes : goal.returns-clause-scopes
returns-clause-scopes c = documents_fit

pub returns-clause-programs : goal.returns-clause-programs
returns-clause-programs c = programs_fit
