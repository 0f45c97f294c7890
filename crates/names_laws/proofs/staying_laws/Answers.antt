use Rattle.names_laws.proofs.Staying.{stays_in_documents, stays_in_variables, stays_in_definitions}
use Rattle.names_laws.proofs.staying_laws.Goals as goal

pub returns-clause-documents : goal.returns-clause-documents
returns-clause-documents c = stays_in_documents

pub returns-clause-variables : goal.returns-clause-variables
returns-clause-variables c = stays_in_variables

pub returns-clause-definitions : goal.returns-clause-definitions
returns-clause-definitions c = stays_in_definitions
