use Rattle.names_laws.proofs.Mirrored.{mirrored_by_documents, mirrored_by_variables, mirrored_by_definitions}
use Rattle.names_laws.proofs.Mirrored.{variables_stay, plain_slot, variable_found}
use Rattle.names_laws.proofs.variable_laws.Goals as goal

pub returns-clause-documents : goal.returns-clause-documents
returns-clause-documents c = mirrored_by_documents

pub returns-clause-variables : goal.returns-clause-variables
returns-clause-variables c = mirrored_by_variables

pub returns-clause-definitions : goal.returns-clause-definitions
returns-clause-definitions c = mirrored_by_definitions

pub returns-clause-stay : goal.returns-clause-stay
returns-clause-stay c = variables_stay

pub returns-clause-plain_slot : goal.returns-clause-plain_slot
returns-clause-plain_slot c = plain_slot

pub returns-clause-found : goal.returns-clause-found
returns-clause-found c = variable_found
