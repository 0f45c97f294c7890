use Rattle.names_laws.proofs.AttributeTheorems.{documents_vary, variables_vary, definitions_vary}
use Rattle.names_laws.proofs.table_laws.Goals as goal

pub returns-clause-documents : goal.returns-clause-documents
returns-clause-documents c = documents_vary

pub returns-clause-variables : goal.returns-clause-variables
returns-clause-variables c = variables_vary

pub returns-clause-definitions : goal.returns-clause-definitions
returns-clause-definitions c = definitions_vary
