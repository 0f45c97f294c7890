use Rattle.names_laws.proofs.AttributeTheorems.{exact_where_faultless, constant_as_read}
use Rattle.names_laws.proofs.attribute_laws.Goals as goal

pub returns-clause-exact : goal.returns-clause-exact
returns-clause-exact c = exact_where_faultless

pub returns-clause-constant : goal.returns-clause-constant
returns-clause-constant c = constant_as_read
