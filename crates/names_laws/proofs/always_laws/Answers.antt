use Rattle.names_laws.proofs.AlwaysNames.{defined_is_always}
use Rattle.names_laws.proofs.always_laws.Goals as goal

pub returns : goal.returns
returns c = defined_is_always
