use Rattle.names_laws.proofs.Assignments.{exact_assignments}
use Rattle.names_laws.proofs.assignment_laws.Goals as goal

pub returns : goal.returns
returns c = exact_assignments
