use Rattle.unity_cli.proofs.Accepted.{followed_carry}
use Rattle.unity_cli.proofs.laws.layers_project.Goals as goal

pub returns-clause-carried : goal.returns-clause-carried
returns-clause-carried c = followed_carry
