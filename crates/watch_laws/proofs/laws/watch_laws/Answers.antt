use Rattle.watch_laws.proofs.Alike.{violations_alike}
use Rattle.watch_laws.proofs.Accepted.{none_on_accepted}
use Rattle.watch_laws.proofs.laws.watch_laws.Goals as goal

pub returns-clause-alike : goal.returns-clause-alike
returns-clause-alike c = violations_alike

pub returns-clause-accepted : goal.returns-clause-accepted
returns-clause-accepted c = none_on_accepted
