use Rattle.watch_correct.proofs.Finding.{none_violated}
use Rattle.watch_correct.proofs.laws.accepted_laws.Goals as goal

pub returns : goal.returns
returns c = none_violated
