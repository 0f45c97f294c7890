use Rattle.watch_correct.proofs.Finding.{watches_say}
use Rattle.watch_correct.proofs.laws.watch_laws.Goals as goal

pub returns : goal.returns
returns c = watches_say
