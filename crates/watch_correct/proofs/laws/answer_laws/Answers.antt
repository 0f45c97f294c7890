use Rattle.watch_correct.proofs.Finding.{one_watched, some_watched}
use Rattle.watch_correct.proofs.Stops.{no_stop, one_stop}
use Rattle.watch_correct.proofs.laws.answer_laws.Goals as goal

pub returns-clause-ending : goal.returns-clause-ending
returns-clause-ending c = one_watched

pub returns-clause-stop : goal.returns-clause-stop
returns-clause-stop c = one_stop

pub returns-clause-either : goal.returns-clause-either
returns-clause-either c = no_stop

pub returns-clause-some : goal.returns-clause-some
returns-clause-some c = some_watched
