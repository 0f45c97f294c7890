use Rattle.cli_words.proofs.Asking.{requests_are_asked}
use Rattle.cli_words.proofs.laws.request_laws.Goals as goal

pub returns : goal.returns
returns c = requests_are_asked
