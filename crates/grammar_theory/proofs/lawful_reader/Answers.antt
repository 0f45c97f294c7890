use Rattle.grammar_theory.proofs.Complete.{reader_lawful}
use Rattle.grammar_theory.proofs.lawful_reader.Goals as goal

pub returns : goal.returns
returns c = λ g e is good levels. reader_lawful g is levels e good
