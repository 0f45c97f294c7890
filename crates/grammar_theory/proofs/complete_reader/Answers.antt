use Rattle.grammar_theory.proofs.Complete.{complete}
use Rattle.grammar_theory.proofs.complete_reader.Goals as goal

pub returns : goal.returns
returns c = λ g e is good x ts derives levels rest. complete g is derives good levels rest
