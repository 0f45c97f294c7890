use Rattle.grammar_theory.proofs.Theorems.{unique}
use Rattle.grammar_theory.proofs.one_tree.Goals as goal

pub returns : goal.returns
returns c = λ g e is form. unique g is e form
