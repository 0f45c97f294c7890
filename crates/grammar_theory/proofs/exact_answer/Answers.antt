use Rattle.grammar_theory.proofs.Theorems.{exact}
use Rattle.grammar_theory.proofs.exact_answer.Goals as goal

pub returns : goal.returns
returns c = λ g e is form. exact g is e form
