use Rattle.grammar_theory.proofs.WordOrder.{words_kept}
use Rattle.grammar_theory.proofs.words_in_order.Goals as goal

pub returns : goal.returns
returns c = λ g e bodies keeps x ts derives. words_kept g bodies derives keeps
