use Rattle.grammar_theory.proofs.OneAnswer as answer
use Rattle.grammar_theory.proofs.one_answer.Goals as goal

pub returns : goal.returns
returns c = λ g e is form levels ts. answer.one_answer g e ts is form levels
