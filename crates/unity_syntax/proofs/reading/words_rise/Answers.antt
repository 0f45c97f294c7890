use Rattle.grammar_theory.proofs.WordOrder.{words_kept}
use Rattle.unity_syntax.specs.Grammar.{grammar}
use Rattle.unity_syntax.proofs.WordsKept.{bodies_keep, document_keeps}
use Rattle.unity_syntax.proofs.reading.words_rise.Goals as goal

pub returns : goal.returns
returns c = λ x ts derives. words_kept grammar bodies_keep derives document_keeps
