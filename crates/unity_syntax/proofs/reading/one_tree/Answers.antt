use Rattle.grammar_theory.proofs.Theorems.{unique}
use Rattle.unity_syntax.proofs.LookAhead.{grammar_is, document_is}
use Rattle.unity_syntax.specs.Grammar.{grammar, document_}
use Rattle.unity_syntax.proofs.reading.one_tree.Goals as goal

pub returns : goal.returns
returns c = unique grammar grammar_is document_ document_is
