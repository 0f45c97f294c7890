use Rattle.grammar_theory.proofs.Theorems.{unique}
use Rattle.unity_syntax.specs.Grammar.{grammar, document_}
use Rattle.unity_syntax.specs.View.{view}
use Rattle.unity_syntax.proofs.LookAhead.{grammar_is, document_is}
use Rattle.unity_syntax.proofs.BackDocuments.{view_injective}
use Rattle.unity_syntax.proofs.reading.one_document.Goals as goal

pub returns : goal.returns
returns c = λ d e ts one other. view_injective d e
    (unique grammar grammar_is document_ document_is (view d) (view e) ts one other)
