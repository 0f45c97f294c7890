use Rattle.unity_syntax.proofs.LookAhead.{grammar_is, document_is}
use Rattle.unity_syntax.proofs.reading.is_grammar.Goals as goal

pub returns : goal.returns
returns c = (grammar_is, document_is)
