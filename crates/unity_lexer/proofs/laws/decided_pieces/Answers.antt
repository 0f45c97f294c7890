use Rattle.unity_lexer.proofs.Decided.{decided}
use Rattle.unity_lexer.proofs.laws.decided_pieces.Goals as goal

pub returns : goal.returns
returns c = decided
