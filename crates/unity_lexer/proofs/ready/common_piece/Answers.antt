use Rattle.unity_lexer.proofs.ReadyTokens.{lone_begins}
use Rattle.unity_lexer.proofs.ready.common_piece.Goals as goal

pub returns-in-Some : goal.returns-in-Some
returns-in-Some c =
    lone_begins c.args.text.now c.in-Some.symbol c.requires c.in-Some.ensures.other c.in-Some.ensures.symbol
