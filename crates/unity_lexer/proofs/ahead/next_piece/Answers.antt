use Rattle.unity_lexer.proofs.Coming.{decided_at}
use Rattle.unity_lexer.proofs.ahead.next_piece.Goals as goal

pub returns-in-Some-clause-ahead : goal.returns-in-Some-clause-ahead
returns-in-Some-clause-ahead g c =
    decided_at c.args.w.now (g.S.Source.left c.args.src.now) c.in-Some.piece c.bytes.result.now c.bytes.ensures
    c.in-Some.ensures.begins c.in-Some.ensures.decided
