use Rattle.unity_lexer.proofs.Coming.{decided_at, more_at}
use Rattle.unity_lexer.proofs.ahead.settled.Goals as goal

pub returns-then-is_decided-clause-ahead : goal.returns-then-is_decided-clause-ahead
returns-then-is_decided-clause-ahead c = λ left end.
    decided_at c.args.w.now left c.first_piece-piece.result c.bytes-bytes.result.now c.bytes-bytes.ensures
    c.first_piece-piece.ensures (c.is_decided.ensures.0 c.if-is_decided.true)

pub returns-then-full-clause-ahead : goal.returns-then-full-clause-ahead
returns-then-full-clause-ahead c = λ left end.
    more_at c.args.w.now left c.long_piece.result c.bytes-bytes.result.now c.bytes-bytes.ensures
    c.long_piece.ensures.comes
