use Rattle.std.proofs.Common.{◌+◌, ◌<◌, length, subst}
use Rattle.unity_lexer.specs.Pieces.{BeginsWith}
use Rattle.unity_lexer.specs.Windows.{piece_size}
use Rattle.unity_lexer.proofs.Coming.{comment_ahead, word_ahead}
use Rattle.unity_lexer.proofs.ahead.long_piece.Goals as goal

pub returns-in-Gap-clause-comes : goal.returns-in-Gap-clause-comes
returns-in-Gap-clause-comes c = λ limit at more.
    comment_ahead c.args.text.now more c.in-Gap.field-0
    (subst (λ p. BeginsWith c.args.text.now p) c.in-Gap.is c.requires.begins)
    (subst (λ p. length c.args.text.now < piece_size p + 2) c.in-Gap.is c.requires.open) c.requires.full

pub returns-in-Token-clause-comes : goal.returns-in-Token-clause-comes
returns-in-Token-clause-comes c = λ limit at more.
    word_ahead limit at c.args.text.now more c.in-Token.field-0 c.in-Token.field-1
    (subst (λ p. BeginsWith c.args.text.now p) c.in-Token.is c.requires.begins)
    (subst (λ p. length c.args.text.now < piece_size p + 2) c.in-Token.is c.requires.open) c.requires.full
