use Rattle.std.proofs.Common.{rules, sym, subst}
use Rattle.unity_lexer.specs.declared.piece.Piece.TheVariants.{Gap}
use Rattle.unity_lexer.specs.Pieces.{BeginsWith}
use Rattle.unity_lexer.proofs.Begins.{blank_begins, comment_begins}
use Rattle.unity_lexer.proofs.piece.first_piece.Goals as goal

pub returns-then-is_blank : goal.returns-then-is_blank
returns-then-is_blank c = blank_begins c.args.text.now c.requires (search (rules, c.if-is_blank.ensures))

pub returns-then-first-eq35 : goal.returns-then-first-eq35
returns-then-first-eq35 c = subst (λ n. BeginsWith c.args.text.now (Gap n)) (sym c.line_len.ensures)
    (comment_begins c.args.text.now c.requires c.if-first-eq35.true)
