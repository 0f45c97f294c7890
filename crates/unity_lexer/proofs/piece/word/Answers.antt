use Rattle.std.proofs.Common.{take, sym, subst}
use Rattle.std.specs.Char.{is_ascii_alphabetic}
use Rattle.unity_syntax.specs.declared.token.TokenKind.TheVariants as kind
use Rattle.case_tables.specs.Rows.{HasName}
use Rattle.case_tables.specs.TableRows.{word_rows}
use Rattle.unity_lexer.specs.declared.piece.Piece.TheVariants.{Token}
use Rattle.unity_lexer.specs.Tokens.{Spells}
use Rattle.unity_lexer.specs.Pieces.{BeginsWith}
use Rattle.unity_lexer.proofs.Begins.{opens_from, word_begins}
use Rattle.unity_lexer.proofs.piece.word.Goals as goal

pub returns-in-Some : goal.returns-in-Some
returns-in-Some c =
    let text = c.args.text.now in
    let k = kind.Reserved c.in-Some.word in
    subst (λ n. BeginsWith text (Token k n)) (sym c.word_len-len.ensures)
    (word_begins text k (opens_from is_ascii_alphabetic text c.requires.some c.requires.letter)
    (λ _. subst (λ n. Spells (take n text) k) c.word_len-len.ensures c.in-Some.ensures))

pub returns-in-None : goal.returns-in-None
returns-in-None c =
    let text = c.args.text.now in
    subst (λ n. BeginsWith text (Token kind.Word n)) (sym c.word_len-len.ensures)
    (word_begins text kind.Word (opens_from is_ascii_alphabetic text c.requires.some c.requires.letter)
    (λ made. (
      made,
      λ named. c.in-None.ensures (subst (λ n. HasName word_rows (take n text))
          (sym c.word_len-len.ensures) named),
    )))
