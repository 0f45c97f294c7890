use Rattle.std.proofs.Common.{sym, ◌∙◌}
use Rattle.unity_lexer.specs.Pieces.{is_other}
use Rattle.unity_lexer.proofs.Begins.{opens_from, symbol_begins, symbol_fails}
use Rattle.unity_lexer.proofs.piece.symbol.Goals as goal

pub returns-in-Some : goal.returns-in-Some
returns-in-Some c =
    let text = c.args.text.now in
    symbol_begins text c.in-Some.symbol c.in-Some.len (opens_from is_other text c.requires.some c.requires.other)
    (sym c.first_symbol.ensures ∙ c.in-Some.is)

pub returns-in-None : goal.returns-in-None
returns-in-None c =
    let text = c.args.text.now in
    symbol_fails text c.requires.some (opens_from is_other text c.requires.some c.requires.other)
    (sym c.first_symbol.ensures ∙ c.in-None.is)
