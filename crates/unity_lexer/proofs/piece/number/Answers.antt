use Rattle.std.proofs.Common.{sym, ◌∙◌}
use Rattle.std.specs.Char.{is_ascii_digit}
use Rattle.unity_lexer.proofs.Begins.{opens_from, number_test, number_begins, number_fails}
use Rattle.unity_lexer.proofs.piece.number.Goals as goal

pub returns-then-is_number : goal.returns-then-is_number
returns-then-is_number c =
    let text = c.args.text.now in
    let digits = c.digits-len.result in
    let told = c.digits-len.ensures in
    let opened = opens_from is_ascii_digit text c.requires.some c.requires.digit in
    number_begins text digits.0 digits.1 opened told.len told.value
    (number_test text digits.0 digits.1 opened told.len told.value ∙ sym c.is_number.ensures ∙ c.if-is_number.true)

pub returns-else-is_number : goal.returns-else-is_number
returns-else-is_number c =
    let text = c.args.text.now in
    let digits = c.digits-len.result in
    let told = c.digits-len.ensures in
    let opened = opens_from is_ascii_digit text c.requires.some c.requires.digit in
    number_fails text digits.0 opened told.len (number_test text digits.0 digits.1 opened told.len told.value ∙ sym
    c.is_number.ensures ∙ c.if-is_number.false)
