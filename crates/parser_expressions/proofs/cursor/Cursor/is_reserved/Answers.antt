use Rattle.std.proofs.Common.{◌∙◌, sym}
use Rattle.parser_expressions.proofs.WordClasses.{stands_as, stands_not}
use Rattle.parser_expressions.proofs.cursor.Cursor.is_reserved.Goals as goal

pub returns-then-stands : goal.returns-then-stands
returns-then-stands c = rw c.in-Reserved.is (c.eq.ensures ∙ stands_as c.args.self.later c.in-Reserved.word c.args.wanted
    (sym c.stands.ensures ∙ c.if-stands.true))

pub returns-else-stands : goal.returns-else-stands
returns-else-stands c = rw c.in-Reserved.is (c.if-stands.false ∙ stands_not c.args.self.later c.in-Reserved.word
    c.args.wanted (sym c.stands.ensures ∙ c.if-stands.false))
