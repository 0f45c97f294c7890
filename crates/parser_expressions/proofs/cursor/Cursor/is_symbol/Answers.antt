use Rattle.parser_expressions.proofs.WordClasses.{no_symbol}
use Rattle.parser_expressions.proofs.cursor.Cursor.is_symbol.Goals as goal

pub returns-in_default : goal.returns-in_default
returns-in_default c = no_symbol c.args.self.later c.args.kind c.args.wanted c.in_default.not-Symbol
