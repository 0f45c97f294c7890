use Rattle.std.proofs.Common.{◌≡◌, drop, map}
use Rattle.grammar_theory.specs.Ebnf.{has}
use Rattle.unity_syntax.specs.Classes.{symbol, class_of}
use Rattle.parser_expressions.proofs.cursor.Cursor.symbol_in.Given as goal

abbrev pub invariant-loop-symbol : goal.invariant-loop-symbol
invariant-loop-symbol l = has (map symbol (drop l.symbol-index l.wanted)) (class_of l.self.later l.kind) ≡
    has (map symbol l.wanted) (class_of l.self.later l.kind)
