use Rattle.std.proofs.Common.{◌≡◌, drop, map}
use Rattle.grammar_theory.specs.Ebnf.{has}
use Rattle.unity_syntax.specs.Classes.{reserved, class_of}
use Rattle.parser_expressions.proofs.cursor.Cursor.word_in.Given as goal

abbrev pub invariant-loop-word : goal.invariant-loop-word
invariant-loop-word l = has (map reserved (drop l.word-index l.wanted)) (class_of l.self.later l.kind) ≡
    has (map reserved l.wanted) (class_of l.self.later l.kind)
