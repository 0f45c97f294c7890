use Rattle.grammar_theory.specs.Reader.{count}
use Rattle.unity_syntax.specs.Grammar.{part_}
use Rattle.unity_syntax.specs.View.{view_part}
use Rattle.parser_programs.specs.from_parser_expressions.Gives.{remaining}
use Rattle.parser_programs.proofs.lemmas_from_parser_expressions.Repetition.{Items}
use Rattle.unity_parser.proofs.documents.parts.Given as goal

abbrev pub invariant-items : goal.invariant-items
invariant-items l = Items view_part part_ l.depth (remaining l.fn.text) l.found (remaining l.rest)

abbrev pub decreases-items : goal.decreases-items
decreases-items l = count (remaining l.rest)
