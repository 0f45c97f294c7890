use Rattle.grammar_theory.specs.Reader.{count}
use Rattle.unity_syntax.specs.Grammar.{multiple_}
use Rattle.unity_syntax.specs.View.{view_pair}
use Rattle.parser_programs.specs.from_parser_expressions.Gives.{remaining}
use Rattle.parser_programs.proofs.lemmas_from_parser_expressions.Repetition.{Items}
use Rattle.unity_parser.proofs.certificate.multiples.Given as goal

abbrev pub invariant-items : goal.invariant-items
invariant-items l = Items view_pair multiple_ l.depth (remaining l.fn.text) l.found (remaining l.rest)

abbrev pub decreases-items : goal.decreases-items
decreases-items l = count (remaining l.rest)
