use Rattle.grammar_theory.specs.Reader.{count}
use Rattle.case_tables.specs.declared.symbol_table.Symbol.{Symbol}
use Rattle.unity_syntax.specs.Classes.{symbol}
use Rattle.unity_syntax.specs.Grammar.{past, inst_}
use Rattle.unity_syntax.specs.View.{view_inst}
use Rattle.parser_programs.specs.from_parser_expressions.Gives.{remaining}
use Rattle.parser_programs.proofs.lemmas_from_parser_expressions.Repetition.{Items}
use Rattle.unity_parser.proofs.schedules.more_insts.Given as goal

abbrev pub invariant-items : goal.invariant-items
invariant-items l = Items view_inst (past (symbol Symbol.Comma) inst_) l.depth (remaining l.fn.text) l.found
    (remaining l.rest)

abbrev pub decreases-items : goal.decreases-items
decreases-items l = count (remaining l.rest)
