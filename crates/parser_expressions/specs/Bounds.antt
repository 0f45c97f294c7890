-- A bound name and its range: what stands before the form over which it ranges.
use Rattle.case_tables.specs.declared.symbol_table.Symbol.{Symbol}
use Rattle.grammar_theory.specs.Ebnf.{Tree, pair, Ebnf, both}
use Rattle.unity_syntax.specs.Classes.{symbol}
use Rattle.unity_syntax.specs.Grammar.{past, up_to, name_, range_}
use Rattle.unity_syntax.specs.View.{view_name, view_range}
use Rattle.parser_expressions.specs.declared.ranges.BoundName.{BoundName}

-- word ":" range, and the symbol
abbrev pub bound_ : Symbol → Ebnf
bound_ end = both name_ (past (symbol Symbol.Colon) (up_to range_ (symbol end)))

-- its tree
abbrev pub view_bound : BoundName → Tree
view_bound bound = pair (view_name bound.name) (view_range bound.range)

-- the tree of a form over which it ranges
abbrev pub view_bound_over : BoundName → Tree → Tree
view_bound_over bound x = pair (view_name bound.name) (pair (view_range bound.range) x)
