use Rattle.std.proofs.Common.{rules}
use Rattle.case_tables.specs.declared.symbol_table.Symbol.{Symbol}
use Rattle.unity_syntax.specs.Classes.{symbol}
use Rattle.unity_syntax.specs.Grammar.{one_or_more, init_}
use Rattle.unity_syntax.specs.View.{view_some, view_init}
use Rattle.parser_programs.proofs.programs.start.Goals as goal

pub returns : goal.returns
returns c = c.section.ensures (view_some view_init) (one_or_more (symbol Symbol.Comma) init_)
    c.args.depth (λ text r p. search rules)
