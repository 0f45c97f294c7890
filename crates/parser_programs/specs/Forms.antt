-- Forms of statements and types that stand in brackets.
use Rattle.case_tables.specs.declared.symbol_table.Symbol.{Symbol}
use Rattle.grammar_theory.specs.Ebnf.{Ebnf, inside}
use Rattle.unity_syntax.specs.Classes.{symbol}
use Rattle.unity_syntax.specs.Kinds.{Contents, contents}

-- "<||" word ":" range "::" assign "|>"
abbrev pub parallel_ : Ebnf
parallel_ = inside (symbol Symbol.OpenParallel) (contents Contents.assign) (symbol Symbol.CloseQuantified)

-- "<[]" word ":" range "::" items "|>"
abbrev pub box_ : Ebnf
box_ = inside (symbol Symbol.OpenChoice) (contents Contents.items) (symbol Symbol.CloseQuantified)

-- "{" word { "," word } "}"
abbrev pub words_in_braces_ : Ebnf
words_in_braces_ = inside (symbol Symbol.OpenBrace) (contents Contents.words) (symbol Symbol.CloseBrace)
