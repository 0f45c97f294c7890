-- The reading of parentheses, with a level left and with none.
use Rattle.std.proofs.Common.{◌≡◌, ℕ, ◌<◌, ◌-◌, List, Err}
use Rattle.case_tables.specs.declared.symbol_table.Symbol.{Symbol}
use Rattle.grammar_theory.specs.Ebnf.{Terminal, place_of, named}
use Rattle.grammar_theory.specs.Reader.{TooDeep, ◌>>=◌, skip, after, read}
use Rattle.unity_syntax.specs.Classes.{symbol}
use Rattle.unity_syntax.specs.Kinds.{Contents, contents}
use Rattle.unity_syntax.specs.Grammar.{grammar, in_parentheses, make_parentheses, parentheses_}
use Rattle.parser_expressions.proofs.Levels.{shut_by, named_level, named_none}

pub bracket_level : (n : ℕ) (ts : List Terminal) → 0 < n →
    read grammar n (named make_parentheses (in_parentheses Contents.parentheses)) ts
    ≡ (skip (symbol Symbol.OpenParenthesis) ts >>= λ x.
    shut_by (symbol Symbol.CloseParenthesis) (after (make_parentheses (place_of ts))
    (read grammar (n - 1) parentheses_ x.1)))
bracket_level n ts h =
    named_level make_parentheses n (symbol Symbol.OpenParenthesis) (contents Contents.parentheses)
    (symbol Symbol.CloseParenthesis) ts h

pub bracket_none : (n : ℕ) (ts : List Terminal) → n ≡ 0 →
    read grammar n (named make_parentheses (in_parentheses Contents.parentheses)) ts
    ≡ (skip (symbol Symbol.OpenParenthesis) ts >>= λ x. Err (TooDeep ts))
bracket_none n ts h =
    named_none make_parentheses n (symbol Symbol.OpenParenthesis) (contents Contents.parentheses)
    (symbol Symbol.CloseParenthesis) ts h
