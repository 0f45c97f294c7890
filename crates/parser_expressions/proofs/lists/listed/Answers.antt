use Rattle.std.proofs.lemmas.Result.{err_from_is_err_and}
use Rattle.grammar_theory.specs.Ebnf.{many}
use Rattle.unity_syntax.specs.Classes.{symbol}
use Rattle.unity_syntax.specs.Grammar.{past}
use Rattle.parser_expressions.specs.Gives.{remaining}
use Rattle.parser_expressions.proofs.Failing.{both_read, second_fails}
use Rattle.parser_expressions.proofs.lists.listed.Goals as goal

pub returns : goal.returns
returns g c view form depth is reads = both_read depth form (many (past (symbol c.args.separator) form))
    (remaining c.args.text) (remaining c.in_ok-first.text) (view c.in_ok-first.first)
    (reads _ _ c.in_ok-first.ensures) _ _ (c.in_ok-rest.ensures view form depth is reads)

pub returns-in_err-rest : goal.returns-in_err-rest
returns-in_err-rest g c view form depth is reads =
    let p = err_from_is_err_and c.from_residual-in_err-rest.result c.from_residual-in_err-rest.ensures.1 in rw
    (p.1, p.2)
    (second_fails depth form (many (past (symbol c.args.separator) form)) (remaining c.args.text)
    (remaining c.in_ok-first.text) (view c.in_ok-first.first) (reads _ _ c.in_ok-first.ensures) _
    (c.in_err-rest.ensures view form depth is reads))
