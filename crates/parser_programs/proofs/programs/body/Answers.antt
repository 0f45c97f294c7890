use Rattle.std.proofs.Common.{refl}
use Rattle.std.proofs.lemmas.Result.{err_from_is_err_and}
use Rattle.case_tables.specs.declared.word_table.Word.{Word}
use Rattle.grammar_theory.specs.Ebnf.{place_of, unit, both, fixed}
use Rattle.grammar_theory.specs.Reader.{after, read}
use Rattle.unity_syntax.specs.Classes.{reserved}
use Rattle.unity_syntax.specs.Grammar.{grammar, first, second, up_to, items_}
use Rattle.unity_syntax.specs.View.{view_items}
use Rattle.parser_expressions.specs.Gives.{remaining}
use Rattle.parser_expressions.proofs.Failing.{through, second_fails}
use Rattle.parser_programs.proofs.programs.body.Goals as goal

pub returns-in_err-text-2 : goal.returns-in_err-text-2
returns-in_err-text-2 c =
    let p = err_from_is_err_and c.from_residual-in_err-text-2.result c.from_residual-in_err-text-2.ensures.1 in rw
    (p.1, p.2)
    (through (after (second (place_of (remaining c.args.text)))) (λ d. refl) _
    (read grammar c.args.depth (both (fixed (reserved Word.Assign)) (up_to items_ (reserved Word.End)))
    (remaining c.args.text))
    (second_fails c.args.depth (fixed (reserved Word.Assign)) (up_to items_ (reserved Word.End)) (remaining c.args.text)
    (remaining c.in_ok-text.text) unit c.in_ok-text.ensures _
    (through (after (first (place_of (remaining c.in_ok-text.text)))) (λ d. refl) _
    (read grammar c.args.depth (both items_ (fixed (reserved Word.End))) (remaining c.in_ok-text.text))
    (second_fails c.args.depth items_ (fixed (reserved Word.End)) (remaining c.in_ok-text.text)
    (remaining c.in_ok-items.text) (view_items c.in_ok-items.items) c.in_ok-items.ensures _
    c.in_err-text-2.ensures))))
