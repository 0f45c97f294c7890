use Rattle.std.proofs.Common.{ℕ, sym, ◌∙◌, Ok, ap, refl, arith}
use Rattle.std.proofs.lemmas.Result.{err_from_is_err_and}
use Rattle.case_tables.specs.declared.symbol_table.Symbol.{Symbol}
use Rattle.grammar_theory.specs.Ebnf.{Tree, place_of, both, choice, node, pair}
use Rattle.grammar_theory.specs.Reader.{after, and_then, read}
use Rattle.unity_syntax.specs.declared.term.Term.{Term}
use Rattle.unity_syntax.specs.Classes.{reserved, symbol}
use Rattle.unity_syntax.specs.View.{view_term}
use Rattle.unity_syntax.specs.Kinds.{Kind, kind, Contents, contents}
use Rattle.unity_syntax.specs.Grammar.{grammar, in_parentheses, then_, pred_, term_, exists_, induct_, weaken_}
use Rattle.parser_expressions.specs.declared.cursor.Cursor.{Cursor}
use Rattle.parser_expressions.specs.Gives.{remaining}
use Rattle.parser_expressions.proofs.Giving.{gives_same, after_twice}
use Rattle.parser_expressions.proofs.Levels.{contents_fail}
use Rattle.parser_proofs.specs.Forms.{enclosed_contents, enclosing}
use Rattle.parser_expressions.proofs.Failing.{through}
use Rattle.parser_expressions.proofs.BoundReading.{bound_fails, form_read, form_fails}
use Rattle.parser_proofs.proofs.terms.+terms.Goals as goal

pub exists-returns : goal.exists-returns
unfolding exists_
exists-returns t c =
    ap (after (node (kind Kind.term_exists) c.args.at)) (form_read c.args.depth Symbol.Comma term_
    (remaining c.args.text) c.in_ok-bound.bound (remaining c.in_ok-bound.text) c.in_ok-bound.ensures _ _
    c.in_ok-of.ensures)
    ∙ ap (λ (x : Tree). Ok (x, remaining c.in_ok-of.text)) (sym c.in_ok-whole.ensures)

pub exists-returns-in_err-bound : goal.exists-returns-in_err-bound
unfolding exists_
exists-returns-in_err-bound t c = let p = err_from_is_err_and c.from_residual.result c.from_residual.ensures.1 in rw
    (p.1, p.2)
    (through (after (node (kind Kind.term_exists) c.args.at)) (λ d. refl) _
    (read grammar c.args.depth exists_ (remaining c.args.text))
    (bound_fails c.args.depth Symbol.Comma term_ (remaining c.args.text) _ c.in_err-bound.ensures))

pub exists-returns-in_err-of : goal.exists-returns-in_err-of
unfolding exists_
exists-returns-in_err-of t c =
    let p = err_from_is_err_and c.from_residual-in_err-of.result c.from_residual-in_err-of.ensures.1 in rw (p.1, p.2)
    (through (after (node (kind Kind.term_exists) c.args.at)) (λ d. refl) _
    (read grammar c.args.depth exists_ (remaining c.args.text))
    (form_fails c.args.depth Symbol.Comma term_ (remaining c.args.text) c.in_ok-bound.bound
    (remaining c.in_ok-bound.text) c.in_ok-bound.ensures _ c.in_err-of.ensures))

pub induct-returns : goal.induct-returns
unfolding induct_ weaken_
induct-returns t c =
    ap (after (node (kind Kind.term_induct) c.args.at)) (form_read c.args.depth Symbol.Comma
    (both pred_ (then_ weaken_)) (remaining c.args.text) c.in_ok-bound.bound (remaining c.in_ok-bound.text)
    c.in_ok-bound.ensures _ _ c.in_ok-parts.ensures)
    ∙ ap (λ (x : Tree). Ok (x, remaining c.in_ok-parts.text)) (sym c.in_ok-whole.ensures)

pub induct-returns-in_err-bound : goal.induct-returns-in_err-bound
unfolding induct_ weaken_
induct-returns-in_err-bound t c = let p = err_from_is_err_and c.from_residual.result c.from_residual.ensures.1 in rw
    (p.1, p.2)
    (through (after (node (kind Kind.term_induct) c.args.at)) (λ d. refl) _
    (read grammar c.args.depth induct_ (remaining c.args.text))
    (bound_fails c.args.depth Symbol.Comma (both pred_ (then_ weaken_)) (remaining c.args.text) _
    c.in_err-bound.ensures))

pub induct-returns-in_err-parts : goal.induct-returns-in_err-parts
unfolding induct_ weaken_
induct-returns-in_err-parts t c =
    let p = err_from_is_err_and c.from_residual-in_err-parts.result c.from_residual-in_err-parts.ensures.1 in rw
    (p.1, p.2)
    (through (after (node (kind Kind.term_induct) c.args.at)) (λ d. refl) _
    (read grammar c.args.depth induct_ (remaining c.args.text))
    (form_fails c.args.depth Symbol.Comma (both pred_ (then_ weaken_)) (remaining c.args.text) c.in_ok-bound.bound
    (remaining c.in_ok-bound.text) c.in_ok-bound.ensures _ c.in_err-parts.ensures))

pub enclosed-returns-in_err-whole : goal.enclosed-returns-in_err-whole
enclosed-returns-in_err-whole t c =
    let p = err_from_is_err_and c.from_residual-in_err-whole.result c.from_residual-in_err-whole.ensures.1 in rw
    (p.1, p.2)
    (contents_fail (enclosing c.args.what c.args.at) c.args.depth (symbol Symbol.OpenParenthesis)
    (contents (enclosed_contents c.args.what)) (symbol Symbol.CloseParenthesis)
    (remaining c.args.text) (remaining c.in_ok-rest.rest) (omega arith) c.in_ok-rest.ensures _ c.in_err-whole.ensures)

abbrev pair_of : ℕ → Tree → Tree → Tree
pair_of at w x = node (kind Kind.term_pair) at (pair w x)

pub pair_term-returns : goal.pair_term-returns
pair_term-returns t c = gives_same (λ (p : Term × Cursor). (view_term p.0, remaining p.1)) c.enclosed.result
    (ap (λ r. after (node (kind Kind.term_pair) (place_of (remaining c.args.text)))
    (and_then (read grammar c.args.depth (in_parentheses Contents.pair)) pair r)) c.in_ok-which.ensures
    ∙ after_twice (node (kind Kind.term_pair) (place_of (remaining c.args.text)))
    (pair (choice (reserved c.in_ok-which.which))) (read grammar c.args.depth (in_parentheses Contents.pair)
    (remaining c.in_ok-which.text))
    ∙ ap (λ (m : ℕ). after (pair_of m (choice (reserved c.in_ok-which.which)))
    (read grammar c.args.depth (in_parentheses Contents.pair) (remaining c.in_ok-which.text)))
    (sym c.place-at.ensures))
    c.enclosed.ensures
