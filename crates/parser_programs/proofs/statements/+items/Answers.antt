use Rattle.std.proofs.Common.{rules, sym, ◌∙◌, Ok, ap, refl}
use Rattle.std.proofs.lemmas.Result.{err_from_is_err_and}
use Rattle.case_tables.specs.declared.symbol_table.Symbol.{Symbol}
use Rattle.grammar_theory.specs.Ebnf.{Tree, node}
use Rattle.grammar_theory.specs.Reader.{after, read}
use Rattle.unity_syntax.specs.Kinds.{Kind, kind}
use Rattle.unity_syntax.specs.Grammar.{grammar, item_, items_, quantified_items_}
use Rattle.unity_syntax.specs.View.{view_item}
use Rattle.unity_syntax.proofs.Productions.{all_productions}
use Rattle.parser_expressions.specs.Gives.{remaining}
use Rattle.parser_expressions.proofs.Failing.{through}
use Rattle.parser_expressions.proofs.BoundReading.{bound_fails, form_read, form_fails}
use Rattle.parser_expressions.proofs.Repetition.{takes_token}
use Rattle.parser_programs.proofs.ItemForms.{is_item}
use Rattle.parser_programs.proofs.statements.+items.Goals as goal

pub all_items-listed-requires : goal.all_items-listed-requires
unfolding all_productions
all_items-listed-requires t c = λ k. (
  search rules,
  (
    search rules,
    λ text x later p.
        takes_token view_item item_ c.args.depth refl refl text x later (search rules),
  ),
)

pub all_items-returns : goal.all_items-returns
unfolding all_productions
all_items-returns t c = c.listed.ensures view_item item_ c.args.depth is_item (λ text r p. search rules)

pub item_over-returns : goal.item_over-returns
unfolding quantified_items_
item_over-returns t c =
    ap (after (node (kind Kind.item_quantified) c.args.at)) (form_read c.args.depth Symbol.DoubleColon items_
    (remaining c.args.text) c.in_ok-bound.bound (remaining c.in_ok-bound.text) c.in_ok-bound.ensures _ _
    c.in_ok-of.ensures)
    ∙ ap (λ (x : Tree). Ok (x, remaining c.in_ok-of.text)) (sym c.in_ok-whole.ensures)

pub item_over-returns-in_err-bound : goal.item_over-returns-in_err-bound
unfolding quantified_items_
item_over-returns-in_err-bound t c = let p = err_from_is_err_and c.from_residual.result c.from_residual.ensures.1 in rw
    (p.1, p.2)
    (through (after (node (kind Kind.item_quantified) c.args.at)) (λ d. refl) _
    (read grammar c.args.depth quantified_items_ (remaining c.args.text))
    (bound_fails c.args.depth Symbol.DoubleColon items_ (remaining c.args.text) _ c.in_err-bound.ensures))

pub item_over-returns-in_err-of : goal.item_over-returns-in_err-of
unfolding quantified_items_
item_over-returns-in_err-of t c =
    let p = err_from_is_err_and c.from_residual-in_err-of.result c.from_residual-in_err-of.ensures.1 in rw (p.1, p.2)
    (through (after (node (kind Kind.item_quantified) c.args.at)) (λ d. refl) _
    (read grammar c.args.depth quantified_items_ (remaining c.args.text))
    (form_fails c.args.depth Symbol.DoubleColon items_ (remaining c.args.text) c.in_ok-bound.bound
    (remaining c.in_ok-bound.text) c.in_ok-bound.ensures _ c.in_err-of.ensures))
