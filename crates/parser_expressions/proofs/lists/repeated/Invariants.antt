use Rattle.std.proofs.Common.{ℕ, [], ◌∷◌}
use Rattle.grammar_theory.specs.Ebnf.{Tree, Ebnf}
use Rattle.grammar_theory.specs.Reader.{count}
use Rattle.parser_expressions.specs.Gives.{remaining}
use Rattle.parser_expressions.specs.Lists.{IsItem, ReadsForm, front_class, with_front}
use Rattle.parser_expressions.proofs.Repetition.{Items}
use Rattle.parser_expressions.proofs.lists.repeated.Given as goal

abbrev pub invariant-items : goal.invariant-items
invariant-items g l = (view : _ → Tree) (form : Ebnf) (depth : ℕ) →
    IsItem (with_front l.front form) (front_class l.front ∷ []) → ReadsForm (goal.F-post g l.item) view form depth →
    Items view (with_front l.front form) depth (remaining l.fn.text) l.found (remaining l.rest)

abbrev pub decreases-items : goal.decreases-items
decreases-items g l = count (remaining l.rest)
