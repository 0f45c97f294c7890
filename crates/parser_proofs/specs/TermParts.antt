-- The trees of what stands in the parentheses of terms.
use Rattle.grammar_theory.specs.Ebnf.{Tree, pair}
use Rattle.unity_syntax.specs.View.{view_expr, view_term}
use Rattle.parser_proofs.specs.declared.term_parts.Weakening.{Weakening}
use Rattle.parser_proofs.specs.declared.term_parts.Descent.{Descent}

-- pred "," pred "," term
abbrev pub view_weakening : Weakening → Tree
view_weakening x = pair (view_expr x.p) (pair (view_expr x.q) (view_term x.of))

-- pred "," pred "," pred "," term
abbrev pub view_descent : Descent → Tree
view_descent x = pair (view_expr x.measure) (pair (view_expr x.p) (pair (view_expr x.q) (view_term x.of)))
