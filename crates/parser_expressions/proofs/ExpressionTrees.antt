-- The trees of expressions, in words of their parts' trees.
use Rattle.std.proofs.Common.{◌≡◌, ◌<◌, ℕ, Bool, false, List, [], ◌∷◌, length, Some, ap, sym, ◌∙◌, refl, arith}
use Rattle.std.proofs.lemmas.Simd.{map-map}
use Rattle.case_tables.specs.declared.symbol_table.Symbol.{Symbol}
use Rattle.grammar_theory.specs.Ebnf.{Tree, pair, some, node}
use Rattle.grammar_theory.specs.Lists.{list}
use Rattle.unity_syntax.specs.declared.name.Name.{Name}
use Rattle.unity_syntax.specs.declared.expression.Expr.{Expr, fold-roll-Expr}
use Rattle.unity_syntax.specs.declared.expression.Expr.TheVariants.{Sum, rolls-Sum, Product, rolls-Product, Word}
use Rattle.unity_syntax.specs.declared.expression.Expr.TheVariants.{rolls-Word}
use Rattle.unity_syntax.specs.declared.expression.Operator.{Operator}
use Rattle.unity_syntax.specs.declared.expression.Expr.TheOpen.{Expr-F}
use Rattle.unity_syntax.specs.Kinds.{Kind, kind}
use Rattle.unity_syntax.specs.Grammar.{make_product, make_sum}
use Rattle.unity_syntax.specs.View.{view_flag, view_list, view_signed, view_factor, view_name, view_expr}
use Rattle.unity_syntax.specs.View.{view_expr_step}

pub sum_tree : (at : ℕ) (minus : Bool) (first : Expr) (rest : List (Symbol × Expr)) → view_expr
    (Sum at minus first rest) ≡ node (kind Kind.expr_sum) at
    (pair (view_flag minus) (pair (view_expr first) (view_list (view_signed view_expr) rest)))
sum_tree at minus first rest =
    ap view_expr (sym (rolls-Sum at minus first rest)) ∙ fold-roll-Expr Tree view_expr_step
    (Expr-F.Sum at minus first rest)
    ∙ ap (λ xs. node (kind Kind.expr_sum) at (pair (view_flag minus) (pair (view_expr first) (list xs))))
    (map-map _ _ rest)

pub product_tree : (at : ℕ) (first : Expr) (rest : List (Operator × Expr)) → view_expr
    (Product at first rest) ≡ node (kind Kind.expr_product) at
    (pair (view_expr first) (view_list (view_factor view_expr) rest))
product_tree at first rest =
    ap view_expr (sym (rolls-Product at first rest)) ∙ fold-roll-Expr Tree view_expr_step (Expr-F.Product at first rest)
    ∙ ap (λ xs. node (kind Kind.expr_product) at (pair (view_expr first) (list xs))) (map-map _ _ rest)

pub indexed_tree : (at : ℕ) (name : Name) (index : Expr) → view_expr (Word at name (Some index)) ≡ node
    (kind Kind.expr_word) at (pair (view_name name) (some (view_expr index)))
indexed_tree at name index = ap view_expr (sym (rolls-Word at name (Some index))) ∙ fold-roll-Expr Tree view_expr_step
    (Expr-F.Word at name (Some index))

-- more than one product, or more than one atom
pub long_sum : (at : ℕ) (x : Tree) (rest : List (Symbol × Expr)) → 0 < length rest → make_sum at
    (pair (view_flag false) (pair x (view_list (view_signed view_expr) rest))) ≡ node (kind Kind.expr_sum) at
    (pair (view_flag false) (pair x (view_list (view_signed view_expr) rest)))
long_sum at x [] h = absurd (omega arith)
long_sum at x (y ∷ ys) h = refl

pub long_product : (at : ℕ) (x : Tree) (rest : List (Operator × Expr)) → 0 < length rest → make_product at
    (pair x (view_list (view_factor view_expr) rest)) ≡ node (kind Kind.expr_product) at
    (pair x (view_list (view_factor view_expr) rest))
long_product at x [] h = absurd (omega arith)
long_product at x (y ∷ ys) h = refl
