-- Reading names, ranges and expressions back from their trees.
use Rattle.std.proofs.Common.{◌≡◌, ℕ, List, [], ◌∷◌, map, None, Some, refl, ap, subst, ◌∙◌}
use Rattle.case_tables.specs.declared.symbol_table.Symbol.{Symbol}
use Rattle.grammar_theory.specs.Ebnf.{Tree}
use Rattle.grammar_theory.specs.Lists.{list}
use Rattle.unity_syntax.specs.Kinds.{Kind}
use Rattle.unity_syntax.specs.View.{view_list, view_signed, view_factor, view_name, view_number, view_end, view_range}
use Rattle.unity_syntax.specs.View.{tree_itself, view_expr_step, view_expr}
use Rattle.unity_syntax.specs.declared.name.End.{End}
use Rattle.unity_syntax.specs.declared.name.Range.{Range}
use Rattle.unity_syntax.specs.declared.expression.Operator.{Operator}
use Rattle.unity_syntax.specs.declared.expression.Expr.{Expr, roll-Expr, ind-Expr, fold-roll-Expr}
use Rattle.unity_syntax.specs.declared.expression.Expr.TheOpen.{Expr-F}
use Rattle.unity_syntax.specs.declared.expression.Expr.TheFolds.{map-Expr}
use Rattle.unity_syntax.proofs.BackParts.{both_same, three_same, word_of_class, symbol_of_class, word_back, symbol_back}
use Rattle.unity_syntax.proofs.BackParts.{operator_of_class, operator_back}
use Rattle.unity_syntax.proofs.BackParts.{place_in, kind_in, parts_in, first_in, second_in, class_in, name_of}
use Rattle.unity_syntax.proofs.BackParts.{number_of, flag_of, option_of, signed_of, IsBack, flag_back, option_back}
use Rattle.unity_syntax.proofs.BackParts.{signed_back, by_kind, Known, known, known_value, known_first, known_second}
use Rattle.unity_syntax.proofs.BackParts.{known_option, known_list, known_signed}

pub name_back : IsBack view_name name_of
name_back n = refl

pub number_back : IsBack view_number number_of
number_back n = refl

abbrev pub end_of : Tree → End
end_of t =
    by_kind ((
      Kind.end_number,
      End.Number (place_in t) (flag_of (first_in (parts_in t)))
          (number_of (second_in (parts_in t))),
    ) ∷ [])
    (End.Word (place_in t) (name_of (first_in (parts_in t)))
    (option_of (signed_of number_of) (second_in (parts_in t)))) (kind_in t)

pub end_back : IsBack view_end end_of
end_back (End.Number at minus number) = ap (λ m. End.Number at m number) (flag_back minus)
end_back (End.Word at name offset) =
    ap (λ o. End.Word at name o)
    (option_back (view_signed view_number) (signed_of number_of) (signed_back view_number number_of number_back) offset)

abbrev pub range_of : Tree → Range
range_of t = record { at = place_in t; low = end_of (first_in (parts_in t)); high = end_of (second_in (parts_in t)) }

pub range_back : IsBack view_range range_of
range_back r = both_same (λ l h. record { at = r.at; low = l; high = h }) (end_back r.low) (end_back r.high)

-- an expression that stands where there is none
abbrev no_expr : Expr
no_expr = roll-Expr (Expr-F.True 0)

abbrev expr_layer : ℕ → ℕ → Tree → Known Expr → Expr-F Expr
expr_layer k at t x =
    by_kind (
    (Kind.expr_implies, Expr-F.Implies at (known_first no_expr x) (known_value no_expr (known_second x)))
    ∷ (Kind.expr_and, Expr-F.And at (known_first no_expr x) (known_list no_expr (known_second x)))
    ∷ (Kind.expr_or, Expr-F.Or at (known_first no_expr x) (known_list no_expr (known_second x)))
    ∷ (Kind.expr_not, Expr-F.Not at (known_value no_expr x))
    ∷ (
      Kind.expr_compare,
      Expr-F.Compare at (known_first no_expr x)
          (symbol_of_class (class_in (first_in (second_in t)))) (known_value no_expr (known_second (known_second x))),
    )
    ∷ (
      Kind.expr_sum,
      Expr-F.Sum at (flag_of (first_in t)) (known_first no_expr (known_second x))
          (known_signed symbol_of_class no_expr (known_second (known_second x))),
    )
    ∷ (
      Kind.expr_product,
      Expr-F.Product at (known_first no_expr x) (known_signed operator_of_class no_expr (known_second x)),
    )
    ∷ (Kind.expr_number, Expr-F.Number at (number_of t))
    ∷ (Kind.expr_false, Expr-F.False at)
    ∷ (Kind.expr_word, Expr-F.Word at (name_of (first_in t)) (known_option no_expr (known_second x)))
    ∷ (Kind.expr_brackets, Expr-F.Brackets at (known_value no_expr x))
    ∷ (
      Kind.expr_quantified,
      Expr-F.Quantified at (word_of_class (class_in (first_in t))) (name_of (first_in (second_in t)))
          (range_of (first_in (second_in (second_in t))))
          (known_value no_expr (known_second (known_second (known_second x)))),
    )
    ∷ []) (Expr-F.True at) k

abbrev expr_step : ℕ → ℕ → Tree → Known Expr → Expr
expr_step k at t x = roll-Expr (expr_layer k at t x)

abbrev pub expr_of : Tree → Expr
expr_of t = known_value no_expr (known expr_step t)

abbrev Back : Expr → Type 0
Back e = expr_of (view_expr e) ≡ e

abbrev BackExpr : Type 0
BackExpr = (e : Expr) × Back e

-- what is seen of lists of expressions
exprs_back : (es : List BackExpr) → known_list no_expr (known expr_step (list (map view_expr (map (λ e. e.0) es)))) ≡
    map (λ e. e.0) es
exprs_back [] = refl
exprs_back (e ∷ es) = both_same (λ y ys. y ∷ ys) e.1 (exprs_back es)

abbrev unsigned : {S : Type 0} → List (S × BackExpr) → List (S × Expr)
unsigned xs = map (λ x. (x.0, x.1.0)) xs

products_back : (xs : List (Symbol × BackExpr))
    → known_signed symbol_of_class no_expr (known expr_step
    (view_list (view_signed tree_itself) (map (λ x. (x.0, view_expr x.1)) (unsigned xs)))) ≡ unsigned xs
products_back [] = refl
products_back (x ∷ xs) = three_same (λ s y ys. (s, y) ∷ ys) (symbol_back x.0) x.1.1 (products_back xs)

factors_back : (xs : List (Operator × BackExpr))
    → known_signed operator_of_class no_expr (known expr_step
    (view_list (view_factor tree_itself) (map (λ x. (x.0, view_expr x.1)) (unsigned xs)))) ≡ unsigned xs
factors_back [] = refl
factors_back (x ∷ xs) = three_same (λ o y ys. (o, y) ∷ ys) (operator_back x.0) x.1.1 (factors_back xs)

rolled : (x : Expr-F Expr) → expr_of (view_expr_step (map-Expr Expr Tree view_expr x)) ≡ roll-Expr x →
    Back (roll-Expr x)
rolled x e = ap expr_of (fold-roll-Expr Tree view_expr_step x) ∙ e

layer : (y : Expr-F BackExpr) → Back (roll-Expr (map-Expr BackExpr Expr (λ e. e.0) y))
layer (Expr-F.Implies at l r) = rolled _ (both_same (λ x y. roll-Expr (Expr-F.Implies at x y)) l.1 r.1)
layer (Expr-F.And at x xs) = rolled _ (both_same (λ x ys. roll-Expr (Expr-F.And at x ys)) x.1 (exprs_back xs))
layer (Expr-F.Or at x xs) = rolled _ (both_same (λ x ys. roll-Expr (Expr-F.Or at x ys)) x.1 (exprs_back xs))
layer (Expr-F.Not at x) = rolled _ (ap (λ x. roll-Expr (Expr-F.Not at x)) x.1)
layer (Expr-F.Compare at l relation r) =
    rolled _ (three_same (λ x s y. roll-Expr (Expr-F.Compare at x s y)) l.1 (symbol_back relation) r.1)
layer (Expr-F.Sum at minus x xs) =
    rolled _ (three_same (λ m x ys. roll-Expr (Expr-F.Sum at m x ys)) (flag_back minus) x.1 (products_back xs))
layer (Expr-F.Product at x xs) = rolled _ (both_same (λ x ys. roll-Expr (Expr-F.Product at x ys)) x.1 (factors_back xs))
layer (Expr-F.Number at number) = rolled _ refl
layer (Expr-F.True at) = rolled _ refl
layer (Expr-F.False at) = rolled _ refl
layer (Expr-F.Word at name None) = rolled _ refl
layer (Expr-F.Word at name (Some x)) = rolled _ (ap (λ x. roll-Expr (Expr-F.Word at name (Some x))) x.1)
layer (Expr-F.Brackets at x) = rolled _ (ap (λ x. roll-Expr (Expr-F.Brackets at x)) x.1)
layer (Expr-F.Quantified at which name range x) =
    rolled _ (three_same (λ w r x. roll-Expr (Expr-F.Quantified at w name r x)) (word_back which)
    (range_back range) x.1)

pub expr_back : IsBack view_expr expr_of
expr_back e = ind-Expr Back (λ x y q. subst (λ z. Back (roll-Expr z)) q (layer y)) e
