-- Reading references and terms back from their trees.
use Rattle.std.proofs.Common.{◌≡◌, ℕ, [], ◌∷◌, ap, subst, ◌∙◌}
use Rattle.grammar_theory.specs.Ebnf.{Tree, unit}
use Rattle.unity_syntax.specs.Kinds.{Kind}
use Rattle.unity_syntax.specs.View.{view_some, view_name, view_end, view_inst, view_ref, view_term_step, view_term}
use Rattle.unity_syntax.specs.declared.name.Range.{Range}
use Rattle.unity_syntax.specs.declared.expression.Expr.{Expr}
use Rattle.unity_syntax.specs.declared.term.Inst.{Inst}
use Rattle.unity_syntax.specs.declared.term.Ref.{Ref}
use Rattle.unity_syntax.specs.declared.term.Term.{Term, roll-Term, ind-Term, fold-roll-Term}
use Rattle.unity_syntax.specs.declared.term.Term.TheOpen.{Term-F}
use Rattle.unity_syntax.specs.declared.term.Term.TheFolds.{map-Term}
use Rattle.unity_syntax.proofs.BackParts.{both_same, three_same, word_of_class, word_back, place_in, parts_in, first_in}
use Rattle.unity_syntax.proofs.BackParts.{second_in, class_in, name_of, option_of, some_of, IsBack, option_back}
use Rattle.unity_syntax.proofs.BackParts.{some_back, by_kind, Known, known, known_value, known_first, known_second}
use Rattle.unity_syntax.proofs.BackExpressions.{name_back, end_of, end_back, range_of, range_back, expr_of, expr_back}

abbrev pub inst_of : Tree → Inst
inst_of t = record {
  at = place_in t;
  label = name_of (first_in (parts_in t));
  indices = option_of (some_of end_of) (second_in (parts_in t));
}

pub inst_back : IsBack view_inst inst_of
inst_back i =
    ap (λ x. record { at = i.at; label = i.label; indices = x })
    (option_back (view_some view_end) (some_of end_of) (some_back view_end end_of end_back) i.indices)

abbrev pub ref_of : Tree → Ref
ref_of t = record {
  at = place_in t;
  name = name_of (first_in (parts_in t));
  step = option_of name_of (first_in (second_in (parts_in t)));
  args = option_of (some_of end_of) (second_in (second_in (parts_in t)));
}

pub ref_back : IsBack view_ref ref_of
ref_back r =
    both_same (λ s x. record { at = r.at; name = r.name; step = s; args = x })
    (option_back view_name name_of name_back r.step)
    (option_back (view_some view_end) (some_of end_of) (some_back view_end end_of end_back) r.args)

-- a term that stands where there is none
abbrev no_term : Term
no_term = roll-Term (Term-F.From 0 (ref_of unit))

abbrev term_layer : ℕ → ℕ → Tree → Known Term → Term-F Term
term_layer k at t x =
    by_kind (
    (Kind.term_imply, Term-F.Imply at (expr_of (first_in t)) (expr_of (second_in t)))
    ∷ (
      Kind.term_pair,
      Term-F.Pair at (word_of_class (class_in (first_in t))) (known_first no_term (known_second x))
          (known_value no_term (known_second (known_second x))),
    )
    ∷ (
      Kind.term_exists,
      Term-F.Exists at (name_of (first_in t)) (range_of (first_in (second_in t)))
          (known_value no_term (known_second (known_second x))),
    )
    ∷ (
      Kind.term_induct,
      Term-F.Induct at (name_of (first_in t)) (range_of (first_in (second_in t)))
          (expr_of (first_in (second_in (second_in t)))) (expr_of (first_in (second_in (second_in (second_in t)))))
          (expr_of (first_in (second_in (second_in (second_in (second_in t))))))
          (known_value no_term (known_second (known_second (known_second (known_second (known_second x)))))),
    )
    ∷ (Kind.term_psp, Term-F.Psp at (known_first no_term x) (ref_of (second_in t)))
    ∷ (
      Kind.term_weaken,
      Term-F.Weaken at (expr_of (first_in t)) (expr_of (first_in (second_in t)))
          (known_value no_term (known_second (known_second x))),
    )
    ∷ []) (Term-F.From at (ref_of t)) k

abbrev term_step : ℕ → ℕ → Tree → Known Term → Term
term_step k at t x = roll-Term (term_layer k at t x)

abbrev pub term_of : Tree → Term
term_of t = known_value no_term (known term_step t)

abbrev Back : Term → Type 0
Back t = term_of (view_term t) ≡ t

abbrev BackTerm : Type 0
BackTerm = (t : Term) × Back t

rolled : (x : Term-F Term) → term_of (view_term_step (map-Term Term Tree view_term x)) ≡ roll-Term x →
    Back (roll-Term x)
rolled x e = ap term_of (fold-roll-Term Tree view_term_step x) ∙ e

layer : (y : Term-F BackTerm) → Back (roll-Term (map-Term BackTerm Term (λ e. e.0) y))
layer (Term-F.Imply at p q) = rolled _ (both_same (λ p q. roll-Term (Term-F.Imply at p q)) (expr_back p) (expr_back q))
layer (Term-F.From at ref) = rolled _ (ap (λ r. roll-Term (Term-F.From at r)) (ref_back ref))
layer (Term-F.Pair at which x y) =
    rolled _ (three_same (λ w x y. roll-Term (Term-F.Pair at w x y)) (word_back which) x.1 y.1)
layer (Term-F.Exists at name range x) =
    rolled _ (both_same (λ r x. roll-Term (Term-F.Exists at name r x)) (range_back range) x.1)
layer (Term-F.Induct at name range measure p q x) =
    rolled _ (three_same (λ r m (f : Range → Expr → Term). f r m) (range_back range) (expr_back measure)
    (three_same (λ p q x r m. roll-Term (Term-F.Induct at name r m p q x)) (expr_back p) (expr_back q) x.1))
layer (Term-F.Psp at x ref) = rolled _ (both_same (λ x r. roll-Term (Term-F.Psp at x r)) x.1 (ref_back ref))
layer (Term-F.Weaken at p q x) =
    rolled _ (three_same (λ p q x. roll-Term (Term-F.Weaken at p q x)) (expr_back p) (expr_back q) x.1)

pub term_back : IsBack view_term term_of
term_back t = ind-Term Back (λ x y q. subst (λ z. Back (roll-Term z)) q (layer y)) t
