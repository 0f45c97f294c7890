-- The reading of units that are joined by "and", or by "or".
use Rattle.std.proofs.Common.{◌≡◌, ℕ, Bool, true, false, ◌||◌, cond, List, [], ◌∷◌, Result, Ok, Err, refl, sym, ap, ◌∙◌}
use Rattle.case_tables.specs.declared.word_table.Word.{Word}
use Rattle.grammar_theory.specs.Ebnf.{Terminal, place_of, Tree, pair, left as left_tree, right as right_tree, none}
use Rattle.grammar_theory.specs.Ebnf.{some, node}
use Rattle.grammar_theory.specs.Ebnf.{maybe, either, many, repeated}
use Rattle.grammar_theory.specs.Reader.{Read, begins, after, and_then, read}
use Rattle.grammar_theory.proofs.Classes.{begins_append}
use Rattle.grammar_theory.proofs.Steps.{read_repeated}
use Rattle.unity_syntax.specs.Classes.{reserved}
use Rattle.unity_syntax.specs.Kinds.{Kind, kind}
use Rattle.unity_syntax.specs.Grammar.{grammar, unit_, and_, or_, joined_, make_joined}
use Rattle.unity_syntax.specs.declared.expression.Expr.{Expr}
use Rattle.unity_syntax.specs.View.{view_expr}
use Rattle.unity_syntax.proofs.LookAhead.{grammar_is}
use Rattle.parser_expressions.specs.declared.cursor.Cursor.{Cursor}
use Rattle.parser_expressions.specs.declared.stop.Stop.{Stop}
use Rattle.parser_expressions.specs.Gives.{Gives, remaining}
use Rattle.parser_expressions.proofs.Giving.{gives_same}
use Rattle.parser_expressions.proofs.OperandForms.{is_and, is_or}

abbrev tail : ℕ → List Terminal → Read Tree
tail n mid = read grammar n (maybe (either (repeated and_) (repeated or_))) mid

start : (n : ℕ) (ts mid : List Terminal) (x : Tree) → read grammar n unit_ ts ≡ Ok (x, mid) → read grammar n joined_ ts
    ≡ after (make_joined (place_of ts)) (after (pair x) (tail n mid))
unfolding joined_
start n ts mid x e = ap (λ r. after (make_joined (place_of ts))
    (and_then (read grammar n (maybe (either (repeated and_) (repeated or_)))) pair r)) e

abbrev begins_and : List Terminal → Bool
begins_and mid = begins (reserved Word.And ∷ []) mid

abbrev begins_or : List Terminal → Bool
begins_or mid = begins (reserved Word.Or ∷ []) mid

both_classes : (mid : List Terminal) (v w : Bool) → begins_and mid ≡ v → begins_or mid ≡ w → begins
    (reserved Word.And ∷ reserved Word.Or ∷ []) mid ≡ (v || w)
both_classes mid v w p q = begins_append (reserved Word.And ∷ []) (reserved Word.Or ∷ []) mid ∙ ap
    (λ b. b || begins_or mid) p ∙ ap (λ b. v || b) q

abbrev choose : ℕ → List Terminal → Bool → Read Tree
choose n mid v = cond v (after left_tree (read grammar n (repeated and_) mid))
    (after right_tree (read grammar n (repeated or_) mid))

chosen : (n : ℕ) (mid : List Terminal) (v w : Bool) → begins_and mid ≡ v → begins_or mid ≡ w → tail n mid ≡ cond
    (v || w) (after some (choose n mid v)) (Ok (none, mid))
chosen n mid v w p q =
    ap (λ b. cond b (after some (choose n mid (begins_and mid))) (Ok (none, mid))) (both_classes mid v w p q)
    ∙ ap (λ b. cond (v || w) (after some (choose n mid b)) (Ok (none, mid))) p

with_and : (p : ℕ) (x : Tree) (r : Read Tree) → after (make_joined p) (after (pair x) (after some (after left_tree r)))
    ≡ after (λ xs. node (kind Kind.expr_and) p (pair x xs)) r
with_and p x (Ok q) = refl
with_and p x (Err d) = refl

with_or : (p : ℕ) (x : Tree) (r : Read Tree) → after (make_joined p) (after (pair x) (after some (after right_tree r)))
    ≡ after (λ xs. node (kind Kind.expr_or) p (pair x xs)) r
with_or p x (Ok q) = refl
with_or p x (Err d) = refl

joined_by_and : (n : ℕ) (ts mid : List Terminal) (x : Tree) → read grammar n unit_ ts ≡ Ok (x, mid) → (w : Bool) →
    begins_and mid ≡ true → begins_or mid ≡ w → read grammar n joined_ ts ≡ after
    (λ xs. node (kind Kind.expr_and) (place_of ts) (pair x xs)) (read grammar n (many and_) mid)
joined_by_and n ts mid x e w p q =
    start n ts mid x e ∙ ap (λ r. after (make_joined (place_of ts)) (after (pair x) r)) (chosen n mid true w p q)
    ∙ ap (λ r. after (make_joined (place_of ts)) (after (pair x) (after some (after left_tree r))))
    (read_repeated grammar grammar_is and_ is_and.good_many n mid p)
    ∙ with_and (place_of ts) x (read grammar n (many and_) mid)

joined_by_or : (n : ℕ) (ts mid : List Terminal) (x : Tree) → read grammar n unit_ ts ≡ Ok (x, mid) → begins_and mid ≡
    false → begins_or mid ≡ true → read grammar n joined_ ts ≡ after
    (λ xs. node (kind Kind.expr_or) (place_of ts) (pair x xs)) (read grammar n (many or_) mid)
joined_by_or n ts mid x e p q =
    start n ts mid x e ∙ ap (λ r. after (make_joined (place_of ts)) (after (pair x) r)) (chosen n mid false true p q)
    ∙ ap (λ r. after (make_joined (place_of ts)) (after (pair x) (after some (after right_tree r))))
    (read_repeated grammar grammar_is or_ is_or.good_many n mid q)
    ∙ with_or (place_of ts) x (read grammar n (many or_) mid)

abbrev seen : Expr × Cursor → Tree × List Terminal
seen p = (view_expr p.0, remaining p.1)

module _ (n at : ℕ) (ts mid : List Terminal) (x : Tree) (r : Result (Expr × Cursor) Stop) (place : at ≡ place_of ts)
    (first : read grammar n unit_ ts ≡ Ok (x, mid)) where
  pub gives_ands : begins_and mid ≡ true → Gives seen r (after (λ xs. node (kind Kind.expr_and) at (pair x xs))
      (read grammar n (many and_) mid)) → Gives seen r (read grammar n joined_ ts)
  gives_ands p h = gives_same seen r (joined_by_and n ts mid x first (begins_or mid) p refl ∙ ap
      (λ (m : ℕ). after (λ xs. node (kind Kind.expr_and) m (pair x xs)) (read grammar n (many and_) mid)) (sym place)) h

  pub gives_ors : begins_and mid ≡ false → begins_or mid ≡ true → Gives seen r
      (after (λ xs. node (kind Kind.expr_or) at (pair x xs)) (read grammar n (many or_) mid)) → Gives seen r
      (read grammar n joined_ ts)
  gives_ors p q h = gives_same seen r (joined_by_or n ts mid x first p q ∙ ap
      (λ (m : ℕ). after (λ xs. node (kind Kind.expr_or) m (pair x xs)) (read grammar n (many or_) mid)) (sym place)) h
