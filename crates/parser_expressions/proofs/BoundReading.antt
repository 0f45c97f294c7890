-- The reading of a form over which a name ranges, by the reading of its bound and that of the form.
use Rattle.std.proofs.Common.{◌≡◌, ℕ, List, Ok, Err, refl, ap, ◌∙◌}
use Rattle.case_tables.specs.declared.symbol_table.Symbol.{Symbol}
use Rattle.grammar_theory.specs.Ebnf.{Terminal, place_of, Tree, unit, pair, Ebnf}
use Rattle.grammar_theory.specs.Reader.{Read, ◌>>=◌, skip, after, and_then_by, read}
use Rattle.unity_syntax.specs.Classes.{symbol}
use Rattle.unity_syntax.specs.Grammar.{grammar, first, second, name_, range_, over_range}
use Rattle.parser_expressions.specs.declared.ranges.BoundName.{BoundName}
use Rattle.parser_expressions.specs.declared.stop.Stop.{Stop}
use Rattle.parser_expressions.specs.Gives.{Fails}
use Rattle.parser_expressions.specs.Bounds.{bound_, view_bound, view_bound_over}
use Rattle.parser_expressions.proofs.Failing.{through, same_fails}

-- a form's tree, put behind the bound
abbrev put : Tree → Tree → Tree
put (pair x y) z = pair x (pair y z)
put _ z = unit

module _ (n c : ℕ) (a : Ebnf) where
  -- the form, after its bound
  abbrev then_form : Read Tree → Read Tree
  then_form r = and_then_by (λ x. read grammar n a) put r

  abbrev form_after : ℕ → Read Tree → Read Tree
  form_after place r = after (second place) (r >>= λ x. after (pair x.0) (read grammar n a x.1))

  abbrev range_and_form : Read Tree → Read Tree
  range_and_form r = r >>= λ x. after (pair x.0) (form_after (place_of x.1) (skip c x.1))

  abbrev all_after : ℕ → Read Tree → Read Tree
  all_after place r = after (second place) (r >>= λ x. after (pair x.0) (range_and_form (read grammar n range_ x.1)))

  abbrev range_alone : ℕ → Read Tree → Read Tree
  range_alone place r = after (first place) (r >>= λ x. after (pair x.0) (skip c x.1))

  abbrev bound_after : ℕ → Read Tree → Read Tree
  bound_after place r = after (second place) (r >>= λ x. after (pair x.0)
      (range_alone (place_of x.1) (read grammar n range_ x.1)))

  by_form : (x u y w : Tree) (p q : ℕ) (r : Read Tree) →
      after (pair x) (after (second p) (after (pair u) (after (pair y) (after (second q) (after (pair w) r))))) ≡ after
      (put (pair x y)) r
  by_form x u y w p q (Ok z) = refl
  by_form x u y w p q (Err d) = refl

  by_end : (x u y : Tree) (p q k : ℕ) (r : Read Tree) →
      after (pair x) (after (second p) (after (pair u) (after (pair y) (form_after q r))))
      ≡ then_form (after (pair x) (after (second p) (after (pair u) (after (first k) (after (pair y) r)))))
  by_end x u y p q k (Ok z) = by_form x u y z.0 p q (read grammar n a z.1)
  by_end x u y p q k (Err d) = refl

  by_range : (x u : Tree) (p k : ℕ) (r : Read Tree) →
      after (pair x) (after (second p) (after (pair u) (range_and_form r)))
      ≡ then_form (after (pair x) (after (second p) (after (pair u) (range_alone k r))))
  by_range x u p k (Ok z) = by_end x u z.0 p (place_of z.1) k (skip c z.1)
  by_range x u p k (Err d) = refl

  by_colon : (x : Tree) (p : ℕ) (r : Read Tree) → after (pair x) (all_after p r) ≡ then_form
      (after (pair x) (bound_after p r))
  by_colon x p (Ok z) = by_range x z.0 p (place_of z.1) (read grammar n range_ z.1)
  by_colon x p (Err d) = refl

  by_name : (r : Read Tree) →
      (r >>= λ x. after (pair x.0) (all_after (place_of x.1) (skip (symbol Symbol.Colon) x.1)))
      ≡ then_form (r >>= λ x. after (pair x.0) (bound_after (place_of x.1) (skip (symbol Symbol.Colon) x.1)))
  by_name (Ok z) = by_colon z.0 (place_of z.1) (skip (symbol Symbol.Colon) z.1)
  by_name (Err d) = refl

module _ (n : ℕ) (end : Symbol) (a : Ebnf) (ts : List Terminal) where
  in_turn : read grammar n (over_range (symbol end) a) ts ≡ then_form n (symbol end) a (read grammar n (bound_ end) ts)
  in_turn = by_name n (symbol end) a (read grammar n name_ ts)

  -- a fault in the bound
  pub bound_fails : (stop : Stop) → Fails stop (read grammar n (bound_ end) ts) → Fails stop
      (read grammar n (over_range (symbol end) a) ts)
  bound_fails stop h = same_fails stop in_turn (through (then_form n (symbol end) a) (λ d. refl) stop
      (read grammar n (bound_ end) ts) h)

  module _ (bound : BoundName) (mid : List Terminal) (first : read grammar n (bound_ end) ts ≡ Ok
      (view_bound bound, mid)) where
    -- the bound, and the form
    pub form_read : (x : Tree) (later : List Terminal) → read grammar n a mid ≡ Ok (x, later) →
        read grammar n (over_range (symbol end) a) ts ≡ Ok (view_bound_over bound x, later)
    form_read x later e = in_turn ∙ ap (then_form n (symbol end) a) first ∙ ap (after (put (view_bound bound))) e

    -- a fault in the form
    pub form_fails : (stop : Stop) → Fails stop (read grammar n a mid) → Fails stop
        (read grammar n (over_range (symbol end) a) ts)
    form_fails stop h = same_fails stop (in_turn ∙ ap (then_form n (symbol end) a) first)
        (through (after (put (view_bound bound))) (λ d. refl) stop (read grammar n a mid) h)
