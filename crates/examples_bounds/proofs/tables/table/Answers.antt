use Rattle.std.proofs.Common.{◌≡◌, subst, sym, arith, IsTrue}
use Rattle.std.specs.Prelude.{All}
use Rattle.core_terms.specs.Conditions.{EachPair, NamesShown, StartFits, is_shown}
use Rattle.examples_bounds.proofs.TableLaws.{are_apart, no_pairs, no_items}
use Rattle.examples_bounds.proofs.tables.table.Goals as goal

pub returns : goal.returns
returns c =
    let shown = c.in_ok-shown.shown in
    let none = sym c.new.ensures in record {
      some = omega (arith, c.in_ok-statements.ensures.count, c.requires.some);
      few = omega (arith, c.in_ok-statements.ensures.count, c.requires.few);
      apart = are_apart c.in_ok-statements.statements c.in_ok-statements.ensures.labels;
      statements = c.in_ok-statements.ensures.fits;
      initially = c.in_ok-initially.ensures.fits;
      one_start = subst (λ es. EachPair (λ d e. d.0 ≡ e.0 → ⊥) es) none (no_pairs (λ d e. d.0 ≡ e.0 → ⊥));
      start = subst (λ es. All (StartFits c.args.slots.now) es) none (no_items (StartFits c.args.slots.now));
      shown = c.in_ok-shown.ensures.some;
      rising = c.in_ok-shown.ensures.rising;
      shown_initially = c.in_ok-initially.ensures.shown shown c.in_ok-shown.ensures.all;
      shown_start = subst (λ es. All (λ e. IsTrue (is_shown shown e.0)) es) none
          (no_items (λ e. IsTrue (is_shown shown e.0)));
      shown_statements = subst (λ ns. All (NamesShown ns) c.in_ok-statements.statements) c.as_slice.ensures
          c.in_ok-statements.ensures.shown;
    }
