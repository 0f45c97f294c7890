use Rattle.std.proofs.Common.{IsTrue}
use Rattle.std.specs.Prelude.{All}
use Rattle.core_terms.specs.Conditions.{WriteFits, is_shown, any_place}
use Rattle.core_terms.specs.Places.{form_names_only, term_names_only}
use Rattle.examples_bounds.proofs.tables.statement_of.Given as goal

abbrev pub invariant-loop-step : goal.invariant-loop-step
invariant-loop-step l = record {
  fits : All (WriteFits l.slots) l.writes;
  targets : All (λ w. IsTrue (is_shown l.shown w.slot)) l.writes;
  conditions : All (λ w. IsTrue (form_names_only (is_shown l.shown) any_place w.when)) l.writes;
  values : All (λ w. IsTrue (term_names_only (is_shown l.shown) any_place w.value)) l.writes;
}
