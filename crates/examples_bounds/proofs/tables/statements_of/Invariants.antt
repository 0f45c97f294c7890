use Rattle.std.proofs.Common.{◌≡◌, length}
use Rattle.std.specs.Prelude.{All}
use Rattle.core_terms.specs.Conditions.{StatementFits, NamesShown}
use Rattle.examples_bounds.specs.Tables.{AreNumbered}
use Rattle.examples_bounds.proofs.tables.statements_of.Given as goal

abbrev pub invariant-loop-label : goal.invariant-loop-label
invariant-loop-label l = record {
  count : length l.statements ≡ l.label;
  labels : AreNumbered l.statements;
  fits : All (StatementFits l.slots) l.statements;
  shown : All (NamesShown l.shown) l.statements;
}
