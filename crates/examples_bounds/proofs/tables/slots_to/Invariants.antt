use Rattle.std.proofs.Common.{◌≡◌, length}
use Rattle.examples_bounds.specs.Tables.{SlotsAreLight}
use Rattle.examples_bounds.proofs.tables.slots_to.Given as goal

abbrev pub invariant-loop-top : goal.invariant-loop-top
invariant-loop-top l = record {
  light : SlotsAreLight l.slots;
  count : length l.slots ≡ l.top-index;
}
