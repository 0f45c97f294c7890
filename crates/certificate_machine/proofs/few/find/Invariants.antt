use Rattle.std.proofs.Common.{◌≡◌, true, take}
use Rattle.std.specs.List.{list_all}
use Rattle.certificate_machine.specs.Terms.{lies_below}
use Rattle.certificate_machine.proofs.few.find.Given as goal

abbrev pub invariant-loop-at : goal.invariant-loop-at
invariant-loop-at l = record {
  below : list_all (lies_below l.place) (take l.at l.terms) ≡ true;
}
