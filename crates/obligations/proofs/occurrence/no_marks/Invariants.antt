use Rattle.std.proofs.Common.{◌≡◌, take}
use Rattle.obligations.specs.Variables.{no_marks}
use Rattle.obligations.proofs.occurrence.no_marks.Given as goal

abbrev pub invariant-places : goal.invariant-places
invariant-places l = l.marks ≡ no_marks (take l.index l.ranges)
