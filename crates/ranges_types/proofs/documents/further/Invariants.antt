use Rattle.std.proofs.Common.{drop, map}
use Rattle.names_rules.specs.Reading.{all_beside}
use Rattle.names_rules.specs.WellNamed.{choice_reading}
use Rattle.names_rules.proofs.Steps.{Rest}
use Rattle.ranges_types.specs.Tables.{declared_in}
use Rattle.ranges_types.proofs.documents.further.Given as goal

abbrev pub invariant-loop-i : goal.invariant-loop-i
invariant-loop-i l = Rest l.table (all_beside (map (choice_reading (declared_in l.t)) (drop l.i-index l.list)))
    l.initial.table (all_beside (map (choice_reading (declared_in l.t)) l.list))
