use Rattle.std.proofs.Common.{drop}
use Rattle.names_rules.specs.Part.{run}
use Rattle.names_rules.specs.WellNamed.{part_of}
use Rattle.names_rules.proofs.Steps.{Ahead}
use Rattle.ranges_types.specs.Tables.{declared_in}
use Rattle.ranges_types.proofs.documents.parts.Given as goal

abbrev pub invariant-loop-p : goal.invariant-loop-p
invariant-loop-p l = Ahead l.table (run part_of (declared_in l.t) (drop l.p-index l.ps))
    l.initial.table (run part_of (declared_in l.initial.t) l.ps)
