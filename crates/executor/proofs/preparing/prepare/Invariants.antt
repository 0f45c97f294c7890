use Rattle.std.proofs.Common.{drop}
use Rattle.core_terms.specs.Steps.{slot_ranges, inside_writes}
use Rattle.executor.specs.Preparing.{IsStepPrepared}
use Rattle.executor.proofs.preparing.prepare.Given as goal

abbrev pub invariant-loop-place : goal.invariant-loop-place
invariant-loop-place l =
    IsStepPrepared (slot_ranges l.slots) l.state l.next l.marked (inside_writes l.state (drop l.place l.writes))
