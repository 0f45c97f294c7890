use Rattle.std.proofs.Common.{drop}
use Rattle.executor.specs.Preparing.{TouchesOnly}
use Rattle.executor.proofs.preparing.level.Given as goal

abbrev pub invariant-loop-write : goal.invariant-loop-write
invariant-loop-write l = TouchesOnly (drop l.write-index l.writes) l.state l.next l.marked
