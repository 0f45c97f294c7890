use Rattle.std.proofs.Common.{◌≡◌, drop}
use Rattle.executor.specs.Placing.{placed}
use Rattle.executor.proofs.start.put_entries.Given as goal

abbrev pub invariant-loop-place : goal.invariant-loop-place
invariant-loop-place l = l.state ≡ placed l.initial.state (drop l.place l.entries)
