use Rattle.std.proofs.Common.{◌≡◌, drop}
use Rattle.executor.specs.Trying.{slots_rise}
use Rattle.executor.proofs.trying.are_rising.Given as goal

abbrev pub invariant-loop-write : goal.invariant-loop-write
invariant-loop-write l = slots_rise l.least (drop l.write-index l.writes) ≡ slots_rise 0 l.writes
