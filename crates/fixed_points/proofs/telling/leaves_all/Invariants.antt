use Rattle.std.proofs.Common.{◌≡◌, true, take}
use Rattle.std.specs.List.{list_all}
use Rattle.fixed_points.specs.Leaving.{leaves}
use Rattle.fixed_points.proofs.telling.leaves_all.Given as goal

abbrev pub invariant-loop-write : goal.invariant-loop-write
invariant-loop-write l = list_all (leaves l.state) (take l.write-index l.writes) ≡ true
