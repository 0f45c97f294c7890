use Rattle.std.proofs.Common.{◌≡◌, take, ◌++◌}
use Rattle.ranges_types.proofs.unions.both.Given as goal

abbrev pub invariant-loop-x : goal.invariant-loop-x
invariant-loop-x l = l.list ≡ take l.x-index l.xs

abbrev pub invariant-loop-y : goal.invariant-loop-y
invariant-loop-y l = l.list ≡ l.xs ++ take l.y-index l.ys
