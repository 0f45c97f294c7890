use Rattle.std.proofs.Common.{◌≡◌, ◌++◌, map, take}
use Rattle.expand_declarations.specs.References.{param_range}
use Rattle.expand_declarations.proofs.params.add_ranges.Given as goal

abbrev pub invariant-loop-p : goal.invariant-loop-p
invariant-loop-p l = l.ranges ≡ l.initial.ranges ++ map param_range (take l.p-index l.ps)
