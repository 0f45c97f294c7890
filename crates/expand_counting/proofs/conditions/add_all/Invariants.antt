use Rattle.std.proofs.Common.{◌++◌, take}
use Rattle.expand_counting.specs.Conditions.{Entails}
use Rattle.expand_counting.proofs.conditions.add_all.Given as goal

abbrev pub invariant-loop-c : goal.invariant-loop-c
invariant-loop-c l = Entails (l.initial.list ++ take l.c-index l.conditions) l.list
