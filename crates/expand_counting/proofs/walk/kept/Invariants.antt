use Rattle.std.proofs.Common.{take}
use Rattle.expand_counting.specs.Conditions.{Narrows}
use Rattle.expand_counting.proofs.walk.kept.Given as goal

abbrev pub invariant-loop-c : goal.invariant-loop-c
invariant-loop-c l = Narrows l.values (take l.c-index l.c-items) l.initial.interval l.interval
