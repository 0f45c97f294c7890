use Rattle.std.proofs.Common.{◌≡◌, take, true}
use Rattle.expand_counting.specs.Conditions.{all_hold}
use Rattle.expand_counting.proofs.walk.do_hold.Given as goal

abbrev pub invariant-loop-c : goal.invariant-loop-c
invariant-loop-c l = all_hold l.values (take l.c-index l.conditions) ≡ true
