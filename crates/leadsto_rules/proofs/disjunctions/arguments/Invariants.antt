use Rattle.std.proofs.Common.{◌≡◌, take}
use Rattle.rules_table.specs.Numbers.{args_from}
use Rattle.leadsto_rules.proofs.disjunctions.arguments.Given as goal

abbrev pub invariant-loop-place : goal.invariant-loop-place
invariant-loop-place l = l.args ≡ args_from 0 l.i.name l.number (take l.place l.i.ranges.now)
