use Rattle.std.proofs.Common.{◌≡◌, drop}
use Rattle.rules_table.specs.Table.{are_arguments}
use Rattle.safety_rules.proofs.instances.are_arguments.Given as goal

abbrev pub invariant-loop-place : goal.invariant-loop-place
invariant-loop-place l =
    are_arguments l.ranges (drop l.place l.params) (drop l.place l.args) ≡ are_arguments l.ranges l.params l.args
