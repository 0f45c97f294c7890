use Rattle.std.proofs.Common.{◌≡◌, drop}
use Rattle.std.specs.List.{list_any}
use Rattle.rules_table.specs.Table.{is_slot}
use Rattle.safety_rules.proofs.instances.has_variable.Given as goal

abbrev pub invariant-loop-arg : goal.invariant-loop-arg
invariant-loop-arg l = list_any is_slot (drop l.arg-index l.args) ≡ list_any is_slot l.args
