use Rattle.std.proofs.Common.{◌≡◌, drop}
use Rattle.rules_table.specs.Table.{names_some}
use Rattle.safety_rules.proofs.naming.names_some.Given as goal

abbrev pub invariant-loop-arg : goal.invariant-loop-arg
invariant-loop-arg l = names_some (drop l.arg-index l.args) ≡ names_some l.args
