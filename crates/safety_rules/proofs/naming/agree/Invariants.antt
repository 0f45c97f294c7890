use Rattle.std.proofs.Common.{◌≡◌, drop}
use Rattle.rules_table.specs.Table.{args_agree}
use Rattle.safety_rules.proofs.naming.agree.Given as goal

abbrev pub invariant-loop-place : goal.invariant-loop-place
invariant-loop-place l = args_agree (drop l.place l.args) (drop l.place l.indices) ≡ args_agree l.args l.indices
