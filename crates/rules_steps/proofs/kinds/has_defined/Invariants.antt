use Rattle.std.proofs.Common.{◌≡◌, drop}
use Rattle.safety_rules.specs.from_rules_table.Walk.{has_defined}
use Rattle.rules_steps.proofs.kinds.has_defined.Given as goal

abbrev pub invariant-loop-record : goal.invariant-loop-record
invariant-loop-record l = has_defined l.program (drop l.record-index l.book) ≡ has_defined l.program l.book
