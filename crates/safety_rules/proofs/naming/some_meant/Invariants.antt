use Rattle.std.proofs.Common.{◌≡◌, drop}
use Rattle.std.specs.List.{list_any}
use Rattle.safety_rules.specs.Helpers.{may_mean}
use Rattle.safety_rules.proofs.naming.some_meant.Given as goal

abbrev pub invariant-loop-s : goal.invariant-loop-s
invariant-loop-s l = list_any (may_mean l.h) (drop l.s-index l.statements) ≡ list_any (may_mean l.h) l.statements
