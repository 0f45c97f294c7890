use Rattle.std.proofs.Common.{◌≡◌, ◌++◌, drop, filter}
use Rattle.safety_rules.specs.Helpers.{may_mean}
use Rattle.told_obligations.specs.declared.origins.Asked.{Asked}
use Rattle.told_obligations.specs.Origins as origin
use Rattle.told_obligations.proofs.adding.add_helping.Given as goal

abbrev pub invariant-loop-statement : goal.invariant-loop-statement
invariant-loop-statement l =
    l.origins ++ origin.each Asked.Helps (filter (may_mean l.h) (drop l.statement-index l.statements))
    ≡ l.initial.origins ++ origin.each Asked.Helps (filter (may_mean l.h) l.statements)
