use Rattle.std.proofs.Common.{◌≡◌, ◌++◌, drop}
use Rattle.told_obligations.specs.Origins as origin
use Rattle.told_obligations.proofs.adding.add_each.Given as goal

abbrev pub invariant-loop-statement : goal.invariant-loop-statement
invariant-loop-statement l =
    l.origins ++ origin.each l.asked (drop l.statement-index l.statements)
    ≡ l.initial.origins ++ origin.each l.asked l.statements
