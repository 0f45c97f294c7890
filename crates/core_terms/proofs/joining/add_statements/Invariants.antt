use Rattle.std.proofs.Common.{◌≡◌, ◌++◌, take}
use Rattle.core_terms.proofs.joining.add_statements.Given as goal

abbrev pub invariant-loop-statement : goal.invariant-loop-statement
invariant-loop-statement l = l.all ≡ l.fn.all ++ take l.statement-index l.from
