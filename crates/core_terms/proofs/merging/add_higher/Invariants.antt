use Rattle.std.proofs.Common.{◌≡◌, ◌++◌, take, filter}
use Rattle.std.specs.Prelude.{nat_lt}
use Rattle.core_terms.proofs.merging.add_higher.Given as goal

abbrev pub invariant-loop-higher : goal.invariant-loop-higher
invariant-loop-higher l = l.more ≡ l.fn.more ++ filter (λ x. nat_lt l.slot x) (take l.higher-index l.slots)
