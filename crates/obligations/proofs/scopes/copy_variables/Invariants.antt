use Rattle.std.proofs.Common.{◌≡◌, take}
use Rattle.obligations.proofs.scopes.copy_variables.Given as goal

abbrev pub invariant-loop-v : goal.invariant-loop-v
invariant-loop-v l = l.copy ≡ take l.v-index l.vs
