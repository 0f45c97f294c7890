use Rattle.std.proofs.Common.{◌≡◌, max, drop}
use Rattle.obligations.specs.Scopes.{next_param}
use Rattle.obligations.proofs.scopes.next_param.Given as goal

abbrev pub invariant-loop-v : goal.invariant-loop-v
invariant-loop-v l = max l.next (next_param (drop l.v-index l.vs)) ≡ next_param l.vs
