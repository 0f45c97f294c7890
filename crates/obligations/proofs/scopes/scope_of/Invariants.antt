use Rattle.std.proofs.Common.{◌≡◌, ◌≤◌, ◌-◌}
use Rattle.obligations.specs.Scopes.{scope}
use Rattle.obligations.proofs.scopes.scope_of.Given as goal

abbrev pub invariant-more : goal.invariant-more
invariant-more l = record {
  few : l.count ≤ l.added;
  made : l.all ≡ scope l.vs l.count;
}

abbrev pub decreases-more : goal.decreases-more
decreases-more l = l.added - l.count
