use Rattle.std.proofs.Common.{◌-◌, ◌≤◌}
use Rattle.search_tree.specs.Points.{IsFixing}
use Rattle.search_tree.proofs.fixing.fix_all.Given as goal

abbrev pub invariant-variables : goal.invariant-variables
invariant-variables l = record {
  inside : l.taken ≤ l.branch.added;
  is : IsFixing l.vs l.branch l.taken l.fixing;
}

abbrev pub decreases-variables : goal.decreases-variables
decreases-variables l = l.branch.added - l.taken
