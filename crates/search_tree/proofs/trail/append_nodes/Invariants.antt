use Rattle.std.proofs.Common.{◌≡◌, ◌++◌, length}
use Rattle.search_tree.proofs.trail.append_nodes.Given as goal

abbrev pub invariant-loop-nodes : goal.invariant-loop-nodes
invariant-loop-nodes l = l.nodes ++ l.more ≡ l.fn.nodes ++ l.fn.more

abbrev pub decreases-loop-nodes : goal.decreases-loop-nodes
decreases-loop-nodes l = length l.more
