use Rattle.std.proofs.Common.{◌≡◌, ◌+◌, drop}
use Rattle.obligations.specs.Certificates.{units}
use Rattle.search_tree.proofs.trail.after_nodes.Given as goal

abbrev pub invariant-loop-node : goal.invariant-loop-node
invariant-loop-node l = l.rest + units l.nodes ≡ l.fn.spare + units (drop l.node-index l.nodes)
