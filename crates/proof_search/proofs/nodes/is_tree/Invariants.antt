use Rattle.std.proofs.Common.{◌≡◌, drop}
use Rattle.certificate_rules.specs.Trees.{is_whole}
use Rattle.proof_search.proofs.nodes.is_tree.Given as goal

abbrev pub invariant-loop-node : goal.invariant-loop-node
invariant-loop-node l = is_whole l.nodes 1 ≡ is_whole (drop l.node-index l.nodes) l.open
