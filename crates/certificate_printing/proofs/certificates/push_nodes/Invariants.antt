use Rattle.std.proofs.Common.{◌≡◌, ◌++◌, drop}
use Rattle.std.specs.List.{flat_map}
use Rattle.certificate_printing.specs.Certificates.{node_text}
use Rattle.certificate_printing.proofs.certificates.push_nodes.Given as goal

abbrev pub invariant-loop-node : goal.invariant-loop-node
invariant-loop-node l =
    l.text.items ++ flat_map node_text (drop l.node-index l.nodes) ≡ l.initial.text.items ++ flat_map node_text l.nodes
