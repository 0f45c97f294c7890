use Rattle.std.proofs.Common.{◌≡◌, ◌++◌, map, take}
use Rattle.certificate_reading.specs.Certificates as written
use Rattle.examples_events.proofs.certificates.push_nodes.Given as goal

abbrev pub invariant-loop-node : goal.invariant-loop-node
invariant-loop-node l = l.found ≡ l.initial.found ++ map written.node_of (take l.node-index l.nodes)
