use Rattle.std.proofs.Common.{◌≡◌, List, drop}
use Rattle.obligations.specs.declared.certificates.Node.{Node}
use Rattle.certificate_rules.specs.Refutation.{OpenBranch}
use Rattle.event_checker.specs.Events.{events_of, nodes_from}
use Rattle.event_checker.specs.Readings.{ReadingIsReady, ReadingStands}
use Rattle.certificate_check.proofs.checking.read_nodes.Given as goal

abbrev pub invariant-loop-node : goal.invariant-loop-node
invariant-loop-node l = record {
  ready : ReadingIsReady l.vs l.reading;
  told : (root : List OpenBranch) (ns : List Node) → ReadingStands l.vs root l.fn.reading ns →
      (ms : List Node) × ReadingStands l.vs root l.reading ms
      × (nodes_from ms (events_of (drop l.node-index l.nodes)) ≡ nodes_from ns (events_of l.nodes));
}
