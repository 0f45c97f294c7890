use Rattle.std.proofs.Common.{◌≡◌, List, drop, map}
use Rattle.obligations.specs.declared.branches.Variable.{Variable}
use Rattle.obligations.specs.declared.certificates.Node.{Node}
use Rattle.certificate_rules.specs.Refutation.{OpenBranch}
use Rattle.event_checker.specs.Events.{pair_event, nodes_from}
use Rattle.event_checker.specs.Readings.{ReadingStands}
use Rattle.certificate_check.proofs.checking.read_pairs.Given as goal

abbrev pub invariant-loop-pair : goal.invariant-loop-pair
invariant-loop-pair l =
    (vs : List Variable) (root : List OpenBranch) (ns : List Node) → ReadingStands vs root l.fn.reading ns →
    (ms : List Node) × ReadingStands vs root l.reading ms
    × (nodes_from ms (map pair_event (drop l.pair-index l.pairs)) ≡ nodes_from ns (map pair_event l.pairs))
