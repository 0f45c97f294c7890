-- The units of a certificate, node by node.
use Rattle.std.proofs.Common.{◌≡◌, ℕ, ◌+◌, ◌<◌, List, length, drop, slice_index_or, refl}
use Rattle.obligations.specs.declared.certificates.Node.{Node}
use Rattle.obligations.specs.Certificates.{node_units, units}
use Rattle.obligations.proofs.FoldLaws.{fold-next}

pub units-next : (ns : List Node) (i : ℕ) (d : Node) → i < length ns →
    units (drop i ns) ≡ node_units (slice_index_or ns i d) + units (drop (i + 1) ns)
units-next ns i d h = fold-next units (λ a b. a + b) node_units (λ x xs. refl) ns i d h

pub ruleset units_laws = units-next
