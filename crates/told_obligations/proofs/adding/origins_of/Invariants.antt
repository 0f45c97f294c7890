use Rattle.std.proofs.Common.{◌≡◌, ◌++◌, drop}
use Rattle.std.specs.List.{flat_map}
use Rattle.told_obligations.specs.Origins as origin
use Rattle.told_obligations.proofs.adding.origins_of.Given as goal

abbrev pub invariant-loop-proof : goal.invariant-loop-proof
invariant-loop-proof l =
    l.origins ++ flat_map (origin.proof_origins l.doc.programs l.records) (drop l.proof-index l.proof-items)
    ≡ origin.document_origins l.doc l.records
