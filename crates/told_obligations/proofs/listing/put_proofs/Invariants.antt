use Rattle.std.proofs.Common.{take}
use Rattle.std.specs.List.{flat_map}
use Rattle.core_terms.specs.declared.documents.CProof.{CProof}
use Rattle.told_obligations.specs.Listing.{told_in}
use Rattle.told_obligations.specs.Following.{IsTold}
use Rattle.told_obligations.proofs.listing.put_proofs.Given as goal

abbrev pub invariant-loop-proof : goal.invariant-loop-proof
invariant-loop-proof g l =
    IsTold (told_in l.listing) l.fn.from l.at (flat_map (λ (p : CProof). p.steps) (take l.proof-index l.proofs))
    (g.K.Sink.written l.initial.out) (g.K.Sink.written l.out) (g.K.Sink.faults l.initial.out) (g.K.Sink.faults l.out)
    l.initial.text l.text
