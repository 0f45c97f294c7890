use Rattle.std.proofs.Common.{◌++◌, take, ap, ◌∙◌}
use Rattle.std.specs.List.{flat_map}
use Rattle.core_terms.specs.declared.documents.CProof.{CProof}
use Rattle.told_obligations.specs.Listing.{told_in}
use Rattle.told_obligations.proofs.ListingLaws.{flat_one, told_none, told_same, told_then}
use Rattle.told_obligations.proofs.listing.put_proofs.Goals as goal

pub loop-proof-init : goal.loop-proof-init
loop-proof-init g c =
    told_none (told_in c.args.listing.now) c.args.from (g.K.Sink.written c.args.out.now)
    (g.K.Sink.faults c.args.out.now) c.args.text.now

pub loop-proof-preserved : goal.loop-proof-preserved
loop-proof-preserved g c =
    told_same (ap (λ steps. flat_map (λ (p : CProof). p.steps) (take c.loop-proof.proof-index c.args.proofs.now) ++ steps)
    c.as_slice.ensures ∙ flat_one (λ (p : CProof). p.steps) c.args.proofs.now c.loop-proof.proof-index
    c.proof-item.result c.loop-proof-test.true c.proof-item.is)
    (told_then c.loop-proof.invariant c.put_steps-at.ensures)
