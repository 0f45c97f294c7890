use Rattle.std.proofs.Common.{◌≡◌, drop, nat_eq}
use Rattle.std.specs.List.{list_any}
use Rattle.core_terms.specs.declared.documents.CProof.{CProof}
use Rattle.watch_schedules.proofs.watching.is_proved.Given as goal

abbrev pub invariant-loop-proof : goal.invariant-loop-proof
invariant-loop-proof l =
    list_any (λ (q : CProof). nat_eq q.program l.program.name) (drop l.proof-index l.doc.proofs)
    ≡ list_any (λ (q : CProof). nat_eq q.program l.program.name) l.doc.proofs
