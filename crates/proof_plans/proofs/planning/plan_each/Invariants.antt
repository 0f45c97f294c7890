use Rattle.std.proofs.Common.{◌≡◌, ◌+◌, ◌<◌, ◌^◌, drop, length, map}
use Rattle.std.specs.Prelude.{sum}
use Rattle.core_terms.specs.declared.documents.CProof.{CProof}
use Rattle.proof_plans.specs.Reaching.{proofs_reach}
use Rattle.rules_steps.specs.Using.{BookFits}
use Rattle.rules_steps.specs.Starts.{seen_of}
use Rattle.proof_plans.proofs.planning.plan_each.Given as goal

abbrev pub invariant-loop-proof : goal.invariant-loop-proof
invariant-loop-proof l = record {
  book : BookFits l.around.slots.now l.plan.records;
  room : length l.plan.records + sum (map (λ (p : CProof). length p.steps) (drop l.proof-index l.proofs)) < 2 ^ 31;
  same : proofs_reach (seen_of l.around) (drop l.proof-index l.proofs) l.plan
      ≡ proofs_reach (seen_of l.around) l.proofs l.initial.plan;
}
