use Rattle.proof_plans.proofs.LoopLaws.{seen_proofs}
use Rattle.proof_plans.proofs.planning.plan_proofs.Goals as goal

pub plan_each-requires-clause-proofs : goal.plan_each-requires-clause-proofs
plan_each-requires-clause-proofs c =
    seen_proofs c.args.doc.now c.around-around.result c.as_slice.result.now c.requires.document
    c.around-around.ensures.seen c.as_slice.ensures
