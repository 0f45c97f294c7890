use Rattle.std.proofs.Common.{sym, ap, ◌∙◌, subst, Err}
use Rattle.core_terms.specs.declared.documents.CDocument.{CDocument}
use Rattle.safety_rules.specs.from_rules_table.Walk.{walk_of}
use Rattle.proof_plans.specs.declared.plans.Plan.{Plan}
use Rattle.proof_plans.specs.declared.plans.ScriptError.{ScriptError}
use Rattle.proof_plans.specs.Planning.{Reaches, Walks}
use Rattle.proof_plans.specs.Reaching.{proofs_reach}
use Rattle.rules_steps.specs.Starts.{starts_in}
use Rattle.proof_plans.proofs.LoopLaws.{handed_on}
use Rattle.proof_plans.proofs.PlanLaws.{failure_walks, plan_walks}
use Rattle.rules_steps.specs.Starts.{document_seen}
use Rattle.proof_plans.proofs.planning.walk.Goals as goal

pub returns-in_err-plan_proofs : goal.returns-in_err-plan_proofs
returns-in_err-plan_proofs c =
    let d : CDocument = c.args.doc.now in
    let e : ScriptError = c.in_err-plan_proofs.field-0.0 in
    let plan : Plan = c.plan_proofs.new.plan in
    handed_on (λ r. Walks d.slots r (walk_of d (starts_in d.slots))) c.from_residual.result e
    c.from_residual.ensures.1
    (failure_walks d e plan
    (subst (λ (p : Plan). Reaches {T = Unit {0}} (Err e) plan (proofs_reach (document_seen d) d.proofs p))
    c.new_plan-plan.ensures c.in_err-plan_proofs.ensures))

pub returns : goal.returns
returns c =
    let d : CDocument = c.args.doc.now in
    plan_walks d c.plan_proofs.new.plan
    (ap (λ (p : Plan). proofs_reach (document_seen d) d.proofs p) (sym c.new_plan-plan.ensures)
    ∙ c.in_ok-plan_proofs.ensures)
