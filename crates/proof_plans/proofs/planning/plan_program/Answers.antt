use Rattle.std.proofs.Common.{◌≡◌, List, Some, Ok, Err, sym, subst, ap, ◌∙◌}
use Rattle.core_terms.specs.declared.programs.CProgram.{CProgram}
use Rattle.core_terms.specs.declared.documents.CStep.{CStep}
use Rattle.core_terms.specs.declared.documents.CProof.{CProof}
use Rattle.fair_rounds.specs.declared.records.Record.{Record}
use Rattle.safety_rules.specs.from_rules_table.Walk.{has_defined}
use Rattle.proof_plans.specs.declared.plans.Plan.{Plan}
use Rattle.proof_plans.specs.declared.plans.ScriptError.{ScriptError}
use Rattle.proof_plans.specs.Planning.{Reaches}
use Rattle.proof_plans.specs.Reaching.{Reach, end_reach, proof_reach, steps_reach}
use Rattle.proof_plans.proofs.LoopLaws.{handed_on}
use Rattle.proof_plans.proofs.PlanLaws.{misses_whole}
use Rattle.proof_plans.proofs.ReachLaws.{proof_done, proof_undone, reach_stopped}
use Rattle.safety_rules.specs.from_rules_table.Walk.{Around}
use Rattle.rules_steps.specs.Starts.{seen_of}
use Rattle.proof_plans.proofs.planning.plan_program.Goals as goal

pub returns-in_err-plan_steps : goal.returns-in_err-plan_steps
returns-in_err-plan_steps c =
    let seen : Around = seen_of c.args.around.now in
    let p : CProgram = c.args.program.now in
    let proof : CProof = c.args.proof.now in
    let first : Plan = c.args.plan.now in
    let plan : Plan = c.plan_steps.new.plan in
    let e : ScriptError = c.in_err-plan_steps.field-0.0 in
    let one : Reach = steps_reach seen p proof.steps first in
    let whole : Reach = proof_reach seen (Some p) proof first in
    handed_on (λ r. Reaches r plan whole) c.from_residual.result e c.from_residual.ensures.1
    (misses_whole (Unit {0}) (Unit {0}) e plan one whole (λ stop h. reach_stopped one stop (end_reach p) h)
    (subst (λ (ss : List CStep). Reaches {T = Unit {0}} (Err e) plan (steps_reach seen p ss first))
    c.as_slice.ensures c.in_err-plan_steps.ensures))

pub returns-then-has_defined : goal.returns-then-has_defined
returns-then-has_defined c =
    let seen : Around = seen_of c.args.around.now in
    let p : CProgram = c.args.program.now in
    let proof : CProof = c.args.proof.now in
    let plan : Plan = c.plan_steps.new.plan in
    proof_done seen p proof c.args.plan.now plan
    (subst (λ (ss : List CStep). steps_reach seen p ss c.args.plan.now ≡ Ok plan) c.as_slice.ensures
    c.in_ok-plan_steps.ensures)
    (ap (λ (book : List Record). has_defined p.name book) (sym c.as_slice-2.ensures) ∙ sym c.has_defined.ensures
    ∙ c.if-has_defined.true)

pub returns-else-has_defined : goal.returns-else-has_defined
returns-else-has_defined c =
    let seen : Around = seen_of c.args.around.now in
    let p : CProgram = c.args.program.now in
    let proof : CProof = c.args.proof.now in
    let plan : Plan = c.plan_steps.new.plan in
    let whole : Reach = proof_reach seen (Some p) proof c.args.plan.now in
    subst (λ (e : ScriptError). Reaches {T = Unit {0}} (Err e) plan whole) (sym c.fault.ensures)
    (proof_undone seen p proof c.args.plan.now plan
    (subst (λ (ss : List CStep). steps_reach seen p ss c.args.plan.now ≡ Ok plan) c.as_slice.ensures
    c.in_ok-plan_steps.ensures)
    (ap (λ (book : List Record). has_defined p.name book) (sym c.as_slice-2.ensures) ∙ sym c.has_defined.ensures
    ∙ c.if-has_defined.false))
