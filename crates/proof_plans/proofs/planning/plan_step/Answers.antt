use Rattle.std.proofs.Common.{◌≡◌, List, Some, Ok, Err, subst, sym, ap, ◌∙◌}
use Rattle.core_terms.specs.declared.programs.CProgram.{CProgram}
use Rattle.core_terms.specs.declared.documents.CStep.{CStep}
use Rattle.fair_rounds.specs.declared.records.Record.{Record}
use Rattle.safety_rules.specs.from_rules_table.Walk.{rule_of}
use Rattle.safety_rules.specs.declared.places.RuleError.{RuleError}
use Rattle.safety_rules.specs.Answers.{RuleAnswers}
use Rattle.proof_plans.specs.declared.plans.Plan.{Plan}
use Rattle.proof_plans.specs.declared.plans.ScriptError.{ScriptError}
use Rattle.proof_plans.specs.Planning.{Reaches}
use Rattle.proof_plans.specs.Reaching.{step_reach}
use Rattle.proof_plans.specs.Verdicts.{rule_fault}
use Rattle.proof_plans.proofs.ReachLaws.{reach_fails, reach_taken}
use Rattle.safety_rules.specs.from_rules_table.Walk.{Around}
use Rattle.rules_steps.specs.Starts.{seen_of}
use Rattle.proof_plans.proofs.planning.plan_step.Goals as goal

pub returns-in_ok-add-in-Ok : goal.returns-in_ok-add-in-Ok
returns-in_ok-add-in-Ok c =
    let seen : Around = seen_of c.args.around.now in
    let p : CProgram = c.args.program.now in
    let s : CStep = c.args.step.now in
    reach_taken seen p s c.args.plan.now c.in-Ok.derived
    (subst (λ (book : List Record). RuleAnswers (Ok c.in-Ok.derived) seen.slots (rule_of seen p s book))
    c.as_slice.ensures c.in-Ok.ensures.answer)
    ∙ ap (λ (plan : Plan). Ok plan) (sym c.in_ok-add-in-Ok.ensures)

pub returns-in-Err-Fault : goal.returns-in-Err-Fault
returns-in-Err-Fault c =
    let seen : Around = seen_of c.args.around.now in
    let p : CProgram = c.args.program.now in
    let s : CStep = c.args.step.now in
    let plan : Plan = c.args.plan.now in
    let made : c.fault.result ≡ ScriptError.Step (rule_fault p.name (Some s.name) c.in-Err-Fault.code) =
    cc (c.fault.ensures, c.in-Err-Fault.code-is) in
    subst (λ (e : ScriptError). Reaches {T = Unit {0}} (Err e) plan (step_reach seen p s plan)) (sym made)
    (reach_fails seen p s plan c.in-Err-Fault.code
    (subst (λ (book : List Record). RuleAnswers (Err (RuleError.Fault c.in-Err-Fault.code)) seen.slots
    (rule_of seen p s book)) c.as_slice.ensures
    (subst (λ (e : RuleError). RuleAnswers (Err e) seen.slots
    (rule_of seen p s c.as_slice.result.now)) c.in-Err-Fault.field-0-is
    c.in-Err-Fault.ensures.answer)))
