use Rattle.std.proofs.Common.{ℕ, ◌+◌, List, length, drop, sym, ap, ◌∙◌, arith}
use Rattle.core_terms.specs.declared.programs.CProgram.{CProgram}
use Rattle.core_terms.specs.declared.documents.CStep.{CStep}
use Rattle.core_terms.specs.Conditions.{IsStep}
use Rattle.proof_plans.specs.declared.plans.Plan.{Plan}
use Rattle.proof_plans.specs.declared.plans.ScriptError.{ScriptError}
use Rattle.proof_plans.specs.Planning.{Reaches}
use Rattle.proof_plans.specs.Reaching.{Reach, step_reach, steps_reach}
use Rattle.rules_steps.proofs.ItemLaws.{drop_at}
use Rattle.proof_plans.proofs.LoopLaws.{handed_on, item_has}
use Rattle.proof_plans.proofs.PlanLaws.{misses_whole}
use Rattle.proof_plans.proofs.ReachLaws.{reach_fits, reach_grows, reach_steps_at, reach_steps_end, reach_stopped}
use Rattle.proof_plans.proofs.ReachLaws.{reach_went}
use Rattle.safety_rules.specs.from_rules_table.Walk.{Around}
use Rattle.rules_steps.specs.Starts.{seen_of}
use Rattle.proof_plans.proofs.planning.plan_steps.Goals as goal

pub plan_step-requires-clause-step : goal.plan_step-requires-clause-step
plan_step-requires-clause-step c =
    item_has (IsStep c.args.around.now.slots.now) c.args.steps.now c.loop-step.step-index c.step-item.result
    c.loop-step-test.true
    c.step-item.is c.requires.steps

pub plan_step-requires-clause-room : goal.plan_step-requires-clause-room
plan_step-requires-clause-room c =
    let left = ap (λ (ss : List CStep). length ss)
    (drop_at c.args.steps.now c.loop-step.step-index c.step-item.result c.loop-step-test.true c.step-item.is) in
    let room = c.loop-step.invariant.room in
    omega (arith, left, room)

pub returns-in_err-plan_step : goal.returns-in_err-plan_step
returns-in_err-plan_step c =
    let seen : Around = seen_of c.args.around.now in
    let p : CProgram = c.args.program.now in
    let i : ℕ = c.loop-step.step-index in
    let plan : Plan = c.plan_step.new.plan in
    let e : ScriptError = c.in_err-plan_step.field-0.0 in
    let one : Reach = step_reach seen p c.step-item.result c.loop-step.plan in
    let whole : Reach = steps_reach seen p c.args.steps.now c.args.plan.now in
    handed_on (λ r. Reaches r plan whole) c.from_residual.result e c.from_residual.ensures.1
    (misses_whole (Unit {0}) (Unit {0}) e plan one whole
    (λ stop h. sym c.loop-step.invariant.same
    ∙ reach_steps_at seen p c.args.steps.now i c.step-item.result c.loop-step.plan c.loop-step-test.true
    c.step-item.is
    ∙ reach_stopped one stop (steps_reach seen p (drop (i + 1) c.args.steps.now)) h)
    c.in_err-plan_step.ensures)

pub loop-step-preserved : goal.loop-step-preserved
loop-step-preserved c =
    let seen : Around = seen_of c.args.around.now in
    let p : CProgram = c.args.program.now in
    let i : ℕ = c.loop-step.step-index in
    let new : Plan = c.plan_step.new.plan in
    let one : Reach = step_reach seen p c.step-item.result c.loop-step.plan in
    let left = ap (λ (ss : List CStep). length ss)
    (drop_at c.args.steps.now i c.step-item.result c.loop-step-test.true c.step-item.is) in
    let room = c.loop-step.invariant.room in
    let more = reach_grows seen p c.step-item.result c.loop-step.plan new c.in_ok-plan_step.ensures in
    record {
      book = reach_fits seen p c.step-item.result c.loop-step.plan new
          (item_has (IsStep seen.slots) c.args.steps.now i c.step-item.result c.loop-step-test.true c.step-item.is
          c.requires.steps) c.loop-step.invariant.book c.in_ok-plan_step.ensures;
      room = omega (arith, left, room, more);
      same =
          sym (reach_steps_at seen p c.args.steps.now i c.step-item.result c.loop-step.plan c.loop-step-test.true
          c.step-item.is
          ∙ reach_went one new (steps_reach seen p (drop (i + 1) c.args.steps.now)) c.in_ok-plan_step.ensures)
          ∙ c.loop-step.invariant.same;
    }

pub returns : goal.returns
returns c =
    sym c.loop-step.invariant.same
    ∙ reach_steps_end (seen_of c.args.around.now) c.args.program.now c.args.steps.now c.loop-step.step-index
    c.loop-step.plan
    c.loop-step-test.false
