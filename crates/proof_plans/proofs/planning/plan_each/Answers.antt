use Rattle.std.proofs.Common.{◌≡◌, ℕ, ◌+◌, List, length, drop, map, sym, ap, ◌∙◌}
use Rattle.std.proofs.Common.{arith}
use Rattle.std.specs.Prelude.{sum}
use Rattle.core_terms.specs.declared.documents.CProof.{CProof}
use Rattle.core_terms.specs.Conditions.{IsProof}
use Rattle.safety_rules.specs.from_rules_table.Walk.{program_of}
use Rattle.proof_plans.specs.declared.plans.Plan.{Plan}
use Rattle.proof_plans.specs.declared.plans.ScriptError.{ScriptError}
use Rattle.proof_plans.specs.Planning.{Reaches}
use Rattle.proof_plans.specs.Reaching.{Reach, proof_reach, proofs_reach}
use Rattle.rules_steps.proofs.ItemLaws.{drop_at}
use Rattle.proof_plans.proofs.LoopLaws.{handed_on, item_has, sum_more}
use Rattle.proof_plans.proofs.PlanLaws.{misses_whole}
use Rattle.proof_plans.proofs.ReachLaws.{proof_reach_fits, reach_proofs_at, reach_proofs_end, reach_stopped}
use Rattle.proof_plans.proofs.ReachLaws.{reach_went}
use Rattle.safety_rules.specs.from_rules_table.Walk.{Around}
use Rattle.rules_steps.specs.Starts.{seen_of}
use Rattle.proof_plans.proofs.planning.plan_each.Goals as goal

pub plan_proof-requires-clause-steps : goal.plan_proof-requires-clause-steps
plan_proof-requires-clause-steps c =
    (item_has (IsProof c.args.around.now.slots.now c.args.around.now.programs.now) c.args.proofs.now
    c.loop-proof.proof-index c.proof-item.result c.loop-proof-test.true c.proof-item.is
    c.requires.proofs).steps

pub plan_proof-requires-clause-room : goal.plan_proof-requires-clause-room
plan_proof-requires-clause-room c =
    let i : ℕ = c.loop-proof.proof-index in
    let proofs : List CProof = c.args.proofs.now in
    let left : sum (map (λ (p : CProof). length p.steps) (drop i proofs)) ≡
    length c.proof-item.result.steps + sum (map (λ (p : CProof). length p.steps) (drop (i + 1) proofs)) =
    ap (λ (ps : List CProof). sum (map (λ (p : CProof). length p.steps) ps))
    (drop_at proofs i c.proof-item.result c.loop-proof-test.true c.proof-item.is)
    ∙ sum_more (length c.proof-item.result.steps)
    (map (λ (p : CProof). length p.steps) (drop (i + 1) proofs)) in
    let room = c.loop-proof.invariant.room in
    omega (arith, left, room)

pub returns-in_err-plan_proof : goal.returns-in_err-plan_proof
returns-in_err-plan_proof c =
    let seen : Around = seen_of c.args.around.now in
    let proofs : List CProof = c.args.proofs.now in
    let i : ℕ = c.loop-proof.proof-index in
    let plan : Plan = c.plan_proof.new.plan in
    let e : ScriptError = c.in_err-plan_proof.field-0.0 in
    let one : Reach =
    proof_reach seen (program_of seen.programs c.proof-item.result.program) c.proof-item.result c.loop-proof.plan in
    let whole : Reach = proofs_reach seen c.args.proofs.now c.args.plan.now in
    handed_on (λ r. Reaches r plan whole) c.from_residual.result e c.from_residual.ensures.1
    (misses_whole (Unit {0}) (Unit {0}) e plan one whole
    (λ stop h. sym c.loop-proof.invariant.same
    ∙ reach_proofs_at seen proofs i c.proof-item.result c.loop-proof.plan c.loop-proof-test.true
    c.proof-item.is
    ∙ reach_stopped one stop (proofs_reach seen (drop (i + 1) proofs)) h)
    c.in_err-plan_proof.ensures)

pub loop-proof-preserved : goal.loop-proof-preserved
loop-proof-preserved c =
    let seen : Around = seen_of c.args.around.now in
    let i : ℕ = c.loop-proof.proof-index in
    let proofs : List CProof = c.args.proofs.now in
    let new : Plan = c.plan_proof.new.plan in
    let one : Reach =
    proof_reach seen (program_of seen.programs c.proof-item.result.program) c.proof-item.result c.loop-proof.plan in
    let left : sum (map (λ (p : CProof). length p.steps) (drop i proofs)) ≡
    length c.proof-item.result.steps + sum (map (λ (p : CProof). length p.steps) (drop (i + 1) proofs)) =
    ap (λ (ps : List CProof). sum (map (λ (p : CProof). length p.steps) ps))
    (drop_at proofs i c.proof-item.result c.loop-proof-test.true c.proof-item.is)
    ∙ sum_more (length c.proof-item.result.steps)
    (map (λ (p : CProof). length p.steps) (drop (i + 1) proofs)) in
    let room = c.loop-proof.invariant.room in
    let fits = proof_reach_fits seen (program_of seen.programs c.proof-item.result.program) c.proof-item.result
    c.loop-proof.plan new
    (item_has (IsProof seen.slots seen.programs) proofs i c.proof-item.result c.loop-proof-test.true c.proof-item.is
    c.requires.proofs).steps c.loop-proof.invariant.book c.in_ok-plan_proof.ensures in
    let more = fits.1 in
    record {
      book = fits.0;
      room = omega (arith, left, room, more);
      same =
          sym (reach_proofs_at seen proofs i c.proof-item.result c.loop-proof.plan c.loop-proof-test.true
          c.proof-item.is
          ∙ reach_went one new (proofs_reach seen (drop (i + 1) proofs)) c.in_ok-plan_proof.ensures)
          ∙ c.loop-proof.invariant.same;
    }

pub returns : goal.returns
returns c =
    sym c.loop-proof.invariant.same
    ∙ reach_proofs_end (seen_of c.args.around.now) c.args.proofs.now
    c.loop-proof.proof-index c.loop-proof.plan c.loop-proof-test.false
