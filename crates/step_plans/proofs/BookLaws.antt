-- How far a planner has come.
use Rattle.std.proofs.Common.{◌≡◌, List, [], ◌∷◌, ◌++◌, reverse, None, Ok, Err, sym, ap, ◌∙◌}
use Rattle.core_terms.specs.declared.documents.CDocument.{CDocument}
use Rattle.core_terms.specs.declared.documents.CProof.{CProof}
use Rattle.fair_rounds.specs.declared.records.Record.{Record}
use Rattle.safety_rules.specs.from_rules_table.Walk.{walk_of}
use Rattle.rules_steps.specs.Starts.{document_seen, starts_in}
use Rattle.proof_plans.specs.declared.plans.Plan.{Plan}
use Rattle.proof_plans.specs.declared.plans.ScriptError.{ScriptError}
use Rattle.proof_plans.specs.Reaching.{proofs_reach, reach_of}
use Rattle.proof_plans.specs.Verdicts.{grown, no_plan}
use Rattle.proof_plans.proofs.PlanLaws.{failure_walks, plan_walks}
use Rattle.step_plans.specs.declared.planner.Planner.{Planner}
use Rattle.step_plans.specs.declared.planning.PlannedStep.{PlannedStep}
use Rattle.step_plans.specs.Books.{Books}
use Rattle.step_plans.specs.Laws.{reach_by}
use Rattle.step_plans.specs.Planning.{IsPlanned, PlansNext, left_by, records_of}
use Rattle.step_plans.specs.Stepping.{Next, next_of}
use Rattle.step_plans.proofs.StepLaws.{reach-goes-on}

-- the steps before came to this plan
pub record Reached (d : CDocument) (p : Planner) : Type 0 where
  pub plan : Plan
  pub records : records_of p ≡ plan.records
  pub reach : reach_of d ≡ proofs_reach (document_seen d) (left_by d p) plan

pub reached-first : (d : CDocument) (p : Planner) → left_by d p ≡ d.proofs → records_of p ≡ [] → Reached d p
reached-first d p left records = record {
  plan = no_plan;
  records = records;
  reach = ap (λ (ps : List CProof). proofs_reach (document_seen d) ps no_plan) (sym left);
}

module _ (d : CDocument) (p : Planner) (r : Reached d p) where
  reach-next : (n : Next) → next_of (document_seen d) (left_by d p) (records_of p) ≡ n →
      reach_of d ≡ reach_by (document_seen d) r.plan n
  reach-next n e = r.reach ∙ reach-goes-on (document_seen d) (left_by d p) r.plan
      ∙ ap (λ (book : List Record). reach_by (document_seen d) r.plan (next_of (document_seen d) (left_by d p) book))
      (sym r.records)
      ∙ ap (reach_by (document_seen d) r.plan) e

  -- a step more
  pub reached-more : (q : Planner) (s : PlannedStep) → IsPlanned
      (next_of (document_seen d) (left_by d p) (records_of p)) (left_by d q) (records_of p) (records_of q) s →
      Reached d q
  reached-more q s planned = record {
    plan = grown r.plan (record { made = planned.made; obligations = reverse s.obligations });
    records = planned.records ∙ ap (λ (rs : List Record). rs ++ planned.made ∷ []) r.records;
    reach = reach-next _ planned.next_is;
  }

  -- all steps
  pub reached-last : (q : Planner) → next_of (document_seen d) (left_by d p) (records_of p) ≡ Ok None →
      records_of q ≡ records_of p → Books (Ok (records_of q)) (walk_of d (starts_in d.slots))
  reached-last q e same =
      let w = plan_walks d r.plan (reach-next (Ok None) e) in
      (w.0, w.1, same ∙ r.records ∙ ap (λ (plan : Plan). plan.records) w.2)

  -- a failure
  pub reached-stop : (q : Planner) (e : ScriptError) → PlansNext d p q (Err e) →
      Books (Err e) (walk_of d (starts_in d.slots))
  reached-stop q (ScriptError.Step fault) h =
      failure_walks d (ScriptError.Step fault) r.plan (reach-next (Err fault) h)
  reached-stop q ScriptError.Memory h = tt
