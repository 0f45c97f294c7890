-- How far the steps of a document go by their rules alone: what they leave, up to the first step that fails, or the
-- first proof without a `defined` step.
use Rattle.std.specs.Prelude.{ℕ, List, [], ◌∷◌, cond, Option, Some, None, Result, Ok, Err}
use Rattle.case_tables.specs.declared.code_table.Code.{Code}
use Rattle.core_terms.specs.declared.programs.CSlot.{CSlot}
use Rattle.core_terms.specs.declared.programs.CProgram.{CProgram}
use Rattle.core_terms.specs.declared.documents.CStep.{CStep}
use Rattle.core_terms.specs.declared.documents.CProof.{CProof}
use Rattle.core_terms.specs.declared.documents.CDocument.{CDocument}
use Rattle.safety_rules.specs.from_rules_table.Conclusion.{Conclusion}
use Rattle.safety_rules.specs.from_rules_table.Walk.{Around, has_defined, program_of, rule_of}
use Rattle.safety_rules.specs.Answers.{derived_of}
use Rattle.proof_plans.specs.declared.plans.Plan.{Plan}
use Rattle.proof_plans.specs.declared.plans.StepFault.{StepFault}
use Rattle.rules_steps.specs.Starts.{document_seen}
use Rattle.proof_plans.specs.Verdicts.{rule_fault, grown, no_plan}

-- a failure, and what the steps before it left
pub record Stop : Type 0 where
  pub plan : Plan
  pub fault : StepFault

-- what the steps leave, where none fails
abbrev pub Reach : Type 0
Reach = Result Plan Stop

abbrev pub further : Reach → (Plan → Reach) → Reach
further (Ok plan) f = f plan
further (Err stop) f = Err stop

abbrev pub by_row : List CSlot → ℕ → ℕ → Plan → Result Conclusion Code → Reach
by_row slots program step plan (Ok x) = Ok (grown plan (derived_of slots x))
by_row slots program step plan (Err code) = Err (record { plan = plan; fault = rule_fault program (Some step) code })

-- a step by its rule
unfoldable pub step_reach : Around → CProgram → CStep → Plan → Reach
step_reach seen c s plan = by_row seen.slots c.name s.name plan (rule_of seen c s plan.records)

unfoldable pub steps_reach : Around → CProgram → List CStep → Plan → Reach
steps_reach seen c [] plan = Ok plan
steps_reach seen c (s ∷ rest) plan = further (step_reach seen c s plan) (steps_reach seen c rest)

-- a proof has a `defined` step
abbrev pub end_reach : CProgram → Plan → Reach
end_reach c plan =
    cond (has_defined c.name plan.records) (Ok plan)
    (Err (record { plan = plan; fault = rule_fault c.name None Code.DefinedMissing }))

abbrev pub proof_reach : Around → Option CProgram → CProof → Plan → Reach
proof_reach seen None proof plan = Ok plan
proof_reach seen (Some c) proof plan = further (steps_reach seen c proof.steps plan) (end_reach c)

unfoldable pub proofs_reach : Around → List CProof → Plan → Reach
proofs_reach seen [] plan = Ok plan
proofs_reach seen (proof ∷ rest) plan =
    further (proof_reach seen (program_of seen.programs proof.program) proof plan) (proofs_reach seen rest)

-- the whole document
abbrev pub reach_of : CDocument → Reach
reach_of d = proofs_reach (document_seen d) d.proofs no_plan

-- what was left, whether a step failed or not
abbrev pub reached : Reach → Plan
reached (Ok plan) = plan
reached (Err stop) = stop.plan
