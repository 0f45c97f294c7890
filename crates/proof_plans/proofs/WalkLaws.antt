-- How far steps go is what the walk along the table of rules says.
use Rattle.std.proofs.Common.{List, [], ◌∷◌, Bool, true, false, Option, Some, None, Result, Ok, Err, refl}
use Rattle.std.proofs.Common.{sym}
use Rattle.std.proofs.Common.{ap, ◌∙◌, subst}
use Rattle.case_tables.specs.declared.code_table.Code.{Code}
use Rattle.core_terms.specs.declared.programs.CProgram.{CProgram}
use Rattle.core_terms.specs.declared.documents.CStep.{CStep}
use Rattle.core_terms.specs.declared.documents.CProof.{CProof}
use Rattle.safety_rules.specs.from_rules_table.Conclusion.{Conclusion}
use Rattle.safety_rules.specs.from_rules_table.Table.{needs}
use Rattle.safety_rules.specs.from_rules_table.Walk as walk
use Rattle.safety_rules.specs.from_rules_table.Walk.{Around, Failure, has_defined, or_failure, rule_of, planned}
use Rattle.safety_rules.specs.from_rules_table.Walk.{steps_of, proof_end}
use Rattle.safety_rules.specs.from_rules_table.Walk.{program_of}
use Rattle.safety_rules.specs.from_rules_table.Walk.{proof_steps, proofs_of}
use Rattle.proof_plans.specs.declared.plans.Plan.{Plan}
use Rattle.proof_plans.specs.Laws.{ReachAgrees, ReachIsWalk, plan_of}
use Rattle.proof_plans.specs.Reaching.{Reach, further, by_row, steps_reach, end_reach, proof_reach}
use Rattle.proof_plans.specs.Reaching.{proofs_reach}
use Rattle.rules_steps.specs.Starts.{document_seen}
use Rattle.proof_plans.proofs.ReachLaws.{ended, reach-is, reaches-none, reaches-more, proofs_reach-none}
use Rattle.proof_plans.proofs.ReachLaws.{proofs_reach-more}
use Rattle.proof_plans.proofs.VerdictLaws.{grown_is}

module _ (seen : Around) where
  then_agree : (walked : Result walk.Plan Failure) (r : Reach) (f : walk.Plan → Result walk.Plan Failure)
      (g : Plan → Reach) → ReachAgrees seen.slots walked r →
      ((w : walk.Plan) → ReachAgrees seen.slots (f w) (g (plan_of seen.slots w))) →
      ReachAgrees seen.slots (walk.further walked f) (further r g)
  then_agree (Ok w) r f g e h = subst (λ (x : Reach). ReachAgrees seen.slots (f w) (further x g)) (sym e) (h w)
  then_agree (Err failure) r f g e h = (e.0, ap (λ (x : Reach). further x g) e.1)

  row_agrees : (c : CProgram) (s : CStep) (rest : List CStep) (w : walk.Plan) (r : Result Conclusion Code) →
      ((x : Conclusion) →
      ReachAgrees seen.slots (steps_of seen c rest (planned w x))
      (steps_reach seen c rest (plan_of seen.slots (planned w x))))
      → ReachAgrees seen.slots
      (walk.further (or_failure c.name (Some s.name) r) (λ x. steps_of seen c rest (planned w x)))
      (further (by_row seen.slots c.name s.name (plan_of seen.slots w) r) (steps_reach seen c rest))
  row_agrees c s rest w (Ok x) h =
      subst (λ (p : Plan). ReachAgrees seen.slots (steps_of seen c rest (planned w x)) (steps_reach seen c rest p))
      (sym (grown_is seen.slots w x)) (h x)
  row_agrees c s rest w (Err code) h = (plan_of seen.slots w, refl)

  steps_agree : (c : CProgram) (steps : List CStep) (w : walk.Plan) →
      ReachAgrees seen.slots (steps_of seen c steps w) (steps_reach seen c steps (plan_of seen.slots w))
  steps_agree c [] w = reaches-none seen c (plan_of seen.slots w)
  steps_agree c (s ∷ rest) w =
      subst (λ (r : Reach). ReachAgrees seen.slots (steps_of seen c (s ∷ rest) w) r)
      (sym (reaches-more seen c s rest (plan_of seen.slots w)
      ∙ ap (λ (r : Reach). further r (steps_reach seen c rest)) (reach-is seen c s (plan_of seen.slots w))))
      (row_agrees c s rest w (rule_of seen c s w.records) (λ x. steps_agree c rest (planned w x)))

  end_agrees : (c : CProgram) (w : walk.Plan) → ReachAgrees seen.slots (proof_end c w)
      (end_reach c (plan_of seen.slots w))
  end_agrees c w = chosen (has_defined c.name w.records)
    where
      chosen : (b : Bool) → ReachAgrees seen.slots (or_failure c.name None (needs b Code.DefinedMissing (Ok w)))
          (ended b c (plan_of seen.slots w))
      chosen true = refl
      chosen false = (plan_of seen.slots w, refl)

  proof_agrees : (found : Option CProgram) (proof : CProof) (w : walk.Plan) →
      ReachAgrees seen.slots (proof_steps seen found proof w) (proof_reach seen found proof (plan_of seen.slots w))
  proof_agrees None proof w = refl
  proof_agrees (Some c) proof w =
      then_agree (steps_of seen c proof.steps w) (steps_reach seen c proof.steps (plan_of seen.slots w))
      (proof_end c) (end_reach c) (steps_agree c proof.steps w) (end_agrees c)

  proofs_agree : (proofs : List CProof) (w : walk.Plan) →
      ReachAgrees seen.slots (proofs_of seen proofs w) (proofs_reach seen proofs (plan_of seen.slots w))
  proofs_agree [] w = proofs_reach-none seen (plan_of seen.slots w)
  proofs_agree (proof ∷ rest) w =
      let found : Option CProgram = program_of seen.programs proof.program in
      subst (λ (r : Reach). ReachAgrees seen.slots (proofs_of seen (proof ∷ rest) w) r)
      (sym (proofs_reach-more seen proof rest (plan_of seen.slots w)))
      (then_agree (proof_steps seen found proof w) (proof_reach seen found proof (plan_of seen.slots w))
      (proofs_of seen rest) (proofs_reach seen rest) (proof_agrees found proof w) (proofs_agree rest))

pub reach_is_walk : ReachIsWalk
reach_is_walk d = proofs_agree (document_seen d) d.proofs (record { records = []; goals = []; owner = [] })
