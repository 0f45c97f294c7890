-- The records of a book fit, from step to step.
use Rattle.std.proofs.Common.{◌≡◌, List, [], ◌∷◌, ◌++◌, length, Some, Ok}
use Rattle.std.proofs.Common.{sym, ◌∙◌, subst}
use Rattle.core_terms.specs.declared.programs.CSlot.{CSlot}
use Rattle.core_terms.specs.declared.programs.CProgram.{CProgram}
use Rattle.core_terms.specs.declared.documents.CStep.{CStep}
use Rattle.core_terms.specs.Conditions.{IsStep}
use Rattle.obligations.specs.declared.certificates.Cert.{Cert}
use Rattle.fair_rounds.specs.declared.records.Record.{Record}
use Rattle.safety_rules.specs.from_rules_table.Conclusion.{Conclusion}
use Rattle.safety_rules.specs.from_rules_table.Walk.{Around, rule_of}
use Rattle.safety_rules.specs.declared.places.Derived.{Derived}
use Rattle.safety_rules.specs.Answers.{derived_of}
use Rattle.proof_plans.specs.declared.plans.Plan.{Plan}
use Rattle.rules_steps.specs.Using.{IsEntry, BookFits}
use Rattle.proof_plans.specs.Verdicts.{or_rule_fault, most_levels, refuted_by, grown, taken, step_verdict}
use Rattle.proof_plans.proofs.Equations.{taken-is, step-is, then_so}
use Rattle.proof_plans.proofs.LoopLaws.{rule_passed}
use Rattle.rules_steps.proofs.StepLaws.{good_step}

pub book_join : (slots : List CSlot) (book : List Record) (a : Record) → BookFits slots book → IsEntry slots a →
    BookFits slots (book ++ a ∷ [])
book_join slots [] a fits one = (one, tt)
book_join slots (b ∷ book) a fits one = (fits.0, book_join slots book a fits.1 one)

module _ (seen : Around) (certs : List Cert) (c : CProgram) where
  -- what a step adds that is taken
  pub record Went (s : CStep) (plan new : Plan) : Type 0 where
    pub made : Conclusion
    pub ruled : rule_of seen c s plan.records ≡ Ok made
    pub same : grown plan (derived_of seen.slots made) ≡ new

  pub step_went : (s : CStep) (plan new : Plan) → step_verdict seen certs c s plan ≡ Ok new → Went s plan new
  step_went s plan new e =
      let parts = then_so (or_rule_fault c.name (Some s.name) (rule_of seen c s plan.records))
      (λ (x : Conclusion). taken (most_levels seen.version) certs c.name s.name plan (derived_of seen.slots x)) new
      (sym (step-is seen certs c s plan) ∙ e) in
      let x : Conclusion = parts.0 in
      let d : Derived = derived_of seen.slots x in
      let shown = then_so (refuted_by (most_levels seen.version) certs c.name s.name
      (length plan.obligations) d.obligations)
      (λ (done : Unit {0}). Ok (grown plan d)) new (sym (taken-is
      (most_levels seen.version) certs c.name s.name plan d) ∙ parts.2) in
      record {
        made = x;
        ruled = rule_passed c.name (Some s.name) (rule_of seen c s plan.records) x parts.1;
        same = cc (shown.2);
      }

  pub step_fits : (s : CStep) (plan new : Plan) → IsStep seen.slots s →
      BookFits seen.slots plan.records → step_verdict seen certs c s plan ≡ Ok new → BookFits seen.slots new.records
  step_fits s plan new good fits e =
      let went = step_went s plan new e in
      subst (λ (p : Plan). BookFits seen.slots p.records) went.same
      (book_join seen.slots plan.records went.made.made fits (good_step seen c s plan.records good fits went.made
      went.ruled).1)
