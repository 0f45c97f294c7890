-- A step of a document has an origin for each obligation.
use Rattle.std.specs.Prelude.{◌≡◌, List, ◌++◌, length, Ok}
use Rattle.core_terms.specs.declared.programs.CProgram.{CProgram}
use Rattle.core_terms.specs.declared.documents.CStep.{CStep}
use Rattle.core_terms.specs.declared.documents.CDocument.{CDocument}
use Rattle.fair_rounds.specs.declared.records.Record.{Record}
use Rattle.safety_rules.specs.from_rules_table.Conclusion.{Conclusion}
use Rattle.safety_rules.specs.from_rules_table.Walk.{Around, rule_of}
use Rattle.proof_plans.specs.declared.plans.Plan.{Plan}
use Rattle.proof_plans.specs.Reaching.{reach_of}
use Rattle.told_obligations.specs.Origins.{step_origins, document_origins}

-- where the table of rules gives a step a conclusion, it has as many origins as obligations
abbrev pub StepOrigins : Type 0
StepOrigins = (seen : Around) (c : CProgram) (s : CStep) (book : List Record) (x : Conclusion) →
    rule_of seen c s book ≡ Ok x → length (step_origins c book s) ≡ length x.goals

-- also where they are told from the records of later steps too
abbrev pub LaterOrigins : Type 0
LaterOrigins = (seen : Around) (c : CProgram) (s : CStep) (book more : List Record) (x : Conclusion) →
    rule_of seen c s book ≡ Ok x → length (step_origins c (book ++ more) s) ≡ length x.goals

-- so a document whose steps all go has as many as its plan has obligations
abbrev pub DocumentOrigins : Type 0
DocumentOrigins = (d : CDocument) (plan : Plan) → reach_of d ≡ Ok plan →
    length (document_origins d plan.records) ≡ length plan.obligations
