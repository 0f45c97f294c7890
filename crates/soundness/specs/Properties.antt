-- What the steps of an accepted document claim is true.
use Rattle.std.specs.Prelude.{◌≡◌, ℕ, Bool, None, Some, Ok, slice_get}
use Rattle.unity_syntax.specs.declared.document.Document.{Document}
use Rattle.meaning_documents.specs.Claims.{Claims}
use Rattle.meaning_documents.specs.Steps.{EachStep, ProofStep, of_proof, document_steps}
use Rattle.meaning_executions.specs.Pairwise.{Pairwise}
use Rattle.names_rules.specs.WellNamed.{IsWellNamed}
use Rattle.core_terms.specs.declared.programs.CProgram.{CProgram}
use Rattle.core_terms.specs.Conditions.{IsCoreDocument}
use Rattle.fair_rounds.specs.declared.records.Record.{Record}
use Rattle.rules_table.specs.Validity.{AllValid}
use Rattle.rules_table.specs.Walk.{Plan, walk_of}
use Rattle.expand_fits_parts.specs.from_expand_declarations.WordNumbers.{document_words, word_number}
use Rattle.expand_fits_parts.specs.from_expand_documents.Cores.{core_document}
use Rattle.expand_fits_parts.specs.from_expand_documents.Faults.{expansion_fault}
use Rattle.expand_fits_parts.specs.from_expand_correct.Preserved.Claims.{step_in}
use Rattle.soundness.specs.PlanSteps.{CoreStep, of_program, IsRecordOf}
use Rattle.soundness.specs.Written.{AreClaims}

-- a step in core form
abbrev pub core_of : Document → ProofStep → CoreStep
core_of d s = of_program (word_number (document_words d) s.proof.program.text) (step_in d s.proof s.step)

-- a record is that of a step, and what the step claims is true of its program, a leads-to within the record's bound
pub record StepIsProved (d : Document) (s : ProofStep) (r : Record) : Type 0 where
  pub recorded : IsRecordOf (core_of d s) r
  pub claims : Claims d s.proof s.step r.bound

-- a document is accepted with this plan: it has its core form, whose steps give the plan, and all that is left to be
-- shown is valid
pub record IsValidlyPlanned (d : Document) (starts : CProgram → Bool) (plan : Plan) : Type 0 where
  pub named : IsWellNamed d
  pub faultless : expansion_fault d ≡ None
  pub core : IsCoreDocument (core_document d)
  pub walked : walk_of (core_document d) starts ≡ Ok plan
  pub valid : AllValid (core_document d).slots plan.goals

-- then the plan has a record for each step, in order, and what the step claims is true;
abbrev pub PlannedStepsAreTrue : Type 0
PlannedStepsAreTrue = (d : Document) (starts : CProgram → Bool) (plan : Plan) → IsValidlyPlanned d starts plan →
    AreClaims d →
    Pairwise (StepIsProved d) (document_steps d) plan.records

-- so each step of each proof claims what is true, within the bound of a record of the plan
abbrev pub EachClaimIsTrue : Type 0
EachClaimIsTrue = (d : Document) (starts : CProgram → Bool) (plan : Plan) → IsValidlyPlanned d starts plan →
    AreClaims d →
    EachStep (λ e proof step. (m : ℕ) × (r : Record) × (slice_get plan.records m ≡ Some r)
    × StepIsProved e (of_proof proof step) r) d
