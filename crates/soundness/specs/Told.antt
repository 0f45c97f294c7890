-- What the text of an accepted document tells.
use Rattle.std.specs.Prelude.{◌≡◌, ℕ, Bool, List, [], ◌∷◌, ◌++◌, codes, decimal, length}
use Rattle.unity_syntax.specs.declared.document.Document.{Document}
use Rattle.meaning_documents.specs.Claims.{Claims}
use Rattle.core_terms.specs.declared.programs.CProgram.{CProgram}
use Rattle.meaning_documents.specs.Steps.{claim_kind, ProofStep, document_steps}
use Rattle.meaning_executions.specs.Pairwise.{Pairwise}
use Rattle.expand_fits_parts.specs.from_expand_documents.Cores.{core_document}
use Rattle.rules_table.specs.Walk as walk
use Rattle.cli_texts.specs.from_proof_plans.declared.plans.Plan.{Plan}
use Rattle.cli_texts.specs.Verdicts.{kind_text, accepted_text}
use Rattle.soundness.specs.Properties.{IsValidlyPlanned}
use Rattle.soundness.specs.Written.{AreClaims}

-- `PROGRAM.STEP KIND`, and of a leads-to its bound too, on a line
abbrev pub told_line : ProofStep → ℕ → List ℕ
told_line s bound =
    s.proof.program.text ++ (codes "." ++ (s.step.name.text ++ kind_text (claim_kind s.step.claim) bound))

-- the lines of steps with their bounds
abbrev pub told_lines : List ProofStep → List ℕ → List ℕ
told_lines [] bounds = []
told_lines (s ∷ rest) [] = []
told_lines (s ∷ rest) (bound ∷ bounds) = told_line s bound ++ told_lines rest bounds

-- `accepted S steps N obligations`, on a line
abbrev pub told_first : ℕ → ℕ → List ℕ
told_first steps obligations =
    codes "accepted " ++ (decimal steps ++ (codes " steps "
    ++ (decimal obligations ++ (codes " obligations" ++ 10 ∷ []))))

-- the text tells all steps of the document, in order, and what each claims is true, a leads-to within the bound that
-- is told
pub record TellsClaims (d : Document) (text : List ℕ) : Type 0 where
  pub bounds : List ℕ
  pub obligations : ℕ
  pub lines :
      text ≡ told_first (length (document_steps d)) obligations ++ told_lines (document_steps d) bounds
  pub claims : Pairwise (λ s bound. Claims d s.proof s.step bound) (document_steps d) bounds

-- the text of an accepted document does
abbrev pub AcceptedTells : Type 0
AcceptedTells = (d : Document) (starts : CProgram → Bool) (steps : walk.Plan) (plan : Plan) →
    IsValidlyPlanned d starts steps → AreClaims d → plan.records ≡ steps.records →
    TellsClaims d (accepted_text (core_document d).words plan)
