-- Core forms without quotients: what a search can go through with the document's own variables.
use Rattle.std.specs.Prelude.{◌≡◌, All, ⊤}
use Rattle.core_terms.specs.declared.trees.CTerm.{CTerm}
use Rattle.core_terms.specs.declared.trees.CForm.{CForm}
use Rattle.core_terms.specs.declared.programs.CWrite.{CWrite}
use Rattle.core_terms.specs.declared.programs.CStmt.{CStmt}
use Rattle.core_terms.specs.declared.programs.CProgram.{CProgram}
use Rattle.core_terms.specs.declared.documents.PTerm.{PTerm}
use Rattle.core_terms.specs.declared.documents.CRule.{CRule}
use Rattle.core_terms.specs.declared.documents.CStep.{CStep}
use Rattle.core_terms.specs.declared.documents.CDocument.{CDocument}
use Rattle.core_terms.specs.Conditions.{any_place, parts_of}
use Rattle.obligations.specs.Shapes.{Shapes, shapes, term_shape}

-- neither of two shapes has a quotient
pub record HaveNoQuotients (s : Shapes) : Type 0 where
  pub yes : s.yes.quotients ≡ 0
  pub no : s.no.quotients ≡ 0

-- no quotient can be taken in a formula, nor in its negation
abbrev pub FormIsPlain : CForm → Type 0
FormIsPlain f = HaveNoQuotients (shapes f)

-- nor in a term
abbrev pub TermIsPlain : CTerm → Type 0
TermIsPlain t = (term_shape t).quotients ≡ 0

pub record WriteIsPlain (w : CWrite) : Type 0 where
  pub condition : FormIsPlain w.when
  pub value : TermIsPlain w.value

pub record StatementIsPlain (s : CStmt) : Type 0 where
  pub outside : All FormIsPlain s.outside
  pub writes : All WriteIsPlain s.writes

pub record ProgramIsPlain (c : CProgram) : Type 0 where
  pub initially : FormIsPlain c.initially
  pub statements : All StatementIsPlain c.statements

-- a proof term's formulas and measures; which parameters are visible at them says nothing here
pub record ProofTermIsPlain (t : PTerm) : Type 0 where
  pub forms : All (λ e. FormIsPlain e.1) (parts_of t any_place).forms
  pub terms : All (λ e. TermIsPlain e.1) (parts_of t any_place).terms

abbrev pub RuleIsPlain : CRule → Type 0
RuleIsPlain (CRule.Proof t) = ProofTermIsPlain t
RuleIsPlain _ = ⊤

pub record StepIsPlain (s : CStep) : Type 0 where
  pub p : FormIsPlain s.p
  pub q : FormIsPlain s.q
  pub rule : RuleIsPlain s.rule

-- all programs and all steps of a document
pub record DocumentIsPlain (d : CDocument) : Type 0 where
  pub programs : All ProgramIsPlain d.programs
  pub proofs : All (λ p. All StepIsPlain p.steps) d.proofs
