-- The records of a plan: one for each step of a document in core form, in order.
use Rattle.std.specs.Prelude.{◌≡◌, ℕ, List, [], ◌∷◌, ◌++◌, map, Bool, Ok, Some, IsTrue, slice_get}
use Rattle.meaning_executions.specs.Pairwise.{Pairwise}
use Rattle.core_terms.specs.declared.programs.CProgram.{CProgram}
use Rattle.core_terms.specs.declared.documents.CStep.{CStep}
use Rattle.core_terms.specs.declared.documents.CProof.{CProof}
use Rattle.core_terms.specs.declared.documents.CDocument.{CDocument}
use Rattle.core_terms.specs.Conditions.{IsCoreDocument}
use Rattle.fair_rounds.specs.declared.records.Record.{Record}
use Rattle.rules_table.specs.Walk.{Plan, has_defined, program_of, walk_of}

-- a step, and the number of the program that its proof is about
pub record CoreStep : Type 0 where
  pub program : ℕ
  pub step : CStep

abbrev pub of_program : ℕ → CStep → CoreStep
of_program program step = record { program = program; step = step }

-- the steps of proofs, one after the other
abbrev pub core_steps : List CProof → List CoreStep
core_steps [] = []
core_steps (proof ∷ rest) = map (of_program proof.program) proof.steps ++ core_steps rest

-- a record is that of a step: it has its names, its claim and its parameters
pub record IsRecordOf (s : CoreStep) (r : Record) : Type 0 where
  pub name : r.name ≡ s.step.name
  pub program : r.program ≡ s.program
  pub kind : r.kind ≡ s.step.kind
  pub p : r.p ≡ s.step.p
  pub q : r.q ≡ s.step.q
  pub params : r.params ≡ s.step.params

-- where the steps of a document give a plan, its records are theirs, in order;
abbrev pub PlanIsSteps : Type 0
PlanIsSteps = (d : CDocument) → IsCoreDocument d → (starts : CProgram → Bool) (plan : Plan) →
    walk_of d starts ≡ Ok plan → Pairwise IsRecordOf (core_steps d.proofs) plan.records

-- what a plan has of the program of each proof: a record of a `defined` step, and the program passes the test of
-- start states
pub record IsStarted (starts : CProgram → Bool) (plan : Plan) (c : CProgram) : Type 0 where
  pub may_start : IsTrue (starts c)
  pub always_defined : IsTrue (has_defined c.name plan.records)

abbrev pub PlanIsStarted : Type 0
PlanIsStarted = (d : CDocument) → IsCoreDocument d → (starts : CProgram → Bool) (plan : Plan) →
    walk_of d starts ≡ Ok plan → (place : ℕ) (proof : CProof) → slice_get d.proofs place ≡ Some proof →
    (c : CProgram) → program_of d.programs proof.program ≡ Some c → IsStarted starts plan c
