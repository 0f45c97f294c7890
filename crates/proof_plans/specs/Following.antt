-- When a document follows: each step of its proofs gets its record by the rules, each proof has its `defined` step, and
-- each obligation that is left has one certificate, which refutes it.
use Rattle.std.specs.Prelude.{◌≡◌, ◌↔◌, ℕ, true, List, [], ◌∷◌, ◌++◌, Some, Ok}
use Rattle.meaning_executions.specs.Pairwise.{Pairwise}
use Rattle.core_terms.specs.declared.programs.CSlot.{CSlot}
use Rattle.core_terms.specs.declared.programs.CProgram.{CProgram}
use Rattle.core_terms.specs.declared.documents.CStep.{CStep}
use Rattle.core_terms.specs.declared.documents.CProof.{CProof}
use Rattle.core_terms.specs.declared.documents.CDocument.{CDocument}
use Rattle.core_terms.specs.Conditions.{IsCoreDocument}
use Rattle.obligations.specs.declared.certificates.Cert.{Cert}
use Rattle.certificate_rules.specs.Trees.{Refuted}
use Rattle.fair_rounds.specs.declared.records.Record.{Record}
use Rattle.safety_rules.specs.from_rules_table.Validity.{Goal, goal_obligation}
use Rattle.safety_rules.specs.from_rules_table.Conclusion.{Conclusion}
use Rattle.safety_rules.specs.from_rules_table.Walk.{Around, has_defined, program_of, rule_of}
use Rattle.rules_steps.specs.Starts.{document_seen}
use Rattle.proof_plans.specs.declared.plans.Plan.{Plan}
use Rattle.proof_plans.specs.Giving.{AreWhole}
use Rattle.proof_plans.specs.Verdicts.{most_levels, verdict_of}

-- each of these steps about a program gets its record by the rules, from the records before it; `last` are the records
-- after them, and `goals` is what they leave to be shown, in order
abbrev pub StepsFollow : Around → CProgram → List CStep → (before last : List Record) (goals : List Goal) → Type 0
StepsFollow seen c [] before last goals = (last ≡ before) × (goals ≡ [])
StepsFollow seen c (s ∷ rest) before last goals =
    (x : Conclusion) × (more : List Goal) × (rule_of seen c s before ≡ Ok x)
    × StepsFollow seen c rest (before ++ x.made ∷ []) last more × (goals ≡ x.goals ++ more)

-- each of these proofs is about a program, its steps follow, and one of the program's steps is a `defined` one
abbrev pub ProofsFollow : CDocument → List CProof → (before last : List Record) (goals : List Goal) → Type 0
ProofsFollow d [] before last goals = (last ≡ before) × (goals ≡ [])
ProofsFollow d (proof ∷ rest) before last goals =
    (c : CProgram) × (mid : List Record) × (first more : List Goal) × (program_of d.programs proof.program ≡ Some c)
    × StepsFollow (document_seen d) c proof.steps before mid first × (has_defined c.name mid ≡ true)
    × ProofsFollow d rest mid last more × (goals ≡ first ++ more)

-- a certificate of at most so many levels refutes the obligation that this is
abbrev pub GoalRefuted : ℕ → List CSlot → Goal → Cert → Type 0
GoalRefuted levels slots g c = Refuted levels (goal_obligation slots g.params g.form) c.nodes

-- the proofs follow, and there are as many certificates as is left to be shown, each of which refutes its obligation
-- within the levels of the document's version
pub record Follows (d : CDocument) (certs : List Cert) : Type 0 where
  pub records : List Record
  pub goals : List Goal
  pub steps : ProofsFollow d d.proofs [] records goals
  pub refuted : Pairwise (GoalRefuted (most_levels d.version) d.slots) goals certs

-- the verdict is a plan exactly where the document follows
abbrev pub AcceptedFollows : Type 0
AcceptedFollows = (d : CDocument) (certs : List Cert) → IsCoreDocument d → AreWhole certs →
    ((plan : Plan) × (verdict_of d certs ≡ Ok plan)) ↔ Follows d certs
