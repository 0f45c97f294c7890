-- The verdict on a document's proofs: the plan of all steps, where each obligation is refuted by the certificate of
-- its number, or the first failure.
use Rattle.std.specs.Prelude.{ℕ, suc, ◌+◌, nat_lt, nat_eq, cond, List, [], ◌∷◌, ◌++◌, map, length, slice_get}
use Rattle.std.specs.Prelude.{Option, Some, None, Result, Ok, Err}
use Rattle.case_tables.specs.declared.code_table.Code.{Code}
use Rattle.core_terms.specs.declared.programs.CProgram.{CProgram}
use Rattle.core_terms.specs.declared.documents.CStep.{CStep}
use Rattle.core_terms.specs.declared.documents.CProof.{CProof}
use Rattle.core_terms.specs.declared.documents.CDocument.{CDocument}
use Rattle.obligations.specs.declared.branches.Obligation.{Obligation}
use Rattle.obligations.specs.declared.certificates.Cert.{Cert}
use Rattle.certificate_rules.specs.Refutation.{WalkResult, walk_from_root}
use Rattle.safety_rules.specs.from_rules_table.Table.{needs}
use Rattle.safety_rules.specs.from_rules_table.Walk.{Around, has_defined, program_of, rule_of}
use Rattle.safety_rules.specs.declared.places.Derived.{Derived}
use Rattle.safety_rules.specs.Answers.{derived_of}
use Rattle.rules_steps.specs.Starts.{document_seen}
use Rattle.proof_plans.specs.declared.plans.Plan.{Plan}
use Rattle.proof_plans.specs.declared.plans.StepFault.{StepFault}

abbrev pub then_by : {A B : Type 0} → Result A StepFault → (A → Result B StepFault) → Result B StepFault
then_by (Ok x) f = f x
then_by (Err fault) f = Err fault

-- a condition of a rule fails, or at a proof's end its `defined` step is missing
abbrev pub rule_fault : ℕ → Option ℕ → Code → StepFault
rule_fault program step code = record {
  code = code;
  program = Some program;
  step = step;
  obligation = None;
}

abbrev pub or_rule_fault : {A : Type 0} → ℕ → Option ℕ → Result A Code → Result A StepFault
or_rule_fault program step (Ok x) = Ok x
or_rule_fault program step (Err code) = Err (rule_fault program step code)

-- how a certificate fails against an obligation: at its first node that fails, or where a subtree of it is missing
abbrev pub failing_node : WalkResult → Option Code
failing_node (Ok []) = None
failing_node (Ok (p ∷ ps)) = Some Code.CertMissing
failing_node (Err e) = Some e.0

abbrev pub failing : ℕ → Obligation → Option Cert → Option Code
failing levels o None = Some Code.CertMissing
failing levels o (Some cert) = failing_node (walk_from_root levels o cert.nodes)

-- how many levels a certificate of a document of this version may have
abbrev pub most_levels : ℕ → ℕ
most_levels version = cond (nat_eq version 2) 4096 1024

-- the obligation with this number, from 0, is not refuted
abbrev pub refutation_fault : ℕ → ℕ → ℕ → Code → StepFault
refutation_fault program step number code = record {
  code = code;
  program = Some program;
  step = Some step;
  obligation = Some (number + 1);
}

abbrev pub or_refutation_fault : ℕ → ℕ → ℕ → Option Code → Result (Unit {0}) StepFault
or_refutation_fault program step number None = Ok tt
or_refutation_fault program step number (Some code) = Err (refutation_fault program step number code)

-- each obligation, from this number on, against the certificate of its number, of so many levels
unfoldable pub refuted_by : ℕ → List Cert → ℕ → ℕ → ℕ → List Obligation → Result (Unit {0}) StepFault
refuted_by levels certs program step number [] = Ok tt
refuted_by levels certs program step number (o ∷ os) =
    then_by (or_refutation_fault program step number (failing levels o (slice_get certs number))) (λ done.
    refuted_by levels certs program step (suc number) os)

-- a step's record and obligations, after those before
abbrev pub grown : Plan → Derived → Plan
grown plan d = record {
  records = plan.records ++ d.made ∷ [];
  obligations = plan.obligations ++ d.obligations;
  owner = plan.owner ++ map (λ o. length plan.records) d.obligations;
}

-- the obligations of a step after its rule
unfoldable pub taken : ℕ → List Cert → ℕ → ℕ → Plan → Derived → Result Plan StepFault
taken levels certs program step plan d =
    then_by (refuted_by levels certs program step (length plan.obligations) d.obligations) (λ done. Ok (grown plan d))

-- a step: its rule, and then its obligations
unfoldable pub step_verdict : Around → List Cert → CProgram → CStep → Plan → Result Plan StepFault
step_verdict seen certs c s plan =
    then_by (or_rule_fault c.name (Some s.name) (rule_of seen c s plan.records)) (λ x.
    taken (most_levels seen.version) certs c.name s.name plan (derived_of seen.slots x))

unfoldable pub steps_verdict : Around → List Cert → CProgram → List CStep → Plan → Result Plan StepFault
steps_verdict seen certs c [] plan = Ok plan
steps_verdict seen certs c (s ∷ rest) plan =
    then_by (step_verdict seen certs c s plan) (steps_verdict seen certs c rest)

-- a proof has a `defined` step
abbrev pub end_verdict : CProgram → Plan → Result Plan StepFault
end_verdict c plan =
    or_rule_fault c.name None (needs (has_defined c.name plan.records) Code.DefinedMissing (Ok plan))

abbrev pub proof_verdict : Around → List Cert → Option CProgram → CProof → Plan → Result Plan StepFault
proof_verdict seen certs None proof plan = Ok plan
proof_verdict seen certs (Some c) proof plan = then_by (steps_verdict seen certs c proof.steps plan) (end_verdict c)

unfoldable pub proofs_verdict : Around → List Cert → List CProof → Plan → Result Plan StepFault
proofs_verdict seen certs [] plan = Ok plan
proofs_verdict seen certs (proof ∷ rest) plan =
    then_by (proof_verdict seen certs (program_of seen.programs proof.program) proof plan)
    (proofs_verdict seen certs rest)

-- more certificates than obligations, which are so many
abbrev pub surplus_fault : ℕ → StepFault
surplus_fault number = record {
  code = Code.CertSurplus;
  program = None;
  step = None;
  obligation = Some (number + 1);
}

-- no certificate is left
abbrev pub last_verdict : List Cert → Plan → Result Plan StepFault
last_verdict certs plan =
    cond (nat_lt (length plan.obligations) (length certs)) (Err (surplus_fault (length plan.obligations))) (Ok plan)

abbrev pub no_plan : Plan
no_plan = record { records = []; obligations = []; owner = [] }

-- the whole document
abbrev pub verdict_of : CDocument → List Cert → Result Plan StepFault
verdict_of d certs = then_by (proofs_verdict (document_seen d) certs d.proofs no_plan) (last_verdict certs)
