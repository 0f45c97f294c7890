-- What a call's answer says of a verdict; want of memory says nothing.
use Rattle.std.specs.Prelude.{◌≡◌, List, true, Some, Result, Ok, Err, All, slice_get, ℕ}
use Rattle.core_terms.specs.declared.programs.CProgram.{CProgram}
use Rattle.core_terms.specs.declared.documents.CDocument.{CDocument}
use Rattle.obligations.specs.declared.certificates.Cert.{Cert}
use Rattle.certificate_rules.specs.Trees.{is_whole}
use Rattle.fair_rounds.specs.declared.records.Record.{Record}
use Rattle.fair_rounds.specs.Records.{Holds}
use Rattle.safety_rules.specs.from_rules_table.Walk.{program_of}
use Rattle.proof_plans.specs.declared.plans.Plan.{Plan}
use Rattle.proof_plans.specs.declared.plans.StepFault.{StepFault}
use Rattle.proof_plans.specs.declared.plans.ScriptError.{ScriptError}

-- the verdict's plan, or its fault
abbrev pub VerdictAnswers : Result Plan ScriptError → Result Plan StepFault → Type 0
VerdictAnswers (Ok plan) verdict = verdict ≡ Ok plan
VerdictAnswers (Err (ScriptError.Step fault)) verdict = verdict ≡ Err fault
VerdictAnswers (Err ScriptError.Memory) verdict = Unit {0}

-- each certificate is one whole tree
abbrev pub AreWhole : List Cert → Type 0
AreWhole certs = All (λ (c : Cert). is_whole c.nodes 1 ≡ true) certs

-- the property of each record holds in all executions of its program
abbrev pub PlanHolds : CDocument → Plan → Type 0
PlanHolds d plan = (place : ℕ) (a : Record) (c : CProgram) → slice_get plan.records place ≡ Some a →
    program_of d.programs a.program ≡ Some c → Holds d.slots c a
