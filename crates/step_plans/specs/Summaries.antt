-- What is kept of a plan, and what a call that keeps it answers of a verdict; want of memory says nothing.
use Rattle.std.specs.Prelude.{◌≡◌, ℕ, length, slice_get, Some, Result, Ok, Err}
use Rattle.core_terms.specs.declared.programs.CProgram.{CProgram}
use Rattle.core_terms.specs.declared.documents.CDocument.{CDocument}
use Rattle.fair_rounds.specs.declared.records.Record.{Record}
use Rattle.fair_rounds.specs.Records.{Holds}
use Rattle.safety_rules.specs.from_rules_table.Walk.{program_of}
use Rattle.proof_plans.specs.declared.plans.Plan.{Plan}
use Rattle.proof_plans.specs.declared.plans.StepFault.{StepFault}
use Rattle.proof_plans.specs.declared.plans.ScriptError.{ScriptError}
use Rattle.step_plans.specs.declared.summaries.Summary.{Summary}

-- the records of its steps, and how many obligations they left
abbrev pub summary_of : Plan → Summary
summary_of plan = record { records = plan.records; obligations = length plan.obligations }

-- a verdict, of which only this is kept
abbrev pub summed : Result Plan StepFault → Result Summary StepFault
summed (Ok plan) = Ok (summary_of plan)
summed (Err fault) = Err fault

-- what is kept of the verdict's plan, or its fault
abbrev pub SummaryAnswers : Result Summary ScriptError → Result Plan StepFault → Type 0
SummaryAnswers (Ok summary) verdict = summed verdict ≡ Ok summary
SummaryAnswers (Err (ScriptError.Step fault)) verdict = verdict ≡ Err fault
SummaryAnswers (Err ScriptError.Memory) verdict = Unit {0}

-- the property of each record holds in all executions of its program
abbrev pub SummaryHolds : CDocument → Summary → Type 0
SummaryHolds d summary = (place : ℕ) (a : Record) (c : CProgram) → slice_get summary.records place ≡ Some a →
    program_of d.programs a.program ≡ Some c → Holds d.slots c a
