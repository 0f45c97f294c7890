-- The law of the command `fixed`, as a statement that a function names.
use Rattle.std.specs.Prelude.{◌≡◌, ℕ, List, Option, None, Result}
use Rattle.unity_syntax.specs.declared.document.Document.{Document}
use Rattle.names_rules.specs.WellNamed.{IsWellNamed}
use Rattle.core_terms.specs.Conditions.{IsCoreDocument}
use Rattle.executor.specs.declared.runner.Stepped.{Stepped}
use Rattle.run_traces.specs.declared.error.RunError.{RunError}
use Rattle.run_correct.specs.from_expand_documents.Cores.{core_document}
use Rattle.run_correct.specs.from_expand_documents.Faults.{expansion_fault}
use Rattle.fixed_runs.specs.Answers.{CoreFixedRuns}
use Rattle.fixed_correct.specs.Answers.{FixedRuns}

-- what `fixed` answers over the core form is what it answers over the document
abbrev pub FixedRunsSay : Type 0
FixedRunsSay = (d : Document) (name : List ℕ) (steps : ℕ) (old new : Option (List ℕ))
    (result : Result Stepped RunError) → IsWellNamed d → expansion_fault d ≡ None → IsCoreDocument (core_document d) →
    CoreFixedRuns (core_document d) name steps old new result → FixedRuns d name steps old new result
