-- Laws of the traces of a document, as statements that functions name.
use Rattle.std.specs.Prelude.{◌≡◌, ℕ, ℤ, List, map, true, Option, None, Result}
use Rattle.unity_syntax.specs.declared.document.Document.{Document}
use Rattle.meaning_documents.specs.Instances.{Instance, outermost_first}
use Rattle.meaning_documents.specs.Programs.{Composed}
use Rattle.names_rules.specs.WellNamed.{IsWellNamed}
use Rattle.core_terms.specs.declared.programs.CStmt.{CStmt}
use Rattle.core_terms.specs.declared.programs.CProgram.{CProgram}
use Rattle.core_terms.specs.Conditions.{IsCoreDocument}
use Rattle.expand_declarations.specs.Texts.{Texts, document_texts}
use Rattle.expand_declarations.specs.WordNumbers.{document_words, word_number}
use Rattle.expand_correct.specs.Declared.WordLaws.{is_among}
use Rattle.executor.specs.declared.runner.Stepped.{Stepped}
use Rattle.schedule_replay.specs.declared.heading.Heading.{Heading}
use Rattle.schedule_replay.specs.Lines.{word_text}
use Rattle.run_traces.specs.declared.trace_error.TraceError.{TraceError}
use Rattle.run_traces.specs.TraceAnswers.{CoreTraces}
use Rattle.run_traces.specs.declared.error.RunError.{RunError}
use Rattle.run_traces.specs.Answers.{CoreRuns, CoreReplays}
use Rattle.expand_correct.specs.Exact.Parts.{EachItem}
use Rattle.expand_correct.specs.from_expand_documents.Cores.{core_document}
use Rattle.expand_correct.specs.from_expand_documents.Faults.{expansion_fault}
use Rattle.expand_correct.specs.Preserved.Meaning.{IsCoreProgramOf}
use Rattle.run_correct.specs.Shown.{shown_slots}
use Rattle.run_correct.specs.Traces.{first_state}
use Rattle.run_correct.specs.Answers.{Traces, Runs, Replays}

-- the label and the indices of an instance in core form
abbrev pub core_name : CStmt → ℕ × List ℤ
core_name s = (s.label, s.indices)

-- the label's number, and the numbers of the bound names, of an instance
abbrev pub numbered_name : Texts → Instance → ℕ × List ℤ
numbered_name words i = (word_number words i.label, outermost_first i.bindings)

-- a core program has the name of the program and shows its slots, and its instances have the names of the program's
-- instances
pub record NamesMatch (d : Document) (name : List ℕ) (c : Composed) (p : CProgram) : Type 0 where
  pub name_is : word_text (document_words d) p.name ≡ name
  pub names : map core_name p.statements ≡ map (numbered_name (document_words d)) c.instances
  pub labels : EachItem (λ i. is_among (document_texts d) i.label ≡ true) c.instances
  pub shown : p.shown ≡ shown_slots d name

abbrev pub AllNamesMatch : Type 0
AllNamesMatch = (d : Document) (name : List ℕ) (c : Composed) (p : CProgram) → IsWellNamed d → IsCoreProgramOf d name c
    p →
    NamesMatch d name c p

-- what was written of a core program's trace is the trace of the program
abbrev pub TracesSay : Type 0
TracesSay = (d : Document) (name : List ℕ) (c : Composed) (p : CProgram) (heading : Heading) (choices : List ℕ)
    (old new : Option (List ℕ)) (answer : Result Stepped TraceError) → IsWellNamed d → IsCoreDocument
    (core_document d) →
    IsCoreProgramOf d name c p → CoreTraces (core_document d) p heading (first_state d p) choices old new answer →
    Traces d name c p heading choices old new answer

-- what `run` answers over the core form is what it answers over the document,
abbrev pub RunsSay : Type 0
RunsSay = (d : Document) (name : List ℕ) (steps : ℕ) (old new : Option (List ℕ)) (result : Result Stepped RunError) →
    IsWellNamed d → expansion_fault d ≡ None → IsCoreDocument (core_document d) →
    CoreRuns (core_document d) name steps old new result → Runs d name steps old new result

-- and so is what `replay` answers
abbrev pub ReplaysSay : Type 0
ReplaysSay = (d : Document) (old new : Option (List ℕ)) (result : Result Stepped RunError) →
    IsWellNamed d → expansion_fault d ≡ None → IsCoreDocument (core_document d) →
    CoreReplays (core_document d) old new result → Replays d old new result
