-- Programs in core form start and step as the programs of the document do.
use Rattle.std.specs.Prelude.{◌≡◌, ℕ, List, None, Some, slice_get}
use Rattle.unity_syntax.specs.declared.document.Document.{Document}
use Rattle.meaning_documents.specs.Setting.{programs_among, slot_ranges}
use Rattle.meaning_documents.specs.Programs.{Composed, program_named, programs_of, document_setting}
use Rattle.meaning_documents.specs.AsSystem.{system_of}
use Rattle.meaning_executions.specs.Alike.{StepEquivalent}
use Rattle.names_rules.specs.WellNamed.{IsWellNamed}
use Rattle.core_terms.specs.declared.programs.CProgram.{CProgram}
use Rattle.core_terms.specs.Steps.{slot_ranges as core_ranges}
use Rattle.expand_declarations.specs.WordNumbers.{document_words, word_number}
use Rattle.expand_rules.specs.Programs.{ExpandsTo, system_of_core}
use Rattle.expand_documents.specs.Cores.{core_named, core_document}
use Rattle.expand_documents.specs.Faults.{expansion_fault}

-- the core form of a document's program with this name
pub record IsCoreProgramOf (d : Document) (name : List ℕ) (c : Composed) (p : CProgram) : Type 0 where
  pub source : program_named name (programs_of d) ≡ Some c
  pub numbered : p.name ≡ word_number (document_words d) name
  pub found : core_named (word_number (document_words d) name) (core_document d).programs ≡ Some p
  pub matches : ExpandsTo (programs_among d.parts) c p

-- each program has a core program, which its number finds, and which starts and steps as it does;
abbrev pub ProgramsMatch : Type 0
ProgramsMatch = (d : Document) → IsWellNamed d → expansion_fault d ≡ None →
    (name : List ℕ) (c : Composed) → program_named name (programs_of d) ≡ Some c →
    (p : CProgram) × IsCoreProgramOf d name c p

-- and each core program is that of a program
abbrev pub CoresMatch : Type 0
CoresMatch = (d : Document) → IsWellNamed d → expansion_fault d ≡ None →
    (place : ℕ) (p : CProgram) → slice_get (core_document d).programs place ≡ Some p →
    (name : List ℕ) × (c : Composed) × IsCoreProgramOf d name c p

-- the slots have the ranges of the document's variables,
abbrev pub SlotsMatch : Type 0
SlotsMatch = (d : Document) → core_ranges (core_document d).slots ≡ slot_ranges (document_setting d).variables

-- so the executions of a program and of its core program are the same
abbrev pub ProgramsAlike : Type 0
ProgramsAlike = (d : Document) (name : List ℕ) (c : Composed) (p : CProgram) → IsCoreProgramOf d name c p →
    StepEquivalent (slot_ranges (document_setting d).variables) (system_of (document_setting d) c)
    (system_of_core (core_document d).slots p)
