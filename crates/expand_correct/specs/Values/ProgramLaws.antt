-- The core of a program has the executions of the program.
use Rattle.std.specs.Prelude.{◌≡◌, ℕ, ℤ, List, [], Option}
use Rattle.unity_syntax.specs.declared.program.Initially.{Initially}
use Rattle.unity_syntax.specs.declared.program.Program.{Program}
use Rattle.unity_syntax.specs.declared.statement.Items.{Items}
use Rattle.meaning_documents.specs.Instances.{instances}
use Rattle.meaning_documents.specs.Setting.{setting_of, slot_ranges}
use Rattle.meaning_documents.specs.Programs.{Composed, initial_formula, union}
use Rattle.meaning_documents.specs.AsSystem.{system_of}
use Rattle.meaning_executions.specs.Alike.{StepEquivalent}
use Rattle.core_terms.specs.declared.programs.CSlot.{CSlot}
use Rattle.core_terms.specs.declared.programs.CProgram.{CProgram}
use Rattle.core_terms.specs.Steps.{slot_ranges as core_ranges}
use Rattle.core_terms.specs.Unions.{joined_programs}
use Rattle.expand_rules.specs.Documents.{scope_of, within}
use Rattle.expand_rules.specs.Programs.{plain_core, InitiallyExact, StatementsExact, ExpandsTo, system_of_core}

-- a program that is no union matches its core,
abbrev pub PlainMatches : Type 0
PlainMatches = (programs : List Program) (number : List ℕ → ℕ) (name : ℕ) (shown : List ℕ) (start : List (ℕ × ℤ))
    (initially : Option Initially) (items : Items) →
    InitiallyExact (within (scope_of programs) []) initially → StatementsExact (within (scope_of programs) []) items →
    ExpandsTo programs (record { initially = initial_formula initially; instances = instances items })
    (plain_core number (within (scope_of programs) []) name shown start initially items)

-- so does a union of two that do,
abbrev pub UnionMatches : Type 0
UnionMatches = (programs : List Program) (name : ℕ) (c d : Composed) (f g : CProgram) →
    ExpandsTo programs c f → ExpandsTo programs d g → ExpandsTo programs (union c d) (joined_programs name f g)

-- and what matches is alike
abbrev pub MatchesAlike : Type 0
MatchesAlike = (programs : List Program) (c : Composed) (p : CProgram) (slots : List CSlot) → ExpandsTo programs c p →
    core_ranges slots ≡ slot_ranges (setting_of programs).variables →
    StepEquivalent (slot_ranges (setting_of programs).variables) (system_of (setting_of programs) c)
    (system_of_core slots p)
