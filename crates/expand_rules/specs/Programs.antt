-- The core of programs: the formula of their first states, and their statements.
use Rattle.std.specs.Prelude.{◌≡◌, ℕ, ℤ, List, [], map, ◌&&◌, true, Option, Some, None, slice_get, length, ⊤}
use Rattle.std.specs.List.{list_all}
use Rattle.names_rules.specs.from_unity_syntax.declared.program.Initially.{Initially}
use Rattle.names_rules.specs.from_unity_syntax.declared.program.Program.{Program}
use Rattle.names_rules.specs.from_unity_syntax.declared.statement.Items.{Items}
use Rattle.core_terms.specs.from_meaning_states.State.{State, is_state}
use Rattle.core_terms.specs.from_meaning_states.Step.{step}
use Rattle.meaning_documents.specs.Instances.{Instance, instances}
use Rattle.meaning_documents.specs.Setting.{setting_of, slot_ranges, is_true_at}
use Rattle.meaning_documents.specs.Programs.{Composed}
use Rattle.meaning_documents.specs.from_meaning_executions.Execution.{System}
use Rattle.meaning_documents.specs.AsSystem.{instance_step}
use Rattle.core_terms.specs.declared.trees.CForm.{CForm}
use Rattle.core_terms.specs.declared.trees.CForm.TheVariants.{Top}
use Rattle.core_terms.specs.declared.programs.CStmt.{CStmt}
use Rattle.core_terms.specs.declared.programs.CSlot.{CSlot}
use Rattle.core_terms.specs.declared.programs.CProgram.{CProgram}
use Rattle.core_terms.specs.Values.{form_value}
use Rattle.core_terms.specs.Steps.{slot_ranges as core_ranges, core_writes, core_step}
use Rattle.expand_rules.specs.Measures.{no_flaws}
use Rattle.expand_rules.specs.Forming.{Scope, form_of, as_truth, formed}
use Rattle.expand_rules.specs.Assigning.{Stated, stated, statements}

-- the formula of an initially section; without one, each state may be the first
abbrev pub initial_form : Scope → Option Initially → CForm
initial_form s None = Top
initial_form s (Some section) = form_of (as_truth (formed section.of s)).core

-- a statement, whose label has this number
abbrev pub core_statement : (List ℕ → ℕ) → Stated → CStmt
core_statement number st = record {
  label = number st.label;
  indices = st.indices;
  outside = st.effect.outside;
  writes = st.effect.writes;
}

-- a program that is no union: its name, the slots that it shows and its start values are given by its declarations
abbrev pub plain_core : (List ℕ → ℕ) → Scope → ℕ → List ℕ → List (ℕ × ℤ) → Option Initially → Items → CProgram
plain_core number s name shown start initially items = record {
  name = name;
  parts = None;
  shown = shown;
  initially = initial_form s initially;
  start = start;
  statements = map (core_statement number) (statements s items);
}

-- a section that is exact, and in which no range and no divisor is bad
abbrev pub InitiallyExact : Scope → Option Initially → Type 0
InitiallyExact s None = ⊤
InitiallyExact s (Some section) =
    ((as_truth (formed section.of s)).exact ≡ true) × ((as_truth (formed section.of s)).measure.flaws ≡ no_flaws)

-- statements that are exact, and in which no range and no divisor is bad
abbrev pub StatementsExact : Scope → Items → Type 0
StatementsExact s items = (place : ℕ) (i : Instance) → slice_get (instances items) place ≡ Some i →
    ((stated s i).effect.exact ≡ true) × ((stated s i).effect.count.flaws ≡ no_flaws)

-- a core program starts and steps as the program does, at each state of the document
pub record ExpandsTo (programs : List Program) (c : Composed) (p : CProgram) : Type 0 where
  pub initially : (state : State) → is_state (slot_ranges (setting_of programs).variables) state ≡ true →
      form_value state [] p.initially ≡ list_all (λ e. is_true_at (setting_of programs) [] e state) c.initially
  pub count : length p.statements ≡ length c.instances
  pub steps : (state : State) (choice : ℕ) (i : Instance) (s : CStmt) →
      is_state (slot_ranges (setting_of programs).variables) state ≡ true →
      slice_get c.instances choice ≡ Some i → slice_get p.statements choice ≡ Some s →
      step (slot_ranges (setting_of programs).variables) (core_writes state s) state
      ≡ instance_step (setting_of programs) i state

-- a core program as its executions see it
abbrev pub system_of_core : List CSlot → CProgram → System
system_of_core slots p = record {
  initial = λ state. is_state (core_ranges slots) state && form_value state [] p.initially;
  steps = map (core_step slots) p.statements;
}
