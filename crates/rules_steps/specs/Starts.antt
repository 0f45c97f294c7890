-- What a step sees of its document, and whether a program can start.
use Rattle.std.specs.Prelude.{ℕ, [], List, Bool, All}
use Rattle.core_terms.specs.declared.programs.CSlot.{CSlot}
use Rattle.core_terms.specs.declared.programs.CProgram.{CProgram}
use Rattle.core_terms.specs.declared.documents.CDocument.{CDocument}
use Rattle.core_terms.specs.Conditions.{IsSlot, IsProgram}
use Rattle.core_terms.specs.Values.{form_value}
use Rattle.executor.specs.StartState.{start_state}
use Rattle.safety_rules.specs.from_rules_table.Walk as walk
use Rattle.rules_steps.specs.declared.around.Around.{Around}

-- the start state of a program meets its initially section
abbrev pub starts_in : List CSlot → CProgram → Bool
starts_in slots c = form_value (start_state slots c) [] c.initially

-- a version, variables and programs, as the table sees them
abbrev pub seen_with : ℕ → List CSlot → List CProgram → walk.Around
seen_with version slots programs = record {
  version = version;
  slots = slots;
  programs = programs;
  starts = starts_in slots;
}

abbrev pub seen_of : Around → walk.Around
seen_of a = seen_with a.version a.slots.now a.programs.now

-- what a step sees fits together
pub record IsAround (a : Around) : Type 0 where
  pub slots : All IsSlot a.slots.now
  pub programs : All (IsProgram a.slots.now) a.programs.now

-- what the steps of a document see
abbrev pub document_seen : CDocument → walk.Around
document_seen d = walk.around_of d (starts_in d.slots)
