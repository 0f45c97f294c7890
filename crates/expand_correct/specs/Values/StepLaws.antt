-- What the core of an assignment does.
use Rattle.std.specs.Prelude.{◌≡◌, List, true}
use Rattle.unity_syntax.specs.declared.program.Program.{Program}
use Rattle.meaning_states.specs.State.{State, is_state}
use Rattle.meaning_states.specs.Step.{step}
use Rattle.meaning_documents.specs.Setting.{setting_of, slot_ranges}
use Rattle.meaning_documents.specs.Instances.{Instance}
use Rattle.meaning_documents.specs.AsSystem.{instance_step}
use Rattle.core_terms.specs.declared.programs.CStmt.{CStmt}
use Rattle.core_terms.specs.Steps.{core_writes}
use Rattle.expand_rules.specs.Measures.{no_flaws}
use Rattle.expand_rules.specs.declared.effects.Effect.{Effect}
use Rattle.expand_rules.specs.Assigning.{stated}
use Rattle.expand_rules.specs.Documents.{scope_of}

-- a core statement has the effect of a statement
pub record HasEffect (c : CStmt) (e : Effect) : Type 0 where
  pub outside : c.outside ≡ e.outside
  pub writes : c.writes ≡ e.writes

-- at each state of the document it has the step of the statement's instance, if it is exact and no range and no divisor
-- in it is bad
abbrev pub CoreHasStep : Type 0
CoreHasStep = (programs : List Program) (state : State) (i : Instance) (c : CStmt) →
    is_state (slot_ranges (setting_of programs).variables) state ≡ true →
    HasEffect c (stated (scope_of programs) i).effect →
    (stated (scope_of programs) i).effect.exact ≡ true →
    (stated (scope_of programs) i).effect.count.flaws ≡ no_flaws →
    step (slot_ranges (setting_of programs).variables) (core_writes state c) state
    ≡ instance_step (setting_of programs) i state
