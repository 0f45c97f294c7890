-- Laws of the systems of a document's programs and unions.
use Rattle.std.specs.Prelude.{◌≡◌, ℕ, ◌++◌, ◌↔◌, IsTrue, length}
use Rattle.unity_syntax.specs.declared.expression.Expr.{Expr}
use Rattle.unity_syntax.specs.declared.proof.Claim.{Claim}
use Rattle.unity_syntax.specs.from_case_tables.declared.word_table.Word.{Word}
use Rattle.meaning_executions.specs.from_meaning_states.State.{State, is_state}
use Rattle.meaning_executions.specs.Execution.{System, chosen_step}
use Rattle.meaning_executions.specs.Properties.{Everywhere}
use Rattle.meaning_executions.specs.Systems.{together}
use Rattle.meaning_executions.specs.Alike.{StepEquivalent}
use Rattle.meaning_documents.specs.Names.{Bindings}
use Rattle.meaning_documents.specs.Setting.{Setting, slot_ranges}
use Rattle.meaning_documents.specs.Programs.{Composed, union}
use Rattle.meaning_documents.specs.AsSystem.{is_initial, system_of}
use Rattle.meaning_documents.specs.Claims.{ClaimsOf}

-- at every state of every execution each slot's number lies in its range
abbrev pub EveryStateInRange : Type 0
EveryStateInRange = (g : Setting) (c : Composed) →
    Everywhere (system_of g c) (λ state. IsTrue (is_state (slot_ranges g.variables) state))

-- the steps of a union are those of its first part and then those of its second
abbrev pub UnionSteps : Type 0
UnionSteps = (g : Setting) (f h : Composed) →
    (system_of g (union f h)).steps ≡ (system_of g f).steps ++ (system_of g h).steps

-- a union is initial where both its parts are
abbrev pub UnionInitial : Type 0
UnionInitial = (g : Setting) (f h : Composed) (state : State) →
    IsTrue ((system_of g (union f h)).initial state) ↔
    (IsTrue ((system_of g f).initial state) × IsTrue ((system_of g h).initial state))

-- so the system of a union is the union of its parts' systems
abbrev pub UnionIsTogether : Type 0
UnionIsTogether = (g : Setting) (f h : Composed) → system_of g (union f h) ≡ together (system_of g f) (system_of g h)

-- to be alike a program of a document is to start as it does, and at each state of the document to step as it does
abbrev pub SourceAlike : Type 0
SourceAlike = (g : Setting) (c : Composed) (y : System) → length c.instances ≡ length y.steps →
    ((state : State) → is_initial g c state ≡ y.initial state) →
    ((state : State) (choice : ℕ) → IsTrue (is_state (slot_ranges g.variables) state) →
    chosen_step (system_of g c) choice state ≡ chosen_step y choice state) →
    StepEquivalent (slot_ranges g.variables) (system_of g c) y

-- `stable p` claims what `p unless false` claims
abbrev pub StableIsUnlessFalse : Type 0
StableIsUnlessFalse = (g : Setting) (x : System) (bindings : Bindings) (bound at other : ℕ) (p : Expr) →
    ClaimsOf g x bindings bound (Claim.Stable at p) ↔
    ClaimsOf g x bindings bound (Claim.Between at p Word.Unless (Expr.False other))
