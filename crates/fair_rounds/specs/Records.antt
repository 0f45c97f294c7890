-- When a record stands of a core program, and when its property holds.
use Rattle.std.specs.Prelude.{◌≡◌, ℕ, nat_eq, ℤ, Bool, true, false, ◌&&◌, List, [], ◌∷◌, Option, Some, None}
use Rattle.std.specs.Prelude.{IsTrue, slice_get}
use Rattle.std.specs.List.{list_all}
use Rattle.executor.specs.from_case_tables.declared.kind_table.Kind.{Kind}
use Rattle.meaning_laws.specs.from_meaning_states.State.{is_state, in_range}
use Rattle.meaning_laws.specs.from_meaning_executions.Counting.{ints_eq}
use Rattle.meaning_laws.specs.from_meaning_executions.Properties.{Test, implied, IsAlwaysDefined, IsInvariant, Unless}
use Rattle.meaning_laws.specs.from_meaning_executions.Properties.{Ensures, LeadsTo}
use Rattle.meaning_laws.specs.from_meaning_executions.Properties.{Until, Detects, Constant, Fixed}
use Rattle.meaning_laws.specs.Stands.{DefinedStands, FixedStands, InvariantStands, UnlessStands, ConstantStands}
use Rattle.meaning_laws.specs.Stands.{EnsuresStands, LeadsStands}
use Rattle.executor.specs.from_core_terms.declared.trees.Range.{Range}
use Rattle.executor.specs.from_core_terms.declared.trees.CForm.{CForm}
use Rattle.executor.specs.from_core_terms.declared.programs.CStmt.{CStmt}
use Rattle.executor.specs.from_core_terms.declared.programs.CSlot.{CSlot}
use Rattle.executor.specs.from_core_terms.declared.programs.CProgram.{CProgram}
use Rattle.executor.specs.from_core_terms.declared.documents.Helper.{Helper}
use Rattle.executor.specs.from_core_terms.Values.{form_value}
use Rattle.executor.specs.from_core_terms.Steps.{slot_ranges}
use Rattle.executor.specs.from_core_terms.Replacing.{arg_values}
use Rattle.executor.specs.CoreSystem.{core_system}
use Rattle.fair_rounds.specs.declared.records.Record.{Record}

-- a formula as a test of states, for these numbers of the parameters
abbrev pub holding : List ℤ → CForm → Test
holding e f state = form_value state e f

-- a state of the document that meets formulas without parameters
abbrev pub meets : List CSlot → List CForm → Test
meets slots under state = is_state (slot_ranges slots) state && list_all (λ f. form_value state [] f) under

-- there is a number for each range, and it lies in it
abbrev pub are_in_ranges : List Range → List ℤ → Bool
are_in_ranges [] [] = true
are_in_ranges [] (z ∷ zs) = false
are_in_ranges (r ∷ rs) [] = false
are_in_ranges (r ∷ rs) (z ∷ zs) = in_range (Some (r.lo, r.hi)) z && are_in_ranges rs zs

-- the statement is the one that the helper names, for these numbers of the parameters
abbrev pub names_statement : Helper → List ℤ → CStmt → Bool
names_statement h e s = nat_eq s.label h.label && ints_eq s.indices (arg_values e h.args)

-- the instance at this place is the one that the helper names
abbrev pub NamedAt : CProgram → Option Helper → List ℤ → ℕ → Type 0
NamedAt c None e place = ⊥
NamedAt c (Some h) e place = (i : CStmt) × (slice_get c.statements place ≡ Some i) × IsTrue (names_statement h e i)

-- p ensures q stands, by the instance that the helper names
pub record EnsuresNamed (slots : List CSlot) (c : CProgram) (u p q : Test) (e : List ℤ) (h : Option Helper) :
    Type 0 where
  pub choice : ℕ
  pub ensured : EnsuresStands (core_system slots c) u p q choice
  pub named : NamedAt c h e choice

-- what a record of a kind says of single steps, for these numbers of the parameters: from each state that meets
-- `under` to such a state. Where it leads to something, what it says of the executions whose states all do
abbrev pub KindStands : Kind → List CSlot → CProgram → Record → List ℤ → Type 0
KindStands Kind.Defined slots c r e = DefinedStands (core_system slots c) (meets slots r.under)
KindStands Kind.Invariant slots c r e = InvariantStands (core_system slots c) (meets slots r.under) (holding e r.p)
KindStands Kind.Unless slots c r e =
    UnlessStands (core_system slots c) (meets slots r.under) (holding e r.p) (holding e r.q)
KindStands Kind.Ensures slots c r e =
    EnsuresNamed slots c (meets slots r.under) (holding e r.p) (holding e r.q) e r.helper
KindStands Kind.Leadsto slots c r e =
    LeadsStands (core_system slots c) (meets slots r.under) (holding e r.p) (holding e r.q) r.bound
KindStands Kind.Until slots c r e =
    UnlessStands (core_system slots c) (meets slots r.under) (holding e r.p) (holding e r.q)
    × LeadsStands (core_system slots c) (meets slots r.under) (holding e r.p) (holding e r.q) r.bound
KindStands Kind.Detects slots c r e =
    InvariantStands (core_system slots c) (meets slots r.under) (implied (holding e r.p) (holding e r.q))
    × LeadsStands (core_system slots c) (meets slots r.under) (holding e r.q) (holding e r.p) r.bound
KindStands Kind.Constant slots c r e = ConstantStands (core_system slots c) (meets slots r.under) (holding e r.p)
KindStands Kind.Fixed slots c r e = FixedStands (core_system slots c) (meets slots r.under) (holding e r.p)

-- a record stands
abbrev pub Stands : List CSlot → CProgram → Record → Type 0
Stands slots c r = (e : List ℤ) → IsTrue (are_in_ranges r.params e) → KindStands r.kind slots c r e

-- what a record of a kind says of executions, for these numbers of the parameters
abbrev pub KindHolds : Kind → List CSlot → CProgram → Record → List ℤ → Type 0
KindHolds Kind.Defined slots c r e = IsAlwaysDefined (core_system slots c)
KindHolds Kind.Invariant slots c r e = IsInvariant (core_system slots c) (holding e r.p)
KindHolds Kind.Unless slots c r e = Unless (core_system slots c) (holding e r.p) (holding e r.q)
KindHolds Kind.Ensures slots c r e = Ensures (core_system slots c) (holding e r.p) (holding e r.q)
KindHolds Kind.Leadsto slots c r e = LeadsTo (core_system slots c) (holding e r.p) (holding e r.q) r.bound
KindHolds Kind.Until slots c r e = Until (core_system slots c) (holding e r.p) (holding e r.q) r.bound
KindHolds Kind.Detects slots c r e = Detects (core_system slots c) (holding e r.p) (holding e r.q) r.bound
KindHolds Kind.Constant slots c r e = Constant (core_system slots c) (holding e r.p)
KindHolds Kind.Fixed slots c r e = Fixed (core_system slots c) (holding e r.p)

-- a record's property holds
abbrev pub Holds : List CSlot → CProgram → Record → Type 0
Holds slots c r = (e : List ℤ) → IsTrue (are_in_ranges r.params e) → KindHolds r.kind slots c r e

-- what is kept of each record: it stands, and its `under` holds at every state of every execution
pub record IsKept (slots : List CSlot) (c : CProgram) (r : Record) : Type 0 where
  pub stands : Stands slots c r
  pub under : IsInvariant (core_system slots c) (meets slots r.under)
