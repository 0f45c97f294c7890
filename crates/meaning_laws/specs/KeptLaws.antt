-- Laws of systems that are kept to a test.
use Rattle.std.specs.Prelude.{◌≡◌, ℕ, List, ◌∷◌, ◌↔◌, Some, IsTrue, slice_get}
use Rattle.meaning_states.specs.State.{State}
use Rattle.meaning_executions.specs.Execution.{System, IsExecution}
use Rattle.meaning_executions.specs.Properties.{Test, Unless}
use Rattle.meaning_laws.specs.Tests.{both_hold, Implies}
use Rattle.meaning_executions.specs.Systems.{kept}
use Rattle.meaning_laws.specs.Stands.{DefinedStands, InvariantStands, UnlessStands, EnsuresStands, LeadsStands}

-- the executions of a system that is kept to a test are its executions whose states all pass the test
abbrev pub KeptRuns : Type 0
KeptRuns = (u : Test) (x : System) (first : State) (choices : List ℕ) (later : List State) →
    IsExecution (kept u x) first choices later ↔
    (IsExecution x first choices later ×
    ((place : ℕ) (state : State) → slice_get (first ∷ later) place ≡ Some state → IsTrue (u state)))

-- where p implies q at the states that pass u, p leads to q within 0 rounds
abbrev pub ImplicationKept : Type 0
ImplicationKept = (x : System) (u p q : Test) → Implies (both_hold u p) q → LeadsStands x u p q 0

-- `p unless q` that stands of single steps holds in these executions
abbrev pub UnlessKept : Type 0
UnlessKept = (x : System) (u p q : Test) → UnlessStands x u p q → Unless (kept u x) p q

-- `p ensures q` that stands of single steps gives `p leadsto q` within one round of these executions; no step need be
-- defined, since an execution that cannot go on ends
abbrev pub EnsuresLeadsKept : Type 0
EnsuresLeadsKept = (x : System) (u p q : Test) (choice : ℕ) → EnsuresStands x u p q choice → LeadsStands x u p q 1

-- Narrowing: what stands where u holds stands where a stronger v does.

-- `defined`
abbrev pub DefinedNarrows : Type 0
DefinedNarrows = (x : System) (u v : Test) → Implies v u → DefinedStands x u → DefinedStands x v

-- `invariant p`
abbrev pub InvariantNarrows : Type 0
InvariantNarrows = (x : System) (u v p : Test) → Implies v u → InvariantStands x u p → InvariantStands x v p

-- `p unless q`
abbrev pub UnlessNarrows : Type 0
UnlessNarrows = (x : System) (u v p q : Test) → Implies v u → UnlessStands x u p q → UnlessStands x v p q

-- `p ensures q`, by the same instance
abbrev pub EnsuresNarrows : Type 0
EnsuresNarrows = (x : System) (u v p q : Test) (choice : ℕ) → Implies v u →
    EnsuresStands x u p q choice → EnsuresStands x v p q choice

-- `p leadsto q`, within the same bound
abbrev pub LeadsNarrows : Type 0
LeadsNarrows = (x : System) (u v p q : Test) (bound : ℕ) → Implies v u →
    LeadsStands x u p q bound → LeadsStands x v p q bound
