-- Where u holds at every state of every execution, what stands holds.
use Rattle.std.specs.Prelude.{ℕ}
use Rattle.meaning_executions.specs.Execution.{System}
use Rattle.meaning_executions.specs.Properties.{Test, IsAlwaysDefined, IsInvariant, Fixed, Unless, Constant, Ensures}
use Rattle.meaning_executions.specs.Properties.{LeadsTo}
use Rattle.meaning_laws.specs.Tests.{both_hold}
use Rattle.meaning_laws.specs.Stands.{DefinedStands, FixedStands, InvariantStands, UnlessStands, ConstantStands}
use Rattle.meaning_laws.specs.Stands.{EnsuresStands, LeadsStands}

-- two tests that always hold, hold together: so premises that stand under different tests can be assumed at once
abbrev pub InvariantBoth : Type 0
InvariantBoth = (x : System) (u v : Test) → IsInvariant x u → IsInvariant x v → IsInvariant x (both_hold u v)

-- `defined`: no step of an execution is undefined
abbrev pub DefinedHolds : Type 0
DefinedHolds = (x : System) (u : Test) → IsInvariant x u → DefinedStands x u → IsAlwaysDefined x

-- `fixed p`: every state with p of every execution is a fixed point
abbrev pub FixedHolds : Type 0
FixedHolds = (x : System) (u p : Test) → IsInvariant x u → FixedStands x u p → Fixed x p

-- `invariant p`: p holds at every state of every execution
abbrev pub InvariantHolds : Type 0
InvariantHolds = (x : System) (u p : Test) → IsInvariant x u → InvariantStands x u p → IsInvariant x p

-- `p unless q` at adjacent states of every execution
abbrev pub UnlessHolds : Type 0
UnlessHolds = (x : System) (u p q : Test) → IsInvariant x u → UnlessStands x u p q → Unless x p q

-- `constant p` at adjacent states of every execution
abbrev pub ConstantHolds : Type 0
ConstantHolds = (x : System) (u p : Test) → IsInvariant x u → ConstantStands x u p → Constant x p

-- `p ensures q`, where no step is undefined, and so the helper's is not
abbrev pub EnsuresHolds : Type 0
EnsuresHolds = (x : System) (u p q : Test) (choice : ℕ) → IsInvariant x u → IsAlwaysDefined x →
    EnsuresStands x u p q choice → Ensures x p q

-- `p leadsto q` within the same bound
abbrev pub LeadsHolds : Type 0
LeadsHolds = (x : System) (u p q : Test) (bound : ℕ) → IsInvariant x u →
    LeadsStands x u p q bound → LeadsTo x p q bound
