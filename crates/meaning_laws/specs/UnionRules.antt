-- The union theorem (chapter 7): what stands of both parts of a union, each where a test of its own holds, stands of
-- the union where both tests hold.
use Rattle.std.specs.Prelude.{ℕ, ◌+◌, length}
use Rattle.meaning_executions.specs.Execution.{System}
use Rattle.meaning_executions.specs.Properties.{Test, never}
use Rattle.meaning_laws.specs.Tests.{both_hold}
use Rattle.meaning_executions.specs.Systems.{together}
use Rattle.meaning_laws.specs.Stands.{DefinedStands, InvariantStands, UnlessStands, EnsuresStands}

-- `defined` in both parts is `defined` in the union
abbrev pub UnionDefined : Type 0
UnionDefined = (x y : System) (u v : Test) → DefinedStands x u → DefinedStands y v →
    DefinedStands (together x y) (both_hold u v)

-- `p unless q` in both parts is `p unless q` in the union; so is `stable p`, with `false` for q
abbrev pub UnionUnless : Type 0
UnionUnless = (x y : System) (u v p q : Test) → UnlessStands x u p q → UnlessStands y v p q →
    UnlessStands (together x y) (both_hold u v) p q

-- an invariant of the first part that the second keeps is one of the union
abbrev pub UnionInvariant : Type 0
UnionInvariant = (x y : System) (u v p : Test) → InvariantStands x u p → UnlessStands y v p never →
    InvariantStands (together x y) (both_hold u v) p

-- and so is an invariant of the second that the first keeps
abbrev pub UnionInvariantSecond : Type 0
UnionInvariantSecond = (x y : System) (u v p : Test) → UnlessStands x u p never → InvariantStands y v p →
    InvariantStands (together x y) (both_hold u v) p

-- `p ensures q` in the first part and `p unless q` in the second: the union ensures it, by the same instance
abbrev pub UnionEnsures : Type 0
UnionEnsures = (x y : System) (u v p q : Test) (choice : ℕ) → EnsuresStands x u p q choice → UnlessStands y v p q →
    EnsuresStands (together x y) (both_hold u v) p q choice

-- and the other way round; the second part's instances come after all of the first part's
abbrev pub UnionEnsuresSecond : Type 0
UnionEnsuresSecond = (x y : System) (u v p q : Test) (choice : ℕ) →
    UnlessStands x u p q → EnsuresStands y v p q choice →
    EnsuresStands (together x y) (both_hold u v) p q (length x.steps + choice)
