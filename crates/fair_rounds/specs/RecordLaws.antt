-- Records that are kept have their properties.
use Rattle.std.specs.Prelude.{◌≡◌, ℤ, List, IsTrue}
use Rattle.executor.specs.from_case_tables.declared.kind_table.Kind.{Kind}
use Rattle.meaning_laws.specs.from_meaning_executions.Properties.{IsAlwaysDefined, IsInvariant}
use Rattle.executor.specs.from_core_terms.declared.programs.CSlot.{CSlot}
use Rattle.executor.specs.from_core_terms.declared.programs.CProgram.{CProgram}
use Rattle.fair_rounds.specs.declared.records.Record.{Record}
use Rattle.executor.specs.CoreSystem.{core_system}
use Rattle.fair_rounds.specs.Records.{holding, are_in_ranges, IsKept, Holds}

-- with a record of kind Defined no step of an execution is undefined
abbrev pub DefinedKept : Type 0
DefinedKept = (slots : List CSlot) (c : CProgram) (r : Record) (e : List ℤ) → r.kind ≡ Kind.Defined →
    IsTrue (are_in_ranges r.params e) → IsKept slots c r → IsAlwaysDefined (core_system slots c)

-- an invariant's formula holds always, whether or not steps are defined
abbrev pub InvariantKept : Type 0
InvariantKept = (slots : List CSlot) (c : CProgram) (r : Record) (e : List ℤ) → r.kind ≡ Kind.Invariant →
    IsTrue (are_in_ranges r.params e) → IsKept slots c r → IsInvariant (core_system slots c) (holding e r.p)

-- where no step is undefined, each record has its property
abbrev pub KeptHolds : Type 0
KeptHolds = (slots : List CSlot) (c : CProgram) (r : Record) → IsAlwaysDefined (core_system slots c) →
    IsKept slots c r → Holds slots c r
