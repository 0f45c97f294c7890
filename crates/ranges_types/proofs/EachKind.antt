-- The kinds of names, all together.
use Rattle.std.proofs.Common.{ℕ, List}
use Rattle.names_rules.specs.Reading.{Words}
use Rattle.ranges_types.specs.declared.numbering.NameKind.{NameKind}
use Rattle.ranges_types.specs.Numbers.{ArePlaces}

-- what holds of the places of each kind holds of every kind
pub each_kind : (found : NameKind → List ℕ) (words : Words) →
    ArePlaces NameKind.Variable (found NameKind.Variable) words →
    ArePlaces NameKind.Always (found NameKind.Always) words →
    ArePlaces NameKind.Bound (found NameKind.Bound) words →
    ArePlaces NameKind.Program (found NameKind.Program) words →
    (kind : NameKind) → ArePlaces kind (found kind) words
each_kind found words variables always bound programs NameKind.Variable = variables
each_kind found words variables always bound programs NameKind.Always = always
each_kind found words variables always bound programs NameKind.Bound = bound
each_kind found words variables always bound programs NameKind.Program = programs
