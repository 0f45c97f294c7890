-- What need says of the plain tree.
use Rattle.std.specs.Prelude.{◌≤◌}
use Rattle.obligations.specs.declared.branches.Obligation.{Obligation}
use Rattle.obligations.specs.Obligations.{IsObligation}
use Rattle.obligations.specs.Plain.{enough, need_of}

-- The units that are enough for an obligation are no more than its need.
abbrev pub EnoughBelowNeed : Type 0
EnoughBelowNeed = (o : Obligation) → IsObligation o → enough o ≤ need_of o
