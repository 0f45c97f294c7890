-- The steps that leave obligations.
use Rattle.std.specs.Prelude.{◌≡◌, ℕ, Some, slice_get}
use Rattle.fair_rounds.specs.declared.records.Record.{Record}
use Rattle.proof_plans.specs.declared.plans.Plan.{Plan}

-- the step that leaves the obligation of this number, from 0
pub record IsLeftBy (plan : Plan) (number : ℕ) (made : Record) : Type 0 where
  pub place : ℕ
  pub owner : slice_get plan.owner number ≡ Some place
  pub record_is : slice_get plan.records place ≡ Some made

-- some step leaves it
abbrev pub IsOwned : Plan → ℕ → Type 0
IsOwned plan number = (made : Record) × IsLeftBy plan number made
