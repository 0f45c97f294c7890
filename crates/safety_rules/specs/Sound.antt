-- That what a call gives stands, where its obligations are valid.
use Rattle.std.specs.Prelude.{Result, IfOk, All}
use Rattle.obligations.specs.Opening.{Valid}
use Rattle.fair_rounds.specs.declared.records.Record.{Record}
use Rattle.fair_rounds.specs.Records.{Stands}
use Rattle.safety_rules.specs.declared.places.Place.{Place}
use Rattle.safety_rules.specs.declared.places.Derived.{Derived}
use Rattle.safety_rules.specs.declared.places.RuleError.{RuleError}

-- a record stands of the place's program
abbrev pub StandsAt : Place → Record → Type 0
StandsAt pl r = Stands pl.slots.now pl.program.now r

-- where all obligations are valid, the record stands
abbrev pub StandsWhereShown : Place → Result Derived RuleError → Type 0
StandsWhereShown pl result = IfOk result (λ d. All Valid d.obligations → StandsAt pl d.made)
